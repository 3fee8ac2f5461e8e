-- What a call on an attempt leaves as it is.
use Rattle.std.specs.Prelude.{◌≡◌, IsTrue, OnOk, Result}
use Rattle.dstm_model.specs.declared.value.AnyLaw.{AnyLaw}
use Rattle.dstm_engine.specs.Callers.{is_live}
use Rattle.dstm_engine.specs.declared.tx.Tx.{Tx}

-- the attempt is the same caller's on the same table, and live where the call was answered
abbrev pub GoesOn : {A E : Type 0} → Tx AnyLaw → Tx AnyLaw → Result A E → Type 0
GoesOn before after result =
    OnOk result (IsTrue (is_live after.caller.now)) × (after.caller.ghost_name ≡ before.caller.ghost_name)
    × (after.stm.now ≡ before.stm.now) × (after.caller.now.home ≡ before.caller.now.home)
