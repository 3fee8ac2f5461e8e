-- An attempt between two calls, and its reads.
use Rattle.std.specs.Prelude.{◌≡◌, ◌<◌, false, [], None}
use Rattle.dstm_tl2.specs.State.{LocalState, Read}
use Rattle.dstm_tl2_steps.specs.declared.opened.ReadSlot.{ReadSlot}

-- a read as the machine records it
abbrev pub slot_read : ReadSlot → Read
slot_read slot = record { object = slot.object; word = slot.word; value = slot.value }

-- An attempt between two calls, before it locks: it has begun, and nothing is under way.
pub record AtRest (state : LocalState) : Type 0 where
  pub begun : 0 < state.begun
  pub no_look : state.look ≡ None
  pub untold : (state.writes ≡ None) × (state.locked ≡ 0) × (state.holds ≡ [])
  pub undrawn : state.drawn ≡ None
  pub sound : (state.failed ≡ false) × (state.gave_back ≡ false)
