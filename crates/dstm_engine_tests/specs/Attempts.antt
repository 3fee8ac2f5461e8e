-- What calls leave of an attempt of either engine. M has the meanings of the attempt's kind.
use Rattle.std.specs.Prelude.{◌≡◌, IsTrue, None}
use Rattle.dstm_mem.specs.declared.memory.Mem.{Ghosts}

-- the attempt is live where no call on it has answered an error
abbrev pub IsSound : {S E : Type 0} → Ghosts S E → S → Type 0
IsSound M attempt = M.error attempt ≡ None → IsTrue (M.is_live attempt)

-- it is the same attempt, with as many objects
pub record GoesOn {S E : Type 0} (M : Ghosts S E) (old new : S) : Type 0 where
  pub place : M.place new ≡ M.place old
  pub objects : M.objects new ≡ M.objects old
  pub sound : IsSound M new
