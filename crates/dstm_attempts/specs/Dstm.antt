-- How an attempt by DSTM began, and how it ends, where it is made call by call.
use Rattle.std.specs.Prelude.{◌≡◌, ◌≢◌, ◌⊎◌, ℕ, Bool, true, false, List, None}
use Rattle.rand_pcg.specs.Lcg.{Lcg}
use Rattle.dstm_model.specs.declared.value.Val.{Val}
use Rattle.dstm_core.specs.Events.{Event}
use Rattle.dstm_core.specs.declared.shape.Shape.{Shape}
use Rattle.dstm_words.specs.Seats.{IsRunOf}
use Rattle.dstm_order.specs.Order.{is_spent}
use Rattle.dstm_order.specs.Tasks.{Work}
use Rattle.dstm_order.specs.Tasks.Task.{Leaving}
use Rattle.dstm_order.specs.Tasks.Work.{Committing, Writing}
use Rattle.dstm_order.specs.declared.again.Again.{Again as Cause}
use Rattle.dstm_engine.specs.Attempts.{Commits}
use Rattle.dstm_engine.specs.Callers.{Called, begun_log, is_live, new_value, shape_of, state}
use Rattle.dstm_engine.specs.Calls.{Performs, reading}
use Rattle.dstm_engine.specs.Transactions.{Leaves, Stays}

-- an attempt as it began: the log, the generator, and whether an attempt after it is the first of a new transaction
pub record Beginning : Type 0 where
  pub log : List Event
  pub generator : Lcg
  pub fresh : Bool

-- the work of an open, for writing or for reading
abbrev pub opening : Shape → (writes : Bool) → ℕ → Work
opening s true o = Writing o
opening s false o = reading s o

module _ {L : Type 0} where
  abbrev pub beginning : Called L → Beginning
  beginning k = record { log = begun_log k.number k.log; generator = k.began; fresh = k.fresh }

  -- no step was made: but for what is set, the caller is the same
  abbrev pub IsStill : Called L → Called L → Type 0
  IsStill old new = new ≡ record old { set = new.set }

  -- no attempt is live
  pub record IsQuit (k : Called L) : Type 0 where
    pub over : is_live k ≡ false

  -- the caller has no attempt left, or no locator
  abbrev pub IsSpent : Called L → Type 0
  IsSpent k = is_spent (shape_of k) (state k) ≡ true

  module _ (holds : L → List Val → Type 0) where
    -- an attempt has taken effect under this number, in the steps of one commit
    pub record TakesEffect (old new : Called L) (number : ℕ) : Type 0 where
      pub stays : Stays holds (Committing (new_value old)) old new
      pub commits : Commits old new number
      pub home : new.home ≡ old.home
      pub run : IsRunOf holds old.home.terms new.log

    -- AN OBJECT IS OPEN: it was before, and no step was made; or the steps are those of this work, done once
    abbrev pub Opens : Work → Called L → Called L → Type 0
    Opens work old new = IsStill old new ⊎ Stays holds work old new

    -- THE ATTEMPT IS OVER: it was before, and nothing was done; or this work has left it, for a cause of the engine
    abbrev pub IsOver : Work → Called L → Called L → Type 0
    IsOver work old new =
        ((is_live old ≡ false) × (new ≡ old)) ⊎ ((cause : Cause) × Leaves holds work old new cause)

    -- IT WAS LEFT, where it was not over: the steps are those of leaving it, and nothing else of the caller was changed
    pub record IsAbandoned (old new : Called L) : Type 0 where
      pub steps : Performs holds Leaving old new None
      pub only : new ≡ record old { log = new.log }
      pub over : old.left ≢ None → new ≡ old

    -- a commit that did not take effect
    abbrev pub IsLost : Called L → Called L → Type 0
    IsLost old new = IsOver (Committing (new_value old)) old new
