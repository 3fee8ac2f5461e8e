-- How an attempt by TL2 ends, where it is made call by call.
use Rattle.std.specs.Prelude.{◌≡◌, ◌⊎◌, ℕ, ◌&&◌, Bool, true, false, not, List, None}
use Rattle.dstm_model.specs.declared.value.Val.{Val}
use Rattle.dstm_mem.specs.Memory.{MarksAtMost}
use Rattle.dstm_tl2.specs.Sharing.{IsRunOf}
use Rattle.dstm_tl2_order.specs.Order.{is_spent}
use Rattle.dstm_tl2_order.specs.Tasks.{Work}
use Rattle.dstm_tl2_order.specs.Tasks.Work.{Committing, Opening}
use Rattle.dstm_tl2_order.specs.declared.again.TlAgain.{TlAgain}
use Rattle.dstm_tl2_engine.specs.Attempts.{Commits, Seen}
use Rattle.dstm_tl2_engine.specs.Callers.{TlCalled, is_live, is_opened, is_resting, state, table_of_caller}
use Rattle.dstm_tl2_engine.specs.Transactions.{Leaves, Stays}

module _ {L : Type 0} where
  -- AN ATTEMPT IS UNDER WAY: it has begun, no call on it answered an error, and nothing of it is committed
  abbrev pub is_under_way : TlCalled L → Bool
  is_under_way k = is_live k && is_resting (state k)

  -- no step was made: but for what is set, the caller is the same
  pub record IsStill (old new : TlCalled L) : Type 0 where
    pub same : new ≡ record old { writes = new.writes; set = new.set }
    pub opened : (p : ℕ) → is_opened new p ≡ is_opened old p

  -- the caller has no attempt left
  abbrev pub IsSpent : TlCalled L → Type 0
  IsSpent k = is_spent (table_of_caller k) (state k) ≡ true

  -- an attempt is under way, and the caller has one left
  abbrev pub goes_on : TlCalled L → Bool
  goes_on k = is_under_way k && not (is_spent (table_of_caller k) (state k))

  -- no attempt is under way, or the caller has none left
  abbrev pub IsClosed : TlCalled L → Type 0
  IsClosed k = goes_on k ≡ false

  module _ (holds : L → List Val → Type 0) where
    -- an attempt has taken effect under this number, in the steps of one commit
    pub record TakesEffect (old new : TlCalled L) (number : ℕ) : Type 0 where
      pub stays : Stays holds (Committing old.writes) old new
      pub commits : Commits old new number
      pub kept : new ≡ record old { log = new.log; left = None }
      pub run : IsRunOf holds old.home.terms new.log

    -- what the attempt has read are values of one moment
    pub record StoodTogether (k : TlCalled L) : Type 0 where
      pub seen : Seen holds k

    -- AN OBJECT IS OPEN, for writing or for reading: it was read before, and no step was made; or the steps are those of
    -- opening it, once. Nothing else is opened for writing.
    abbrev pub Opens : (writes : Bool) → ℕ → TlCalled L → TlCalled L → Type 0
    Opens true o old new =
        ((new ≡ record old { writes = new.writes; set = new.set }) ⊎ Stays holds (Opening o) old new)
        × MarksAtMost o (is_opened old) (is_opened new)
    Opens false o old new = (new ≡ old) ⊎ (Stays holds (Opening o) old new × (new.writes ≡ old.writes))

    -- THE ATTEMPT IS OVER: it was before, and nothing was done; or this work has left it, for a cause of the engine
    abbrev pub IsOver : Work → TlCalled L → TlCalled L → Type 0
    IsOver work old new = (IsClosed old × (new ≡ old)) ⊎ ((cause : TlAgain) × Leaves holds work old new cause)

    -- a commit that did not take effect
    abbrev pub IsLost : TlCalled L → TlCalled L → Type 0
    IsLost old new = IsOver (Committing old.writes) old new
