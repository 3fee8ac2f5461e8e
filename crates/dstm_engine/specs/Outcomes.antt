-- What is known of an attempt that was left; what is promised to one that is alone, and to the oldest transaction.
use Rattle.std.specs.Prelude.{false, ◌≡◌, ◌≢◌, ℕ, ◌+◌, ◌*◌, ◌<◌, ◌≤◌, true, List, None, IfSome}
use Rattle.dstm_progress.specs.Disturbed.{Disturbed, HasOther}
use Rattle.dstm_progress.specs.Ends.{StaysAt}
use Rattle.dstm_core.specs.Words.{code_of}
use Rattle.dstm_core.specs.declared.shape.Manager.{Manager}
use Rattle.dstm_core.specs.declared.status.Status.TheVariants as status
use Rattle.dstm_core.specs.declared.shape.Manager.TheVariants.{Greedy}
use Rattle.dstm_managers.specs.Meetings.{most_turns}
use Rattle.dstm_order.specs.declared.again.Again.{Again}
use Rattle.dstm_order.specs.declared.again.Again.TheVariants.{Stale, Killed, Lost, Waited}
use Rattle.dstm_order.specs.Counts.{counts_of}
use Rattle.dstm_engine.specs.Callers.{Called, shape_of, begun_log, is_live, since_begin, state}
use Rattle.dstm_progress.specs.Alone.{AreOf, IsUnmet, Made, count, is_open, is_recheck}
use Rattle.dstm_progress.specs.Oldest.{IsOldest}
use Rattle.dstm_engine.specs.Calls.{IsTold}

-- the greatest number of own steps of an attempt that is alone and has made so many first opens
abbrev pub bound : Manager → ℕ → ℕ
bound manager c = c * c + c * (most_turns manager + 17) + 8

-- what a call may answer under these promises
abbrev pub IsStaleOrLost : Again → Type 0
IsStaleOrLost (Stale o) = Unit {0}
IsStaleOrLost Lost = Unit {0}
IsStaleOrLost Killed = ⊥
IsStaleOrLost Waited = ⊥

abbrev pub IsLost : Again → Type 0
IsLost Lost = Unit {0}
IsLost again = ⊥

module _ {L : Type 0} where
  -- What is known of a caller whose attempt was left: it is over, its status is aborted and stays so, it was disturbed,
  -- and the table has another caller, of whom every cause but a wait shows an event since the attempt's Begin.
  pub record IsLeft (n : Called L) (again : Again) : Type 0 where
    pub over : is_live n ≡ false
    pub aborted : StaysAt (shape_of n) n.log n.number (code_of status.Aborted)
    pub disturbed : Disturbed (shape_of n) n.log n.number (state n).begun
    pub callers : 1 < (shape_of n).callers
    pub other : again ≢ Waited → HasOther n.number (since_begin n.number n.log)

  -- no other caller's event stands in the attempt, under a manager that waits for enemies of bounded patience
  pub record IsAlone (k : Called L) : Type 0 where
    pub own : AreOf k.number (since_begin k.number k.log)
    pub manager : IsUnmet (shape_of k) k.number k.log

  -- its transaction was the oldest live one as its attempt began
  pub record BeganOldest (k : Called L) : Type 0 where
    pub greedy : (shape_of k).manager ≡ Greedy
    pub oldest : IsOldest (shape_of k) (begun_log k.number k.log) k.number

  pub record Promises (n : Called L) (again : Again) : Type 0 where
    pub alone : IsAlone n → ⊥
    pub oldest : BeganOldest n → IsStaleOrLost again
    pub all_write : BeganOldest n → (shape_of n).all_write ≡ true → IsLost again

  -- the steps of an attempt that was alone and has committed by these calls, those of its releases too
  abbrev pub IsBounded : Called L → List Made → Type 0
  IsBounded n calls =
      IsAlone n →
      (counts_of (shape_of n) n.log n.number).steps
      ≤ bound (shape_of n).manager (count is_open calls) + 2 * count is_recheck calls

  -- What is known of a caller whose last attempt has ended, or was dropped: the calls that were made on it; what is
  -- known of its end where it was left; and its steps where it was alone and has committed.
  pub record IsEnded (n : Called L) : Type 0 where
    pub told : IsTold n
    pub left : IfSome n.left (λ again. IsLeft n again × Promises n again)
    pub bounded : n.left ≡ None → IsBounded n told.calls
