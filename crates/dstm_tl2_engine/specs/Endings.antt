-- How an attempt ends.
use Rattle.std.specs.Prelude.{◌≡◌, ◌+◌, true, List, [], Option, Some, None}
use Rattle.dstm_model.specs.declared.value.Val.{Val}
use Rattle.dstm_machines.specs.Traces.{IsPastOf}
use Rattle.dstm_tl2.specs.Sharing.{IsRunOf}
use Rattle.dstm_tl2.specs.State.{is_valid}
use Rattle.dstm_tl2_order.specs.declared.again.TlAgain.{TlAgain}
use Rattle.dstm_tl2_engine.specs.declared.error.TlEnded.{TlEnded}
use Rattle.dstm_tl2_engine.specs.declared.error.TlEnded.TheVariants as ended
use Rattle.dstm_tl2_engine.specs.Attempts.{Seen, done}
use Rattle.dstm_tl2_engine.specs.Callers.{TlCalled, begun_log, state}
use Rattle.dstm_tl2_engine.specs.Calls.{IsTold, Performs}
use Rattle.dstm_tl2_engine.specs.Outcomes.{IsLeft}
use Rattle.dstm_tl2_order.specs.Tasks.Task.{Beginning}
use Rattle.dstm_tl2_engine.specs.Transactions.{SpentFrom}

abbrev pub IsSpent : TlEnded → Type 0
IsSpent ended.Spent = Unit {0}
IsSpent (ended.Again again) = ⊥

module _ {L : Type 0} (holds : L → List Val → Type 0) where
  -- AN ATTEMPT WAS MADE: it began, calls were made on it one after the other, and the newest of these answered this.
  -- Nothing is locked any more; where it answered nothing the attempt is valid. The log went on.
  pub record Attempts (k n : TlCalled L) (again : Option TlAgain) : Type 0 where
    pub began : TlCalled L
    pub begins : Performs holds Beginning k began None
    pub at_begin : began.log ≡ begun_log n.number n.log
    pub told : IsTold n
    pub answers : again ≡ n.left
    pub free : (state n).holds ≡ []
    pub valid : again ≡ None → is_valid (state n) ≡ true
    pub begun : (state n).begun ≡ (state k).begun + 1
    pub seen : Seen holds n
    pub past : IsPastOf k.log n.log
    pub run : IsRunOf holds k.home.terms n.log
    pub same : (n.home ≡ k.home) × (n.number ≡ k.number)

  -- An attempt that did not commit: a call on it ended with this answer, or none began. Nothing was committed.
  abbrev pub EndsBy : TlCalled L → TlCalled L → TlEnded → Type 0
  EndsBy k n ended.Spent = SpentFrom holds k n
  EndsBy k n (ended.Again again) = Attempts k n (Some again) × IsLeft n × (done n ≡ done k)
