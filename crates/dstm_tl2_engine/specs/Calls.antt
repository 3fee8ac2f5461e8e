-- What a call of the engine does.
use Rattle.std.specs.Prelude.{◌≡◌, ◌⊎◌, ◌<◌, true, false, List, ◌++◌, length, All, Option, IsSome}
use Rattle.dstm_model.specs.declared.value.Val.{Val}
use Rattle.dstm_machines.specs.Traces.{IsPastOf, events_of}
use Rattle.dstm_tl2.specs.Rules.{Event}
use Rattle.dstm_tl2.specs.Sharing.{IsRunOf}
use Rattle.dstm_tl2.specs.State.{is_valid}
use Rattle.dstm_tl2_order.specs.declared.again.TlAgain.{TlAgain}
use Rattle.dstm_tl2_order.specs.Calls.{IsCall, answer_of}
use Rattle.dstm_tl2_order.specs.Made.{AreMade, Call, IsOnAttempt, events_in, newest_answer}
use Rattle.dstm_tl2_order.specs.Tasks.{Task}
use Rattle.dstm_tl2_engine.specs.Callers.{TlCalled, state, table_of_caller}
use Rattle.dstm_tl2_engine.specs.Outcomes.{begun_state, own_since}

module _ {L : Type 0} where
  -- An attempt has begun, and was not dropped with what it had locked: it was left by a call on it, or has committed,
  -- or has given nothing back.
  abbrev pub IsMade : TlCalled L → Type 0
  IsMade k = (0 < (state k).begun) × (IsSome k.left ⊎ ((is_valid (state k) ≡ true) ⊎ ((state k).gave_back ≡ false)))

  -- The caller's own events since its last Sample are those of calls on the attempt, made one after the other, the
  -- newest of which answered what the caller was given last. Each has made a step.
  pub record IsTold (k : TlCalled L) : Type 0 where
    pub calls : List Call
    pub own : own_since k ≡ events_in calls
    pub are_calls : AreMade (table_of_caller k) (begun_state k) IsOnAttempt calls
    pub each : All (λ (call : Call). 0 < length call.events) calls
    pub left : k.left ≡ newest_answer (table_of_caller k) (begun_state k) calls

module _ {L : Type 0} (holds : L → List Val → Type 0) where
  -- A CALL: the caller's own events since are those of the order of steps, and it answers as this says. What the caller
  -- has seen then goes on from what it had seen, and is a run.
  pub record Acts (task : Task) (k : TlCalled L) (again : Option TlAgain) (log : List Event) : Type 0 where
    pub events : List Event
    pub own : events_of k.number log ≡ events ++ events_of k.number k.log
    pub call : IsCall task (table_of_caller k) (state k) events
    pub answers : again ≡ answer_of (table_of_caller k) (state k) events
    pub seen : IsPastOf k.log log
    pub run : IsRunOf holds k.home.terms log

  -- That is what a call has made of its caller, in the same table and under the same number.
  pub record Performs (task : Task) (k n : TlCalled L) (again : Option TlAgain) : Type 0 where
    pub acts : Acts task k again n.log
    pub open acts use *
    pub same : (n.home ≡ k.home) × (n.number ≡ k.number)
