-- What the engine's calls add up to.
use Rattle.std.specs.Prelude.{◌≡◌, Bool, true, List, [], ◌∷◌, Option, Some}
use Rattle.dstm_machines.specs.Traces.{events_of}
use Rattle.dstm_model.specs.declared.value.Val.{Val}
use Rattle.dstm_tl2.specs.Rules.{Event}
use Rattle.dstm_tl2.specs.State.{LocalState}
use Rattle.dstm_tl2_order.specs.Calls.{answer_of}
use Rattle.dstm_tl2_order.specs.Made.{ByCalls, Call, LocksItsWrites, state_by}
use Rattle.dstm_tl2_order.specs.Tasks.{Task}
use Rattle.dstm_tl2_order.specs.declared.again.TlAgain.{TlAgain}
use Rattle.dstm_tl2_engine.specs.Callers.{TlCalled, state, table_of_caller}
use Rattle.dstm_tl2_engine.specs.Calls.{Performs}
use Rattle.dstm_tl2_engine.specs.Endings.{Attempts}
use Rattle.dstm_tl2_engine.specs.Makes.{Makes}
use Rattle.dstm_tl2_engine.specs.Outcomes.{begun_state}
use Rattle.dstm_tl2_engine.specs.Tables.{Enrols, Retires, TlFounding}

-- Calls add up: none is one, each step of the engine is one, and two of them are one behind the other; from a caller
-- that has done nothing they are all its own events, also in a longer log that has no more of these.
pub record CallsAddUp (L : Type 0) (holds : L → List Val → Type 0) (may : (state : LocalState) (task : Task) → Bool) :
    Type 0 where
  pub none : (k : TlCalled L) → Makes (λ state task. may state task ≡ true) k k
  pub one : (task : Task) (k n : TlCalled L) (again : Option TlAgain) → may (state k) task ≡ true →
      Performs holds task k n again → Makes (λ state task. may state task ≡ true) k n
  pub both : (k n m : TlCalled L) → Makes (λ state task. may state task ≡ true) k n →
      Makes (λ state task. may state task ≡ true) n m → Makes (λ state task. may state task ≡ true) k m
  pub all : (k n : TlCalled L) (log : List Event) →
      events_of k.number k.log ≡ [] → Makes (λ state task. may state task ≡ true) k n →
      events_of n.number log ≡ events_of n.number n.log →
      ByCalls (λ state task. may state task ≡ true) (table_of_caller k) log n.number

-- THE CALLS OF AN ATTEMPT that was made are calls, each of which locks no more than is written
abbrev pub AttemptsAreCalls : (L : Type 0) (holds : L → List Val → Type 0) → Type 0
AttemptsAreCalls L holds =
    (k n : TlCalled L) (again : Option TlAgain) → Attempts holds k n again → Makes LocksItsWrites k n

-- THE ANSWER OF AN ATTEMPT that was left is that of its last call
abbrev pub AnswersAreOfCalls : (L : Type 0) (holds : L → List Val → Type 0) → Type 0
AnswersAreOfCalls L holds =
    (k n : TlCalled L) (again : TlAgain) (attempt : Attempts holds k n (Some again)) →
    (last : Call) × (before : List Call) × (attempt.told.calls ≡ last ∷ before)
    × (answer_of (table_of_caller n) (state_by (table_of_caller n) (begun_state n) before) last.events ≡ Some again)

-- THE LIFE OF A CALLER: it enrols, makes calls and is retired. In a log that has as many of its events as its
-- founder's, they are those of calls.
abbrev pub ALifeIsCalls : (L : Type 0) (holds : L → List Val → Type 0) → Type 0
ALifeIsCalls L holds =
    (f g later last : TlFounding L) (k n : TlCalled L) (log : List Event) → Enrols holds f g k →
    Makes LocksItsWrites k n → Retires holds later last n →
    events_of n.number log ≡ events_of n.number last.view.log →
    ByCalls LocksItsWrites (table_of_caller n) log n.number
