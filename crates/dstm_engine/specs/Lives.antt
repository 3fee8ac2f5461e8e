-- What the engine's calls add up to.
use Rattle.std.specs.Prelude.{◌≡◌, ℕ, Bool, true, List, [], Option, is_none}
use Rattle.dstm_core.specs.Events.{Event}
use Rattle.dstm_core.specs.State.{LocalState}
use Rattle.dstm_core.specs.Traces.{events_of}
use Rattle.dstm_model.specs.declared.value.Val.{Val}
use Rattle.dstm_order.specs.Tasks.{Task}
use Rattle.dstm_order.specs.declared.again.Again.{Again}
use Rattle.dstm_engine.specs.Callers.{Called, shape_of, state}
use Rattle.dstm_engine.specs.Calls.{Performs}
use Rattle.dstm_order.specs.Made.{ByCalls}
use Rattle.dstm_engine.specs.Makes.{Makes}
use Rattle.dstm_progress.specs.Lives.{TriesByShape}
use Rattle.dstm_order.specs.Retries.{TriesAgain, is_new}
use Rattle.dstm_managers.specs.Choices.{started}
use Rattle.dstm_engine.specs.Endings.{Attempts}
use Rattle.dstm_engine.specs.Tables.{Enrols, Founding, Retires}

-- Calls add up: none is one, each step of the engine is one, and two of them are one behind the other; from a caller that
-- has done nothing they are all its own events, also in a longer log that has no more of these.
pub record CallsAddUp (L : Type 0) (holds : L → List Val → Type 0) (may : (state : LocalState) (task : Task) → Bool) :
    Type 0 where
  pub none : (k : Called L) → Makes (λ state task. may state task ≡ true) k k
  pub one : (task : Task) (k n : Called L) (again : Option Again) → may (state k) task ≡ true →
      Performs holds task k n again → Makes (λ state task. may state task ≡ true) k n
  pub both : (k n m : Called L) → Makes (λ state task. may state task ≡ true) k n →
      Makes (λ state task. may state task ≡ true) n m → Makes (λ state task. may state task ≡ true) k m
  pub all : (k n : Called L) (log : List Event) →
      events_of k.number k.log ≡ [] → Makes (λ state task. may state task ≡ true) k n →
      events_of n.number log ≡ events_of n.number n.log →
      ByCalls (λ state task. may state task ≡ true) (shape_of k) k.generator log n.number

-- THE CALLS OF AN ATTEMPT that was made are calls, of which none opens for reading where all opens are for writing, and leave
-- a caller that tries again where it was not committed
pub record AttemptsAreCalls (L : Type 0) (holds : L → List Val → Type 0) : Type 0 where
  pub makes : (k n : Called L) (again : Option Again) → k.fresh ≡ is_new (state k) → Attempts holds k n again →
      Makes (TriesByShape (shape_of k)) k n
  pub again : (k n : Called L) (again : Option Again) → Attempts holds k n again → is_new (state n) ≡ is_none again

-- THE LIFE OF A CALLER: it enrols, makes calls and is retired. In a log that has as many of its events as its founder's,
-- they are those of calls that began with the generator of its seed; and where these opened objects as the table wants it, all
-- did.
abbrev pub ALifeIsCalls : (L : Type 0) (holds : L → List Val → Type 0) → Type 0
ALifeIsCalls L holds =
    (f g later last : Founding L) (seed : ℕ) (k n : Called L) (log : List Event) → Enrols holds f g seed k →
    Retires holds later last n → events_of n.number log ≡ events_of n.number last.view.log →
    (Makes TriesAgain k n →
    ByCalls TriesAgain (shape_of n) (started (shape_of n).manager seed).generator log n.number)
    × (Makes (TriesByShape (shape_of n)) k n →
    ByCalls (TriesByShape (shape_of n)) (shape_of n) (started (shape_of n).manager seed).generator log n.number)
