-- What the calls of TL2 come to, in the words of the field. A call has its newest event first.
use Rattle.std.specs.List.{All}
use Rattle.std.specs.Prelude.{◌≡◌, ◌⊎◌, ℕ, ◌+◌, ◌-◌, ◌*◌, ◌≤◌, Bool, true, false, List, [], ◌∷◌, ◌++◌, None, length, slice_get}
use Rattle.dstm_model.specs.declared.value.Val.{Val}
use Rattle.dstm_tl2.specs.declared.kind.Kind.{Kind}
use Rattle.dstm_tl2.specs.declared.kind.Kind.TheVariants.{LookLock, LookLow, LookHigh, LookAgain, Check, WriteLow, WriteHigh, Unlock}
use Rattle.dstm_tl2.specs.Failing.{is_readable}
use Rattle.dstm_tl2.specs.Histories.{is_draw}
use Rattle.dstm_tl2.specs.Rules.{Event}
use Rattle.dstm_tl2.specs.State.{LocalState, Read, or_read, to_check}
use Rattle.dstm_tl2.specs.Words.{Table}
use Rattle.dstm_tl2_order.specs.Calls.{IsCall, Obeys, answer_of, state_after}
use Rattle.dstm_tl2_order.specs.Tasks.{Task, Work}
use Rattle.dstm_tl2_order.specs.Tasks.Task.{Enrolling, Beginning, Returning, Doing}
use Rattle.dstm_tl2_order.specs.Tasks.Work.{Opening, Locking, Finishing, Committing}

-- ---- bounds

-- how many of the writes are left to be locked
abbrev pub to_lock : List (ℕ × Val) → LocalState → ℕ
to_lock writes state = length writes - state.locked

-- THE PRICE OF A CALL that begins in a caller's state. To open an object: four looks. To lock: each object is locked,
-- and given back where a later lock fails. To finish: the Draw, a check of each read, and for each object that is
-- locked its low part, its high part and its lock. To begin, and to retire: each object that is still locked is given
-- back.
abbrev pub price : Task → LocalState → ℕ
price Enrolling state = 1
price Beginning state = length state.holds + 1
price Returning state = length state.holds
price (Doing (Opening object)) state = 4
price (Doing (Locking writes)) state = 2 * to_lock writes state + length state.holds
price (Doing (Finishing writes)) state = length state.reads + 3 * length state.holds + 1
price (Doing (Committing writes)) state =
    4 * to_lock writes state + length state.reads + 3 * length state.holds + 1

-- no more objects are locked than are written
abbrev pub CanLock : Task → LocalState → Type 0
CanLock (Doing (Locking writes)) state = state.locked ≤ length writes
CanLock (Doing (Committing writes)) state = state.locked ≤ length writes
CanLock task state = Unit {0}

-- EVERY CALL IS BOUNDED: so far in a call there were at most so many events, whatever they found
abbrev pub EveryCallIsBounded : Type 0
EveryCallIsBounded =
    (task : Task) (table : Table) (state : LocalState) (events : List Event) →
    CanLock task state → Obeys task table state events → length events ≤ price task state

-- ---- reads

-- The events are the four looks at an object: its lock word, which is readable, the low and the high part of its value,
-- and its lock word again, which has not changed. Then it is read with this word and this value.
pub record AreFourLooks (table : Table) (state : LocalState) (object : ℕ) (events : List Event) : Type 0 where
  pub again : Event
  pub high : Event
  pub low : Event
  pub lock : Event
  pub are : events ≡ again ∷ high ∷ low ∷ lock ∷ []
  pub kinds :
      (lock.kind ≡ LookLock) × (low.kind ≡ LookLow) × (high.kind ≡ LookHigh) × (again.kind ≡ LookAgain)
  pub place : lock.place ≡ object
  pub readable : is_readable state.sample lock.found ≡ true
  pub unchanged : again.found ≡ lock.found
  pub read :
      (state_after table state events).reads
      ≡ state.reads
      ++ record {
        object = object;
        word = lock.found;
        value = record { low = low.found; high = high.found };
      } ∷ []

-- EVERY READ IS FOUR LOOKS, where the call that opens its object answers that the attempt goes on
abbrev pub EveryReadIsFourLooks : Type 0
EveryReadIsFourLooks =
    (object : ℕ) (table : Table) (state : LocalState) (events : List Event) →
    IsCall (Doing (Opening object)) table state events → answer_of table state events ≡ None →
    AreFourLooks table state object events

-- ---- commits

-- the first reads were checked, in the order of reading, the newest event first, and each lock word was the one recorded
abbrev pub AreChecks : List Read → List Event → Type 0
AreChecks reads [] = Unit {0}
AreChecks reads (event ∷ events) =
    AreChecks reads events
    × (event.kind ≡ Check) × (event.found ≡ (or_read (slice_get reads (length events))).word)

-- the kinds of event that write back
abbrev pub writes_back : Kind → Bool
writes_back WriteLow = true
writes_back WriteHigh = true
writes_back Unlock = true
writes_back kind = false

-- Behind a Draw each read of an object that is not written was checked, in order; what came since wrote back.
pub record IsValidated (table : Table) (state : LocalState) (events : List Event) : Type 0 where
  pub later : List Event
  pub checks : List Event
  pub draw : Event
  pub before : List Event
  pub are : events ≡ later ++ (checks ++ draw ∷ before)
  pub back : All (λ (event : Event). writes_back event.kind ≡ true) later
  pub draws : is_draw draw.kind ≡ true
  pub checked : AreChecks (to_check (state_after table state (draw ∷ before))) checks
  pub all : length checks ≡ length (to_check (state_after table state (draw ∷ before)))

-- EVERY WRITE IS VALIDATED: where a call has come to write a part of a value, it has drawn a number and made every
-- check after it
abbrev pub EveryWriteIsValidated : Type 0
EveryWriteIsValidated =
    (work : Work) (table : Table) (state : LocalState) (event : Event) (events : List Event) →
    Obeys (Doing work) table state (event ∷ events) → (event.kind ≡ WriteLow) ⊎ (event.kind ≡ WriteHigh) →
    IsValidated table state events
