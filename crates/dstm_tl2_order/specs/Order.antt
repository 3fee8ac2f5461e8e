-- The order of steps of the engine's calls: after each event of a call, which event is due.
--
-- It is one table over all calls. Each row is a sentence on what comes next, of the caller's state; nothing is said of
-- loops and of functions. No call tries a step again: what it finds changed ends the attempt.
use Rattle.std.specs.Prelude.{◌≡◌, ℕ, ◌+◌, ◌*◌, ◌==◌, nat_lt, Bool, false, not, List, [], ◌∷◌, length, Option, Some, None, is_some, if◌then◌else◌}
use Rattle.dstm_model.specs.declared.value.Val.{Val}
use Rattle.dstm_tl2.specs.declared.kind.Kind.{Kind}
use Rattle.dstm_tl2.specs.declared.kind.Kind.TheVariants.{Enrol, Sample, LookLock, LookLow, LookHigh, LookAgain, Lock, Draw, Check, WriteLow, WriteHigh, Unlock}
use Rattle.dstm_tl2.specs.Failing.{is_readable}
use Rattle.dstm_tl2.specs.Histories.{is_sample}
use Rattle.dstm_tl2.specs.Rules.{Event}
use Rattle.dstm_tl2.specs.State.{LocalState, Hold, or_zero, to_check}
use Rattle.dstm_tl2.specs.Words.{Table, place}
use Rattle.dstm_tl2.specs.Words.Word.{LowWord, HighWord}
use Rattle.dstm_tl2_order.specs.Tasks.{Task, Work}
use Rattle.dstm_tl2_order.specs.Tasks.Task.{Enrolling, Beginning, Returning, Doing}
use Rattle.dstm_tl2_order.specs.Tasks.Work.{Opening, Locking, Finishing, Committing}

-- ---- what is due

-- An event is due, or nothing more. What else the event is, the local rules say.
pub data Due : Type 0 where
  Just : (kind : Kind) → Due
  LookAt : (object : ℕ) → Due  -- a LookLock of this object
  PutLow : (object : ℕ) → Due  -- a WriteLow of this object
  PutHigh : (object : ℕ) → Due  -- a WriteHigh of this object
  FreeAs : (object word : ℕ) → Due  -- an Unlock of this object, which stores this word
  Done : Due

-- the event is the one that is due
abbrev pub IsDue : Table → Due → Event → Type 0
IsDue table (Just kind) event = event.kind ≡ kind
IsDue table (LookAt object) event = (event.kind ≡ LookLock) × (event.place ≡ object)
IsDue table (PutLow object) event = (event.kind ≡ WriteLow) × (event.place ≡ place table (LowWord object))
IsDue table (PutHigh object) event = (event.kind ≡ WriteHigh) × (event.place ≡ place table (HighWord object))
IsDue table (FreeAs object word) event =
    (event.kind ≡ Unlock) × (event.place ≡ object) × (event.put ≡ word)
IsDue table Done event = ⊥

-- the kinds that tell an attempt's writes
abbrev pub locks : List (ℕ × Val) → Kind
locks writes = Lock (record { marker = record {}; value = writes })

abbrev pub draws : List (ℕ × Val) → Kind
draws writes = Draw (record { marker = record {}; value = writes })

-- ---- a commit

-- TO GIVE BACK. Each object that is still locked gets its recorded word, in the order of locking.
abbrev pub in_giving_back : List Hold → Due
in_giving_back [] = Done
in_giving_back (hold ∷ holds) = FreeAs hold.object hold.word

-- TO WRITE BACK, once every check was good. Of each object that is still locked, in the order of locking, the low part
-- is written, then the high part, and then it gets its new version: the number drawn, plus 1.
abbrev pub in_writing_back : ℕ → List Hold → Due
in_writing_back drawn [] = Done
in_writing_back drawn (hold ∷ holds) =
    if not hold.low_put then PutLow hold.object
    else if not hold.high_put then PutHigh hold.object
    else FreeAs hold.object (2 * drawn + 2)

-- THE CHECKS, after the Draw. Each read of an object that is not written is checked, in the order of reading. Then the
-- new values are written back.
abbrev pub in_checking : LocalState → Due
in_checking state =
    if state.checked == length (to_check state) then in_writing_back (or_zero state.drawn) state.holds
    else Just Check

-- What follows the last lock: a commit draws its number, and a call that only locks ends.
abbrev pub when_locked : Work → Due
when_locked (Committing writes) = Just (draws writes)
when_locked work = Done

-- TO LOCK. The objects written are locked in the order of opening.
abbrev pub in_locking : List (ℕ × Val) → Work → LocalState → Due
in_locking writes work state =
    if state.locked == length writes then when_locked work else Just (locks writes)

-- ---- the calls on an attempt

-- THE FIRST EVENT.
abbrev pub at_first : Work → LocalState → Due
at_first (Opening object) state = LookAt object
at_first (Locking writes) state = in_locking writes (Locking writes) state
at_first (Finishing writes) state = Just (draws writes)
at_first (Committing writes) state = in_locking writes (Committing writes) state

-- WHAT COMES AFTER EACH EVENT, in the state after it. A lock or a check that found another word ends the attempt, which
-- gives back what it has locked.
abbrev pub next : Kind → Event → Work → LocalState → Due
-- a read of an object whose lock word is not readable ends there
next LookLock event work state = if is_readable state.sample event.found then Just LookLow else Done
next LookLow event work state = Just LookHigh
next LookHigh event work state = Just LookAgain
next LookAgain event work state = Done
next (Lock writes) event work state =
    if state.failed then in_giving_back state.holds else in_locking writes.value work state
next (Draw writes) event work state = in_checking state
next Check event work state = if state.failed then in_giving_back state.holds else in_checking state
next WriteLow event work state = in_writing_back (or_zero state.drawn) state.holds
next WriteHigh event work state = in_writing_back (or_zero state.drawn) state.holds
next Unlock event work state =
    if state.failed then in_giving_back state.holds else in_writing_back (or_zero state.drawn) state.holds
-- these are of no call on an attempt
next Enrol event work state = Done
next Sample event work state = Done

abbrev pub next_or_first : Option Event → Work → LocalState → Due
next_or_first None work state = at_first work state
next_or_first (Some event) work state = next event.kind event work state

-- ---- the other calls

-- the caller has begun all its attempts
abbrev pub is_spent : Table → LocalState → Bool
is_spent table state = not (nat_lt state.begun table.attempts)

abbrev pub has_sampled : Option Event → Bool
has_sampled None = false
has_sampled (Some event) = is_sample event.kind

-- TO BEGIN AN ATTEMPT. What a dropped attempt has locked is given back first. Then a caller that is spent does nothing
-- more. Else it samples the clock.
abbrev pub in_beginning : Table → Option Event → LocalState → Due
in_beginning table newest state =
    if has_sampled newest then Done
    else if not (length state.holds == 0) then in_giving_back state.holds
    else if is_spent table state then Done
    else Just Sample

-- THE ORDER OF STEPS: what is due, by the newest event of this call. A caller enrols once.
abbrev pub due : Task → Table → (newest : Option Event) → LocalState → Due
due Enrolling table newest state = if is_some state.number then Done else Just Enrol
due Beginning table newest state = in_beginning table newest state
due Returning table newest state = in_giving_back state.holds
due (Doing work) table newest state = next_or_first newest work state
