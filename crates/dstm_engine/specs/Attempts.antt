-- What an attempt has seen, which maps it admits, and what it committed.
use Rattle.std.specs.Prelude.{◌≡◌, ℕ, ◌≤◌, ◌==◌, Bool, Option, false, List, ◌∷◌, ◌++◌, length, None, Some, if◌then◌else◌}
use Rattle.dstm_model.specs.declared.value.Val.{Val}
use Rattle.dstm_model.specs.Map.{Agrees, Entry, state_after, with_writes}
use Rattle.dstm_opacity.specs.Committed.{Committed, done_by}
use Rattle.dstm_opacity.specs.Telling.{StandsIn}
use Rattle.std.specs.Prelude.{◌&&◌, true}
use Rattle.dstm_progress.specs.Disturbed.{count_of}
use Rattle.dstm_progress.specs.Ends.{StaysAt}
use Rattle.dstm_core.specs.State.{LocalState, given}
use Rattle.dstm_core.specs.declared.event.Kind.{Kind}
use Rattle.dstm_core.specs.declared.event.Kind.TheVariants.{LookObj, LookSelf}
use Rattle.dstm_core.specs.declared.shape.Shape.{Shape}
use Rattle.dstm_core.specs.Events.{Event}
use Rattle.dstm_core.specs.Histories.{CoreRun, IsSight, history_of, seen}
use Rattle.dstm_core.specs.Runs.{local}
use Rattle.dstm_core.specs.Traces.{IsPastOf, events_of}
use Rattle.dstm_core.specs.Words.{code_of}
use Rattle.dstm_core.specs.declared.status.Status.TheVariants as status
use Rattle.dstm_mem.specs.Memory.{AgreesWith, value_in, with_set}
use Rattle.dstm_core.specs.Counts.{draw_count}
use Rattle.dstm_engine.specs.Callers.{Called, begun_log, shape_of, start_of, law_of, state, held, written, handed, new_value, is_live, is_opened}
use Rattle.dstm_engine.specs.Calls.{Performs}
use Rattle.dstm_order.specs.Tasks.Task.{Doing}
use Rattle.dstm_order.specs.Tasks.Work.{Committing}

abbrev pub is_look_self : Kind → Bool
is_look_self LookSelf = true
is_look_self kind = false

-- the event completes a pass of its caller's attempt
abbrev pub completes_pass : Shape → LocalState → Event → Bool
completes_pass shape state event = is_look_self event.kind && (event.found == given state.phase)

abbrev pub is_look_object : Kind → Bool
is_look_object LookObj = true
is_look_object kind = false

abbrev pub looks_at_object : Shape → LocalState → Event → Bool
looks_at_object shape state event = is_look_object event.kind

-- a sight of a caller's attempt of this number stands in a log
pub record SightAt (shape : Shape) (events : List Event) (c attempts : ℕ) : Type 0 where
  pub later : List Event
  pub sight : Event
  pub before : List Event
  pub log : events ≡ later ++ sight ∷ before
  pub is_one : IsSight shape before sight
  pub caller : sight.caller ≡ c
  pub attempt : (local shape before c).begun ≡ attempts

module _ {L : Type 0} where
  -- how many sights the last attempt has had
  abbrev pub sights : Called L → ℕ
  sights k = count_of completes_pass (shape_of k) k.log k.number (state k).begun

  -- how often it has looked at an object
  abbrev pub looks : Called L → ℕ
  looks k = count_of looks_at_object (shape_of k) k.log k.number (state k).begun

  -- The newest sight of this attempt covers all reads together: it has had no other since.
  pub record Sighted (k : Called L) : Type 0 where
    pub place : SightAt (shape_of k) k.log k.number (state k).begun
    pub open place use *
    pub newest : sights k ≡ count_of completes_pass (shape_of k) (sight ∷ before) k.number (state k).begun
    pub covers : (o : ℕ) (v : Val) → held k o ≡ Some v →
        value_in (seen (shape_of k) (start_of k) k.log before k.number) o ≡ Some v

  -- The lawful maps that agree with the reads.
  pub record Admits (holds : L → List Val → Type 0) (k : Called L) (map : List Val) : Type 0 where
    pub length : length map ≡ (shape_of k).objects
    pub lawful : holds (law_of k) map
    pub agrees : AgreesWith map (held k)

  -- the attempts that the caller has committed, the newest first
  abbrev pub done : Called L → List Committed
  done k = done_by (shape_of k) (start_of k) k.log k.log k.number

  -- how many numbers the caller has drawn
  abbrev pub draws : Called L → ℕ
  draws k = draw_count (events_of k.number k.log)

  -- the attempt that the caller has committed last has at most so many reads
  pub record ReadsAtMost (most : ℕ) (k : Called L) : Type 0 where
    pub last : Committed
    pub before : List Committed
    pub done : done k ≡ last ∷ before
    pub few : length last.entry.reads ≤ most

  -- The attempt has committed under this number, and the log has gone on: it is over, and its status is committed and
  -- stays so. Its entry has the reads of the memory, and writes the value last set for each object that was opened for
  -- writing, or else the old one.
  pub record Commits (k n : Called L) (number : ℕ) : Type 0 where
    pub seen : IsPastOf k.log n.log
    pub attempt : begun_log n.number n.log ≡ begun_log k.number k.log
    pub over : is_live n ≡ false
    pub status : StaysAt (shape_of n) n.log n.number (code_of status.Committed)
    pub entry : Entry
    pub done : done n ≡ record { caller = k.number; number = number; entry = entry } ∷ done k
    pub reads : (o : ℕ) → value_in entry.reads o ≡ held k o
    pub writes : (o : ℕ) → value_in entry.writes o ≡ (if is_opened k o then handed k o else None)
    pub only : (o : ℕ) → is_opened k o ≡ false → written k o ≡ None

  -- An entry of the caller stands in the history of every core run that begins with its log, and is right there for
  -- the state before it and the state after it.
  pub record StandsRight (holds : L → List Val → Type 0) (is_right : List Val → List Val → Type 0) (n : Called L)
      (later : List Event) (entry : Entry) : Type 0 where
    pub stands : StandsIn (shape_of n) (start_of n) (holds (law_of n))
        (history_of (shape_of n) (start_of n) (later ++ n.log)) entry
    pub right : is_right (state_after (start_of n) stands.before)
        (with_writes (state_after (start_of n) stands.before) entry.writes)

  -- The attempt has committed an entry, and this is right for every lawful map that agrees with its reads as
  -- the map that it starts at, and that map with its writes as the one that it leaves. So it is in every history.
  pub record Settles (holds : L → List Val → Type 0) (is_right : List Val → List Val → Type 0) (k n : Called L)
      (number : ℕ) : Type 0 where
    pub entry : Entry
    pub done : done n ≡ record { caller = k.number; number = number; entry = entry } ∷ done k
    pub right : (map : List Val) → length map ≡ (shape_of k).objects → holds (law_of k) map →
        Agrees map entry.reads → is_right map (with_writes map entry.writes)
    pub in_runs : (later : List Event) → CoreRun (shape_of n) (start_of n) (holds (law_of n)) (later ++ n.log) →
        StandsRight holds is_right n later entry

  -- THE RUN IS COMMITTED: what was read, opened and set where the body's run ended is what the attempt has committed, and
  -- what the run promises of its memory holds there. All that the caller did from there on is to commit.
  pub record CommitsRun (holds : L → List Val → Type 0) (is_right : List Val → List Val → Type 0)
      (leaves : (ℕ → Option Val) → (ℕ → Bool) → Type 0) (k n : Called L) (number : ℕ) : Type 0 where
    pub ran : Called L
    pub same : (ran.home ≡ k.home) × (ran.number ≡ k.number)
    pub right : (map : List Val) → Admits holds ran map → is_right map (with_set map (written ran))
    pub left : leaves (held ran) (is_opened ran)
    pub commits : Commits ran n number
    pub commit : Performs holds (Doing (Committing (new_value ran))) ran n None

  -- Nothing was made sure of but by opens and by the commit: as this began, the attempt had at most one sight for each look
  -- at an object.
  pub record SightedByOpens (holds : L → List Val → Type 0) (n : Called L) : Type 0 where
    pub ran : Called L
    pub few : sights ran ≤ looks ran
    pub commit : Performs holds (Doing (Committing (new_value ran))) ran n None
