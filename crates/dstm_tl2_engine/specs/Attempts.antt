-- What an attempt has seen, which maps it admits, and what it committed.
use Rattle.std.specs.Prelude.{◌≡◌, ℕ, Bool, true, false, List, [], ◌∷◌, ◌++◌, length, Option, None, Some, if◌then◌else◌}
use Rattle.dstm_mem.specs.Memory.{AgreesWith, value_in, with_set}
use Rattle.dstm_model.specs.declared.value.Val.{Val}
use Rattle.dstm_model.specs.Map.{Agrees, Entry, state_after, with_writes}
use Rattle.dstm_machines.specs.Traces.{events_of}
use Rattle.dstm_tl2.specs.Histories.{LawfulRun, draw_count, history_of, prefix_at, sample_place}
use Rattle.dstm_tl2.specs.Laws.{IsSeen}
use Rattle.dstm_tl2.specs.Rules.{Event}
use Rattle.dstm_tl2.specs.State.{is_valid}
pub use Rattle.dstm_tl2.specs.Committed.{Committed, commits, attempt_of, done_by}
pub use Rattle.dstm_tl2.specs.Telling.{StandsIn}
use Rattle.dstm_tl2_engine.specs.Callers.{TlCalled, table_of_caller, objects_of, start_of, law_of, state, held, written, handed, is_opened}
use Rattle.dstm_tl2_engine.specs.Calls.{Performs}
use Rattle.dstm_tl2_order.specs.Tasks.Task.{Doing}
use Rattle.dstm_tl2_order.specs.Tasks.Work.{Committing}

module _ {L : Type 0} where
  abbrev pub done : TlCalled L → List Committed
  done k = done_by (table_of_caller k) k.log k.number

  -- how many numbers the caller has drawn
  abbrev pub draws : TlCalled L → ℕ
  draws k = draw_count (events_of k.number k.log)

  -- What the last attempt has read are values of one moment: those of the state after the entries whose Draw stands
  -- before its Sample. That state is lawful, and it has every entry whose last good Check stands before that Sample.
  abbrev pub Seen : (L → List Val → Type 0) → TlCalled L → Type 0
  Seen holds k =
      IsSeen (table_of_caller k) (holds (law_of k)) k.log k.number
      (prefix_at (table_of_caller k) k.log (sample_place k.number k.log))

  -- The lawful maps that agree with the reads.
  pub record Admits (holds : L → List Val → Type 0) (k : TlCalled L) (map : List Val) : Type 0 where
    pub length : length map ≡ objects_of k
    pub lawful : holds (law_of k) map
    pub agrees : AgreesWith map (held k)

  -- The attempt has committed under this number. Its entry has the reads of the memory, and writes the value last set
  -- for each object that was opened for writing, or else the value read. All is written and unlocked.
  pub record Commits (k n : TlCalled L) (number : ℕ) : Type 0 where
    pub valid : is_valid (state n) ≡ true
    pub drawn : (state n).drawn ≡ Some number
    pub free : (state n).holds ≡ []
    pub entry : Entry
    pub done : done n ≡ record { caller = k.number; number = number; entry = entry } ∷ done k
    pub reads : (o : ℕ) → value_in entry.reads o ≡ held k o
    pub writes : (o : ℕ) → value_in entry.writes o ≡ (if is_opened k o then handed k o else None)
    pub only : (o : ℕ) → is_opened k o ≡ false → written k o ≡ None

  -- An entry of the caller stands in the history of every run that begins with its log, and is right there for the
  -- state before it and the state after it.
  pub record StandsRight (holds : L → List Val → Type 0) (is_right : List Val → List Val → Type 0) (n : TlCalled L)
      (later : List Event) (entry : Entry) : Type 0 where
    pub stands : StandsIn (table_of_caller n) (holds (law_of n)) (history_of (table_of_caller n) (later ++ n.log)) entry
    pub right : is_right (state_after (start_of n) stands.before)
        (with_writes (state_after (start_of n) stands.before) entry.writes)

  -- The attempt has committed an entry, and this is right for every lawful map that agrees with its reads as the map
  -- that it starts at, and that map with its writes as the one that it leaves. So it is in every history.
  pub record Settles (holds : L → List Val → Type 0) (is_right : List Val → List Val → Type 0) (k n : TlCalled L)
      (number : ℕ) : Type 0 where
    pub entry : Entry
    pub done : done n ≡ record { caller = k.number; number = number; entry = entry } ∷ done k
    pub right : (map : List Val) → length map ≡ objects_of k → holds (law_of k) map →
        Agrees map entry.reads → is_right map (with_writes map entry.writes)
    pub in_runs : (later : List Event) → LawfulRun (table_of_caller n) (holds (law_of n)) (later ++ n.log) →
        StandsRight holds is_right n later entry

  -- THE RUN IS COMMITTED: what was read, opened and set where the body's run ended is what the attempt has committed,
  -- and what the run promises of its memory holds there. All that the caller did from there on is to commit.
  pub record CommitsRun (holds : L → List Val → Type 0) (is_right : List Val → List Val → Type 0)
      (leaves : (ℕ → Option Val) → (ℕ → Bool) → Type 0) (k n : TlCalled L) (number : ℕ) : Type 0 where
    pub ran : TlCalled L
    pub same : (ran.home ≡ k.home) × (ran.number ≡ k.number)
    pub right : (map : List Val) → Admits holds ran map → is_right map (with_set map (written ran))
    pub left : leaves (held ran) (is_opened ran)
    pub commits : Commits ran n number
    pub commit : Performs holds (Doing (Committing ran.writes)) ran n None
