-- How the fields of a caller stand for what contracts see of it.
use Rattle.std.specs.Prelude.{◌≡◌, ◌≢◌, ℕ, ◌<◌, ◌≤◌, List, [], length, map, take, None, Some, IfSome, IsSome}
use Rattle.dstm_mem.specs.Memory.{value_in}
use Rattle.dstm_model.specs.declared.value.Val.{Val}
use Rattle.dstm_tl2.specs.Rules.{new_hold}
use Rattle.dstm_tl2.specs.Runs.{local}
use Rattle.dstm_tl2.specs.State.{read_of}
use Rattle.dstm_tl2.specs.Sharing.{IsRunOf, table_of}
use Rattle.dstm_tl2.specs.Words.{objects}
use Rattle.dstm_tl2.specs.declared.terms.Terms.{Terms}
use Rattle.dstm_tl2_steps.specs.declared.steps.Steps.{Steps}
use Rattle.dstm_tl2_words.specs.Seats.{caller_view}
use Rattle.dstm_tl2_engine.specs.declared.caller.TlCaller.TheInside.{Inside}
use Rattle.dstm_tl2_steps.specs.Reads.{slot_read}
use Rattle.dstm_tl2_engine.specs.Attempts.{Seen}
use Rattle.dstm_tl2_engine.specs.Calls.{IsMade, IsTold}
use Rattle.dstm_tl2_engine.specs.Callers.{TlCalled, handed, objects_of, state}
use Rattle.dstm_tl2_engine.specs.Outcomes.{IsLeft}
use Rattle.dstm_tl2_engine.specs.Transactions.{HasLocked, IsLawful}

module _ {L : Type 0} where
  abbrev pub called : Inside L → TlCalled L
  called c = record {
    home = record { table = c.steps.seat.table_id; terms = c.terms };
    log = c.steps.seat.me.0.log;
    number = c.number;
    writes = c.opened.writes;
    set = c.opened.set;
    left = c.left;
  }

  -- the steps of a caller of this number are those of its seat, and know what the machine says of it
  pub record Placed (holds : L → List Val → Type 0) (terms : Terms L) (steps : Steps L) (c : ℕ) : Type 0 where
    pub seat : (steps.seat.me.0 ≡ caller_view terms c steps.seat.me.0.log) × (steps.seat.me.1 ≡ [])
    pub run : IsRunOf holds terms steps.seat.me.0.log
    pub number : (c < terms.callers) × ((local (table_of terms) steps.seat.me.0.log c).number ≡ Some c)
    pub places : steps.places ≡ objects (table_of terms)
    pub sample : (local (table_of terms) steps.seat.me.0.log c).sample ≡ steps.sample

  pub record Tied (holds : L → List Val → Type 0) (c : Inside L) : Type 0 where
    pub placed : Placed holds c.terms c.steps c.number
    pub open placed use *
    pub begun : (state (called c)).begun ≡ c.begun
    pub objects : c.opened.objects ≡ objects_of (called c)
    -- the lists are what the machine has of the last attempt
    pub reads : map slot_read c.opened.reads ≡ (state (called c)).reads
    pub writes_read : (o : ℕ) → read_of o (state (called c)).reads ≡ None → value_in c.opened.writes o ≡ None
    -- the new value of an object is the one that was last set, or else the one that was read; what was set is written
    pub puts : (o : ℕ) → IfSome (value_in c.opened.writes o) (λ v. Some v ≡ handed (called c) o)
    pub sets : (o : ℕ) → IsSome (value_in c.opened.set o) → IsSome (value_in c.opened.writes o)
    pub seen : Seen holds (called c)
    -- so many of its writes are locked: the first ones
    pub locks : (state (called c)).holds ≡ map (new_hold (state (called c))) (take c.locked c.opened.writes)
    -- what is still locked may be given back
    pub may : c.locked ≢ 0 → (state (called c)).drawn ≡ None
    pub few : c.locked ≤ length c.opened.writes
    -- where all that it writes is locked, the condition of a commit is met
    pub lawful : HasLocked (called c) → IsLawful holds (called c)
    pub left : IfSome c.left (λ again. IsLeft (called c))
    pub told : IsMade (called c) → IsTold (called c)
