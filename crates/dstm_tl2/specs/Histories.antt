-- What a run did: the entry of each attempt that commits, and the history.
use Rattle.std.specs.Prelude.{◌≡◌, ℕ, ◌==◌, ◌&&◌, ◌||◌, Bool, true, false, List, [], ◌∷◌, count_by, map, reverse, if◌then◌else◌}
use Rattle.dstm_model.specs.declared.value.Val.{Val}
use Rattle.dstm_model.specs.Map.{Entry, KeepsLaw}
use Rattle.dstm_machines.specs.Histories.{gathered}
use Rattle.dstm_tl2.specs.declared.kind.Kind.{Kind}
use Rattle.dstm_tl2.specs.declared.kind.Kind.TheVariants.{Sample, Lock, Draw}
use Rattle.dstm_machines.specs.Traces.{Each}
use Rattle.dstm_tl2.specs.Rules.{Event}
use Rattle.dstm_tl2.specs.Runs.{local, Run}
use Rattle.dstm_tl2.specs.State.{LocalState, Read, or_zero, is_valid}
use Rattle.dstm_tl2.specs.Words.{Table, objects}

-- the writes that an event tells
abbrev pub writes_of : Kind → List (ℕ × Val)
writes_of (Lock writes) = writes.value
writes_of (Draw writes) = writes.value
writes_of kind = []

abbrev pub is_draw : Kind → Bool
is_draw (Draw writes) = true
is_draw kind = false

-- how many numbers were drawn in a trace
abbrev pub draw_count : List Event → ℕ
draw_count trace = count_by (λ (event : Event). is_draw event.kind) trace

abbrev pub is_sample : Kind → Bool
is_sample Sample = true
is_sample kind = false

-- what an attempt has read
abbrev pub read_values : List Read → List (ℕ × Val)
read_values reads = map (λ (r : Read). (r.object, r.value)) reads

-- the entry of an attempt by its caller's state at its Draw, and the writes beside it
abbrev pub entry_of : LocalState → List (ℕ × Val) → Entry
entry_of state writes = record { reads = read_values state.reads; writes = writes }

-- the attempt that drew number n is valid: its Checks are done and good
abbrev pub is_validated : LocalState → ℕ → Bool
is_validated state n = is_valid state && (or_zero state.drawn == n)

-- at some place of the run the attempt that drew number n is valid. Then it commits.
abbrev pub will_of : Table → List Event → ℕ → Bool
will_of table [] n = false
will_of table (event ∷ before) n =
    is_validated (local table (event ∷ before) event.caller) n || will_of table before n

-- the event is the Draw of an attempt that commits, as `will` tells by its number
abbrev pub commits_at : (ℕ → Bool) → Event → List Event → Bool
commits_at will event before = is_draw event.kind && will event.found

-- the entry of the attempt that makes a Draw
abbrev pub entry_at : Table → Event → List Event → Entry
entry_at table draw before = entry_of (local table before draw.caller) (writes_of draw.kind)

-- the entries of the attempts that commit, as `will` tells by their numbers, and have their Draw among some
-- events: the newest draw first
abbrev pub history : Table → (ℕ → Bool) → List Event → List Entry
history table will before = gathered (commits_at will) (entry_at table) before

-- the prefix of the history at a place of a run, in the order of the draws: `before` is what stands before it
abbrev pub prefix_at : Table → List Event → List Event → List Entry
prefix_at table run before = reverse (history table (will_of table run) before)

-- the history of a run, in the order of the draws
abbrev pub history_of : Table → List Event → List Entry
history_of table run = prefix_at table run run

-- what stands before the last Sample of caller c: the place at which its attempt began
abbrev pub sample_place : ℕ → List Event → List Event
sample_place c [] = []
sample_place c (event ∷ before) =
    if (event.caller == c) && is_sample event.kind then before else sample_place c before

-- each attempt keeps the law with its Draw
abbrev pub DrawsLawfully : Table → (List Val → Type 0) → Event → List Event → Type 0
DrawsLawfully table holds event before =
    is_draw event.kind ≡ true → KeepsLaw holds (objects table) (entry_at table event before)

abbrev pub Lawful : Table → (List Val → Type 0) → List Event → Type 0
Lawful table holds trace = Each (DrawsLawfully table holds) trace

-- a run of a table under a law
pub record LawfulRun (table : Table) (holds : List Val → Type 0) (trace : List Event) : Type 0 where
  pub run : Run table trace
  pub law : Lawful table holds trace
