-- Callers that follow the order of steps, one call after the other: each event that is due, on the words that
-- the events before it left.
use Prim.Native.Nat.{zero, suc}
use Rattle.std.specs.Prelude.{ℕ, ◌+◌, ◌==◌, true, false, List, [], ◌∷◌, if◌then◌else◌, Option, Some, None}
use Rattle.dstm_core.specs.Events.{Event}
use Rattle.dstm_core.specs.declared.event.Kind.{Kind}
use Rattle.dstm_core.specs.declared.event.Kind.TheVariants.{Enrol, Rank, Begin, LookObj, PutOwner, PutOld, Install, LookNumber, LookSelf, Release, PutHigh, PutNew, Validating as ToValidating, Draw, Commit}
use Rattle.dstm_core.specs.declared.shape.Manager.{Manager}
use Rattle.dstm_core.specs.declared.shape.Manager.TheVariants.{Polite}
use Rattle.dstm_core.specs.declared.shape.Shape.{Shape}
use Rattle.dstm_core.specs.Rules.{access, after, target}
use Rattle.dstm_core.specs.Runs.{local}
use Rattle.dstm_core.specs.State.{LocalState}
use Rattle.dstm_core.specs.Traces.{Access, at}
use Rattle.dstm_machines.specs.Traces.Access.{Load, Store, Exchange, Add}
use Rattle.dstm_core.specs.Words.{place}
use Rattle.dstm_model.specs.declared.value.Val.{Val}
use Rattle.rand_pcg.specs.Lcg.{Lcg}
use Rattle.dstm_order.specs.Counts.{Counts, counts_of}
use Rattle.dstm_order.specs.Efforts.{Effort, no_effort, effort_after}
use Rattle.dstm_order.specs.Order.{Due, due}
use Rattle.dstm_order.specs.Order.Due.{Step, Done}
use Rattle.dstm_order.specs.Tasks.{Task}
use Rattle.dstm_order.specs.Tasks.Task.{Enrolling, Beginning, Doing}
use Rattle.dstm_order.specs.Tasks.Work.{Reading, Writing, Committing}

-- ---- one event

-- the object that an event names
abbrev pub named : Kind → (operand : ℕ) → ℕ
named LookObj operand = operand
named Release operand = operand
named kind operand = 0

-- an event with this operand, before its place and its words are known
abbrev pub blank : ℕ → Kind → (operand : ℕ) → Event
blank c kind operand = record {
  caller = c;
  kind = kind;
  place = named kind operand;
  expected = 0;
  found = 0;
  put = operand;
}

-- the event at a place whose word is found
abbrev pub acts : Access → Event → (place found : ℕ) → Event
acts Load event place found = record event { place = place; expected = found; found = found; put = found }
acts (Store value) event place found =
    record event { place = place; expected = found; found = found; put = value }
acts (Exchange expected value) event place found =
    record event { place = place; expected = expected; found = found; put = if found == expected then value else found }
acts Add event place found = record event { place = place; expected = found; found = found; put = found + 1 }

abbrev pub acts_at : Shape → List Event → Access → Event → (place : ℕ) → Event
acts_at shape log way event place = acts way event place (at log place)

abbrev pub event_of : Shape → ℕ → LocalState → List Event → Event → Event
event_of shape c state log event =
    acts_at shape log (access event.kind shape state event) event (place shape (target event.kind shape state event))

-- caller c makes one event, whether it is due or not
abbrev pub makes : Shape → ℕ → Kind → (operand : ℕ) → List Event → List Event
makes shape c kind operand log = event_of shape c (local shape log c) log (blank c kind operand) ∷ log

-- ---- calls

abbrev pub when_due : Due → List Event → (Kind → ℕ → List Event) → List Event
when_due Done log step = log
when_due (Step kind operand) log step = step kind operand

abbrev pub with_event : List Event → Event → (Event → List Event → List Event) → List Event
with_event log event go = go event (event ∷ log)

-- a call goes on, for so many events at most
abbrev pub goes :
    (fuel : ℕ) → Shape → ℕ → Task → Option Event → LocalState → Effort → List Event → List Event
goes zero shape c task newest state effort log = log
goes (suc fuel) shape c task newest state effort log =
    when_due (due task shape newest state effort) log (λ kind operand.
    with_event log (event_of shape c state log (blank c kind operand)) (λ event more.
    goes fuel shape c task (Some event) (after kind shape state event)
    (effort_after kind shape.manager state effort event) more))

-- a generator of zeros
abbrev pub zeros : Lcg
zeros = record { state = 0; increment = 0 }

-- caller c makes a call, of at most 400 events
abbrev pub calls : Shape → ℕ → Task → List Event → List Event
calls shape c task log = goes 400 shape c task None (local shape log c) (no_effort zeros) log

abbrev pub kinds_of : List Event → List Kind
kinds_of [] = []
kinds_of (event ∷ events) = event.kind ∷ kinds_of events

-- the first n of some kinds: the newest ones
abbrev pub first_kinds : (n : ℕ) → List Kind → List Kind
first_kinds zero kinds = []
first_kinds (suc n) [] = []
first_kinds (suc n) (kind ∷ kinds) = kind ∷ first_kinds n kinds

-- ---- some runs

abbrev pub nine : ℕ → Val
nine object = record { low = 9; high = 0 }

-- one object, two callers with one attempt and one locator each
abbrev pub small : Manager → Shape
small manager = record {
  objects = 1;
  callers = 2;
  attempts = 1;
  locators = 1;
  manager = manager;
  all_write = false;
}

-- an event made by hand: its kind, and its operand
abbrev pub Move : Type 0
Move = Kind × ℕ

-- caller c makes the first n of some events, in this order
abbrev pub makes_first : Shape → ℕ → (n : ℕ) → List Move → List Event → List Event
makes_first shape c zero moves log = log
makes_first shape c (suc n) [] log = log
makes_first shape c (suc n) (move ∷ moves) log =
    makes_first shape c n moves (makes shape c move.0 move.1 log)

-- the end of a guest that commits
abbrev pub commits : List Move
commits = (PutHigh, 0) ∷ (PutNew, 9) ∷ (ToValidating, 0) ∷ (Draw, 0) ∷ (Commit, 0) ∷ []

-- what a guest does that writes an object and commits, where it has a rank and where it has none
abbrev pub opens_ranked : List Move
opens_ranked =
    (Enrol, 0) ∷ (Rank, 0) ∷ (Begin, 0) ∷ (LookObj, 0) ∷ (PutOwner, 0) ∷ (PutOld, 0) ∷ (Install, 0)
    ∷ (LookNumber, 0) ∷ (LookSelf, 0) ∷ (Rank, 1) ∷ commits

abbrev pub opens_unranked : List Move
opens_unranked =
    (Enrol, 0) ∷ (Begin, 0) ∷ (LookObj, 0) ∷ (PutOwner, 0) ∷ (PutOld, 0) ∷ (Install, 0)
    ∷ (LookNumber, 0) ∷ (LookSelf, 0) ∷ commits

-- caller 0 is a guest that stops after n events
abbrev pub guest : Manager → List Move → (n : ℕ) → List Event
guest manager moves n = makes_first (small manager) 0 n moves []

-- then caller 1 opens the object for writing, and commits
abbrev pub meets_guest : Manager → List Move → (n : ℕ) → List Event
meets_guest manager moves n =
    calls (small manager) 1 (Doing (Committing nine)) (calls (small manager) 1 (Doing (Writing 0))
    (calls (small manager) 1 (Beginning true) (calls (small manager) 1 Enrolling (guest manager moves n))))

-- what caller 1 counts, and the number that it draws
pub record Row : Type 0 where
  pub counts : Counts
  pub number : Option ℕ

abbrev pub row : (steps turns kills number : ℕ) → Row
row steps turns kills number =
    record { counts = record { steps = steps; turns = turns; kills = kills }; number = Some number }

abbrev pub row_of : Manager → List Event → Row
row_of manager log =
    record { counts = counts_of (small manager) log 1; number = (local (small manager) log 1).drawn }

-- the rows of a guest that stops after each of its first n events, the last of them first
abbrev pub rows_of : Manager → List Move → (n : ℕ) → List Row
rows_of manager moves zero = []
rows_of manager moves (suc n) = row_of manager (meets_guest manager moves (suc n)) ∷ rows_of manager moves n

-- three objects and one caller
abbrev pub three : Shape
three = record { objects = 3; callers = 1; attempts = 1; locators = 3; manager = Polite; all_write = false }

-- it reads each of them and commits
abbrev pub reads_three : List Event
reads_three =
    calls three 0 (Doing (Committing nine)) (calls three 0 (Doing (Reading 2)) (calls three 0 (Doing (Reading 1))
    (calls three 0 (Doing (Reading 0)) (calls three 0 (Beginning true) (calls three 0 Enrolling [])))))

-- two objects and two callers
abbrev pub two : Shape
two = record { objects = 2; callers = 2; attempts = 1; locators = 2; manager = Polite; all_write = false }

-- caller 0 reads object 0; caller 1 writes it and commits; caller 0 reads object 1
abbrev pub overtaken : List Event
overtaken =
    calls two 0 (Doing (Reading 1)) (calls two 1 (Doing (Committing nine)) (calls two 1 (Doing (Writing 0))
    (calls two 1 (Beginning true) (calls two 0 (Doing (Reading 0)) (calls two 0 (Beginning true)
    (calls two 1 Enrolling (calls two 0 Enrolling [])))))))
