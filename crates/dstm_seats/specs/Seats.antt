-- What the calls on words say, in reading order: a seat and its table, the next event of its caller, what a step
-- tells, how seats are split and joined, and what the words hold in the end.
use Rattle.std.specs.Prelude.{◌≡◌, ◌≢◌, ℕ, ◌+◌, ◌-◌, ◌^◌, ◌<◌, ◌≤◌, ◌==◌, nat_lt, min, true, false, if◌then◌else◌, List, [], ◌∷◌, ◌++◌, length, slice_index, Option, Some, None, Result, Ok, Err, All, Contains, IfSome}
use Rattle.atomic_table.specs.declared.shared.Seat.{Seat}
use Rattle.atomic_table.specs.Seated.{TableId}
use Rattle.dstm_machines.specs.declared.event.Event.{Event}
use Rattle.dstm_machines.specs.Machines.{Machine, Fits, held, local}
use Rattle.dstm_machines.specs.Sharing.{Shared}
use Rattle.dstm_machines.specs.Traces.{Access, IsPastOf, events_of}
use Rattle.dstm_machines.specs.Traces.Access.{Load, Store, Exchange, Add}
use Rattle.dstm_seats.specs.declared.view.Old.{Old}
use Rattle.dstm_seats.specs.declared.view.View.{View}

-- ---- a seat and its table

-- which table it is, and what it was told
pub record Home (T : Type 0) : Type 0 where
  pub table : TableId
  pub terms : T

module _ {K T : Type 0} where
  -- what a seat knows
  abbrev pub view_of : Seat ℕ (View K T) → View K T
  view_of seat = seat.me.0

  -- the seat is of this table
  abbrev pub IsOf : Home T → Seat ℕ (View K T) → Type 0
  IsOf home seat = (seat.table_id ≡ home.table) × (seat.me.1 ≡ []) × (seat.me.0.terms ≡ Some home.terms)

  -- the view of the first seat of a new table, by which so many callers may enrol
  abbrev pub founder_of : T → ℕ → View K T
  founder_of terms callers = record {
    terms = Some terms;
    log = [];
    number = None;
    numbers = [];
    enrolments = callers;
    first = true;
    out = 0;
    apart = 0;
    olds = [];
  }

  -- what the seat of a caller knows, which was split from the first one
  abbrev pub caller_view : T → (number : ℕ) → List (Event K) → View K T
  caller_view terms number log = record {
    terms = Some terms;
    log = log;
    number = Some number;
    numbers = number ∷ [];
    enrolments = 0;
    first = false;
    out = 0;
    apart = 1;
    olds = [];
  }

-- the view of the first seat of a new table
abbrev pub founder : {K T B S : Type 0} → Shared K T B S → T → View K T
founder shared terms = founder_of terms (shared.machine.callers (shared.table terms))

-- ---- the next event of a seat's caller

-- what an event that acts in this way expects at a word that holds what is found
abbrev pub expected_by : Access → ℕ → ℕ
expected_by (Exchange expected value) found = expected
expected_by way found = found

-- what it puts there
abbrev pub put_by : Access → ℕ → ℕ
put_by Load found = found
put_by (Store value) found = value
put_by (Exchange expected value) found = if found == expected then value else found
put_by Add found = found + 1

-- a seat's number; a seat that has none gets the number found
abbrev pub number_or : Option ℕ → ℕ → ℕ
number_or (Some c) found = c
number_or None found = found

-- the word that an exchange found
abbrev pub found_in : Result ℕ ℕ → ℕ
found_in (Ok found) = found
found_in (Err found) = found

module _ {K : Type 0} where
  -- the event of caller c that acts in this way on the word at a place, which holds what is found
  abbrev pub event_by : Access → ℕ → K → ℕ → ℕ → Event K
  event_by way c kind place found = record {
    caller = c;
    kind = kind;
    place = place;
    expected = expected_by way found;
    found = found;
    put = put_by way found;
  }

  -- the event that a seat's caller makes
  abbrev pub made : {T : Type 0} → View K T → Access → K → ℕ → ℕ → Event K
  made v way kind place found = event_by way (number_or v.number found) kind place found

  -- the events of a seat's number; none where it has no number
  abbrev pub events_by : Option ℕ → List (Event K) → List (Event K)
  events_by (Some c) log = events_of c log
  events_by None log = []

  -- the events of its own caller that a seat has seen
  abbrev pub own_events : {T : Type 0} → View K T → List (Event K)
  own_events v = events_by v.number v.log

-- the state of a caller with this number after some events; the first one where it has none
abbrev pub state_by : {K B S : Type 0} → Machine K B S → B → Option ℕ → List (Event K) → S
state_by machine table (Some c) log = local machine table log c
state_by machine table None log = machine.first

module _ {K T B S : Type 0} (shared : Shared K T B S) (terms : T) where
  -- the state of the seat's caller
  abbrev pub caller_state : View K T → S
  caller_state v = state_by shared.machine (shared.table terms) v.number v.log

  -- the local rules let the seat's caller make this event, whatever is found
  abbrev pub MayMake : View K T → Access → K → ℕ → Type 0
  MayMake v way kind place =
      (found : ℕ) → found < 2 ^ 64 →
      shared.machine.Allows (shared.table terms) (caller_state v) (made v way kind place found)

  -- what an event has to keep besides it keeps, whatever others did since the seat's last step
  abbrev pub KeepsSince : View K T → Event K → Type 0
  KeepsSince v event =
      (between : List (Event K)) → shared.IsRunOf terms (between ++ v.log) →
      Fits shared.machine (shared.table terms) (between ++ v.log) event → events_of event.caller between ≡ [] →
      shared.Keeps terms (between ++ v.log) event

  -- so does the event that the seat's caller makes, whatever is found
  abbrev pub MakesKept : View K T → Access → K → ℕ → Type 0
  MakesKept v way kind place = (found : ℕ) → KeepsSince v (made v way kind place found)

-- the seat's caller can enrol
abbrev pub CanEnrol : {K T : Type 0} → View K T → Type 0
CanEnrol v = (v.number ≡ None) × (0 < v.enrolments)

-- ---- what a step tells

-- a number that a seat gets is one of its numbers
abbrev pub numbers_by : Option ℕ → ℕ → List ℕ → List ℕ
numbers_by (Some _) c numbers = numbers
numbers_by None c numbers = c ∷ numbers

-- the enrolments that a step spends
abbrev pub spent_by : Option ℕ → ℕ
spent_by (Some _) = 0
spent_by None = 1

-- the view after an event, which is the last one of the log
abbrev pub moved : {K T : Type 0} → View K T → Event K → List (Event K) → View K T
moved v event log = record {
  terms = v.terms;
  log = log;
  number = Some event.caller;
  numbers = numbers_by v.number event.caller v.numbers;
  enrolments = v.enrolments - spent_by v.number;
  first = v.first;
  out = v.out;
  apart = v.apart;
  olds = [];
}

module _ {K T B S : Type 0} (shared : Shared K T B S) where
  -- The step is one event, the last one of the log after it. The log before is a past of this log, in which
  -- the seat's caller has this one event more, and the seat's other numbers have none. It is a run.
  pub record Adds (v : View K T) (event : Event K) (w : View K T) : Type 0 where
    pub view : w ≡ moved v event w.log
    pub log : (between : List (Event K)) × (w.log ≡ event ∷ between ++ v.log)
    pub mine : events_of event.caller w.log ≡ event ∷ own_events v
    pub others : (n : ℕ) → Contains v.numbers n → n ≢ event.caller → events_of n w.log ≡ events_of n v.log
    pub run : IfSome v.terms (λ terms. shared.IsRunOf terms w.log)

  -- the seat's caller made the event of this kind that acts in this way, and it found this word
  abbrev pub Makes : View K T → Access → K → ℕ → ℕ → View K T → Type 0
  Makes v way kind place found w = Adds v (made v way kind place found) w

-- ---- how seats are split and joined

-- no number stands twice in a list
abbrev pub AreApart : List ℕ → Type 0
AreApart [] = Unit {0}
AreApart (n ∷ ns) = (Contains ns n → ⊥) × AreApart ns

-- the longer of two logs
abbrev pub longer : {K : Type 0} → List (Event K) → List (Event K) → List (Event K)
longer log other = if nat_lt (length log) (length other) then other else log

module _ {K T : Type 0} where
  -- the seat was split from the first one and not joined to it
  abbrev pub IsOut : View K T → Type 0
  IsOut v = (v.first ≡ false) × (v.apart ≡ 1)

  -- the first seat after a split
  abbrev pub kept_part : View K T → View K T
  kept_part v = record v { enrolments = v.enrolments - min 1 v.enrolments; out = v.out + 1 }

  -- the new seat, which has seen as much, has no number, and gets an enrolment where one is left
  abbrev pub given_part : View K T → View K T
  given_part v = record {
    terms = v.terms;
    log = v.log;
    number = None;
    numbers = [];
    enrolments = min 1 v.enrolments;
    first = false;
    out = 0;
    apart = 1;
    olds = [];
  }

  abbrev pub old_of : View K T → Old K
  old_of v = record { numbers = v.numbers; log = v.log }

  -- the first seat with what another knew
  abbrev pub joined : View K T → View K T → View K T
  joined v other = record {
    terms = v.terms;
    log = longer v.log other.log;
    number = v.number;
    numbers = v.numbers ++ other.numbers;
    enrolments = v.enrolments + other.enrolments;
    first = v.first;
    out = v.out - 1;
    apart = v.apart;
    olds = old_of v ∷ old_of other ∷ [];
  }

  -- the view of a seat that was joined to another
  abbrev pub nobody : View K T
  nobody = record {
    terms = None;
    log = [];
    number = None;
    numbers = [];
    enrolments = 0;
    first = false;
    out = 0;
    apart = 0;
    olds = [];
  }

  -- the view after a meet
  abbrev pub met : View K T → List (Event K) → View K T
  met v log = record v { log = log; olds = [] }

-- the log went on from what was seen, with no more events of these numbers, which are among a seat's numbers
pub record GoesOn {K : Type 0} (log : List (Event K)) (numbers : List ℕ) (old : Old K) : Type 0 where
  pub past : IsPastOf old.log log
  pub among : (n : ℕ) → Contains old.numbers n → Contains numbers n
  pub quiet : (n : ℕ) → Contains old.numbers n → events_of n log ≡ events_of n old.log

module _ {K T B S : Type 0} (shared : Shared K T B S) where
  -- The log goes on from what was seen, by the seats that were joined too, with no more events of the seat's
  -- numbers. No number stands twice among these.
  pub record Meets (v w : View K T) : Type 0 where
    pub view : w ≡ met v w.log
    pub past : IsPastOf v.log w.log
    pub olds : All (GoesOn w.log v.numbers) v.olds
    pub quiet : (n : ℕ) → Contains v.numbers n → events_of n w.log ≡ events_of n v.log
    pub unlike : AreApart v.numbers
    pub run : IfSome v.terms (λ terms. shared.IsRunOf terms w.log)

  -- The first seat after a join and a meet. Its log goes on from what both had seen, with no more events of
  -- the numbers of either. No number stands twice among these.
  pub record Joined (v other w : View K T) : Type 0 where
    pub view : w ≡ met (joined v other) w.log
    pub past : IsPastOf v.log w.log
    pub other_past : IsPastOf other.log w.log
    pub kept : (n : ℕ) → Contains v.numbers n → events_of n w.log ≡ events_of n v.log
    pub other_kept : (n : ℕ) → Contains other.numbers n → events_of n w.log ≡ events_of n other.log
    pub unlike : AreApart (v.numbers ++ other.numbers)
    pub run : IfSome v.terms (λ terms. shared.IsRunOf terms w.log)

  -- ---- the words in the end

  -- how many callers have enrolled
  abbrev pub enrolled : T → List (Event K) → ℕ
  enrolled key log = held shared.machine (shared.table key) log (shared.callers_place (shared.table key))

  -- The words are what a log leaves that goes on from what the seat had seen. Where it is the first seat and
  -- none is out, this log is its own.
  pub record LeftBy (key : T) (v : View K T) (words : List ℕ) : Type 0 where
    pub log : List (Event K)
    pub past : IsPastOf v.log log
    pub run : shared.IsRunOf key log
    pub wide : length words ≡ shared.word_count (shared.table key)
    pub left : (p : ℕ) → p < shared.word_count (shared.table key) →
        slice_index words p ≡ held shared.machine (shared.table key) log p
    pub whole : v.first ≡ true → v.out ≡ 0 → log ≡ v.log
    -- how many callers have enrolled, and may yet
    pub few : v.enrolments + enrolled key log ≤ shared.machine.callers (shared.table key)
    -- the seat's numbers are different ones, whose callers have enrolled
    pub known : (n : ℕ) → Contains v.numbers n → n < enrolled key log
    pub unlike : AreApart v.numbers
    -- a number whose caller has not enrolled has no event
    pub fresh : (n : ℕ) → enrolled key log ≤ n → events_of n log ≡ []
