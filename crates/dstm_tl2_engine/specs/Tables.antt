-- What contracts see of the one that gives out a table's callers, and of a record.
use Rattle.std.specs.Prelude.{◌≡◌, ℕ, ◌+◌, ◌<◌, ◌≤◌, List, [], ◌∷◌, ◌++◌, length, None, Some, Contains}
use Rattle.atomic_table.specs.declared.shared.Seat.{Seat}
use Rattle.dstm_model.specs.declared.value.Val.{Val}
use Rattle.dstm_machines.specs.Traces.{events_of}
use Rattle.dstm_tl2.specs.Rules.{Event}
use Rattle.dstm_tl2.specs.Runs.{local}
use Rattle.dstm_tl2.specs.Sharing.{table_of}
use Rattle.dstm_tl2.specs.State.{first}
use Rattle.dstm_tl2.specs.declared.terms.Terms.{Terms}
use Rattle.dstm_tl2_words.specs.Seats.{View, Home, Joined, founder, kept_part}
use Rattle.dstm_tl2_engine.specs.declared.error.TlEnrol.{TlEnrol}
use Rattle.dstm_tl2_engine.specs.declared.error.TlEnrol.TheVariants.{Full, Memory}
use Rattle.dstm_tl2_engine.specs.Attempts.{done, done_by}
use Rattle.dstm_tl2_engine.specs.Callers.{TlCalled, seat_view, state, table_of_caller}
use Rattle.dstm_tl2_engine.specs.Calls.{Performs}
use Rattle.dstm_tl2_order.specs.Tasks.Task.{Enrolling, Returning}

pub record TlFounding (L : Type 0) : Type 0 where
  pub home : Home L  -- its table, and what this was told
  pub view : View L  -- what its seat knows
  pub made : ℕ  -- how many callers it has made

-- what is kept of a table that was closed: with the terms, its numbers of objects, callers and attempts, the first
-- values and the law
pub record TlRecorded (L : Type 0) : Type 0 where
  pub terms : Terms L
  pub log : List Event

module _ {L : Type 0} where
  abbrev pub founded : Home L → TlFounding L
  founded home = record { home = home; view = founder home.terms; made = 0 }

  -- a caller that has just drawn its number
  abbrev pub enrolled_as : Terms L → Seat ℕ (View L) → ℕ → TlCalled L
  enrolled_as terms seat number = record {
    home = record { table = seat.table_id; terms = terms };
    log = seat.me.0.log;
    number = number;
    writes = [];
    set = [];
    left = None;
  }

  -- a caller before its number is drawn
  abbrev pub unnumbered : TlFounding L → TlCalled L
  unnumbered f = record { home = f.home; log = f.view.log; number = 0; writes = []; set = []; left = None }

  -- Of the callers that were taken in nothing is locked any more, and with those that are out they are at least as many
  -- as were made.
  pub record HasReturned (terms : Terms L) (made : ℕ) (view : View L) : Type 0 where
    pub free : (n : ℕ) → Contains view.numbers n → (local (table_of terms) view.log n).holds ≡ []
    pub counted : made ≤ length view.numbers + view.out
    pub few : view.out ≤ made

  module _ (holds : L → List Val → Type 0) where
    -- a new caller: the founder's seat was split, and the caller's number drawn by one add
    pub record Enrols (f g : TlFounding L) (k : TlCalled L) : Type 0 where
      pub founder : g ≡ record f { view = kept_part f.view; made = f.made + 1 }
      pub caller : k ≡ record (unnumbered f) { log = k.log; number = k.number }
      pub number : k.number < f.home.terms.callers
      pub enrol : Event
      pub log : (between : List Event) × (k.log ≡ enrol ∷ between ++ f.view.log)
      pub own : events_of k.number k.log ≡ enrol ∷ []
      pub state : state k ≡ record first { number = Some k.number }
      pub steps : Performs holds Enrolling (record (unnumbered f) { number = k.number }) k None

    -- A caller was retired: what a dropped attempt had locked was given back, and its seat was joined. What it has
    -- committed is told by the founder's log.
    pub record Retires (f g : TlFounding L) (k : TlCalled L) : Type 0 where
      pub returned : TlCalled L
      pub steps : Performs holds Returning k returned None
      pub free : (state returned).holds ≡ []
      pub rest : (state k).holds ≡ [] → returned ≡ k
      pub joined : Joined holds f.view (seat_view returned) g.view
      pub founder : g ≡ record f { view = g.view }
      pub done : done_by (table_of_caller k) g.view.log k.number ≡ done k

-- all callers were made
abbrev pub IsFull : TlEnrol → Type 0
IsFull Full = Unit {0}
IsFull (Memory e) = ⊥
