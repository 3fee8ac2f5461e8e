-- What contracts see of the one that gives out a table's callers, and of a record.
use Rattle.std.specs.Prelude.{◌≡◌, ℕ, ◌+◌, ◌<◌, true, false, List, [], ◌∷◌, ◌++◌, None}
use Rattle.dstm_model.specs.declared.value.Val.{Val}
use Rattle.dstm_core.specs.Events.{Event}
use Rattle.dstm_core.specs.Traces.{events_of}
use Rattle.dstm_order.specs.Tasks.Task.{Enrolling, Leaving}
use Rattle.dstm_managers.specs.Choices.{started}
use Rattle.dstm_words.specs.declared.terms.Terms.{Terms}
use Rattle.dstm_words.specs.Seats.{View, Home, IsRunOf, Joined, founder, kept_part}
use Rattle.dstm_engine.specs.declared.error.EnrolError.{EnrolError}
use Rattle.dstm_engine.specs.declared.error.EnrolError.TheVariants.{Full, Memory}
use Rattle.dstm_opacity.specs.Committed.{done_by}
use Rattle.dstm_engine.specs.Attempts.{done}
use Rattle.dstm_engine.specs.Callers.{Called, is_live, seat_view, shape_of, start_of}
use Rattle.dstm_engine.specs.Calls.{Performs}

pub record Founding (L : Type 0) : Type 0 where
  pub home : Home L  -- its table, and what this was told
  pub view : View L  -- what its seat knows
  pub made : ℕ  -- how many callers and guests it has made
  pub guests : ℕ  -- how many of these are guests

-- what is kept of a table that was closed
pub record Recorded (L : Type 0) : Type 0 where
  pub terms : Terms L
  pub log : List Event

module _ {L : Type 0} where
  abbrev pub founded : Home L → Founding L
  founded home = record { home = home; view = founder home.terms; made = 0; guests = 0 }

  -- a caller before its number is drawn
  abbrev pub unnumbered : Founding L → (seed : ℕ) → Called L
  unnumbered f seed = record {
    home = f.home;
    log = f.view.log;
    number = 0;
    generator = (started f.home.terms.shape.manager seed).generator;
    began = (started f.home.terms.shape.manager seed).generator;
    fresh = true;
    set = [];
    left = None;
  }

  module _ (holds : L → List Val → Type 0) where
    -- a new caller: the founder's seat was split, and the caller's number drawn by one add
    pub record Enrols (f g : Founding L) (seed : ℕ) (k : Called L) : Type 0 where
      pub founder : g ≡ record f { view = kept_part f.view; made = f.made + 1 }
      pub caller : k ≡ record (unnumbered f seed) { log = k.log; number = k.number }
      pub number : k.number < f.home.terms.shape.callers
      pub enrol : Event
      pub log : (between : List Event) × (k.log ≡ enrol ∷ between ++ f.view.log)
      pub own : events_of k.number k.log ≡ enrol ∷ []
      pub steps : Performs holds Enrolling (record (unnumbered f seed) { number = k.number }) k None

    -- A caller was retired: an attempt that it had dropped before its end was quit, and its seat was joined. What it
    -- has committed is told by the founder's log.
    pub record Retires (f g : Founding L) (k : Called L) : Type 0 where
      pub quit : Called L
      pub steps : Performs holds Leaving k quit None
      pub rest : is_live k ≡ false → quit ≡ k
      pub joined : Joined holds f.view (seat_view quit) g.view
      pub founder : g ≡ record f { view = g.view }
      pub run : IsRunOf holds k.home.terms g.view.log
      pub done : done_by (shape_of k) (start_of k) g.view.log g.view.log k.number ≡ done k

-- all callers and guests were made
abbrev pub IsFull : EnrolError → Type 0
IsFull Full = Unit {0}
IsFull (Memory e) = ⊥
