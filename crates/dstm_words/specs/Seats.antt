-- What the calls on words say, in reading order: a seat and its table, the next event of its caller, what a step
-- tells, how seats are split and joined, and what the words hold in the end. These are the notions of `dstm_seats`,
-- for DSTM's machine under a law `holds`.
use Rattle.std.specs.Prelude.{◌≡◌, ℕ, ◌+◌, ◌^◌, ◌<◌, List, ◌∷◌, [], ◌++◌, length, Option}
pub use Rattle.dstm_seats.specs.Seats.{view_of, caller_view, found_in, number_or, events_by, event_by, made, own_events, moved, kept_part, given_part, joined, met, longer, old_of, nobody, IsOf, CanEnrol, IsOut, AreApart, GoesOn}
use Rattle.dstm_seats.specs.Seats as seats
use Rattle.dstm_seats.specs.declared.view.View as views
use Rattle.dstm_machines.specs.Sharing.{Shared}
use Rattle.dstm_machines.specs.Traces.Access.{Add, Store}
use Rattle.dstm_model.specs.declared.value.Val.{Val}
use Rattle.dstm_model.specs.Map.{KeepsLaw}
use Rattle.dstm_core.specs.Events.{Event}
use Rattle.dstm_core.specs.declared.event.Kind.{Kind}
use Rattle.dstm_core.specs.declared.event.Kind.TheVariants.{PutNew}
use Rattle.dstm_core.specs.declared.shape.Shape.{Shape}
use Rattle.dstm_core.specs.Histories.{CoreRun, entry_of}
use Rattle.dstm_core.specs.Rules.{AllowedAs, access}
use Rattle.dstm_core.specs.Runs.{Fits, core, local}
use Rattle.dstm_core.specs.State.{LocalState}
use Rattle.dstm_core.specs.Traces.{Access, events_of}
use Rattle.dstm_core.specs.Words.{IsValid, place, word_count}
use Rattle.dstm_core.specs.Words.Word.{CallersWord}
use Rattle.dstm_words.specs.declared.terms.Terms.{Terms}

-- ---- a seat and its table

-- which table it is, and what it was told
abbrev pub Home : Type 0 → Type 0
Home L = seats.Home (Terms L)

-- what a seat knows
abbrev pub View : Type 0 → Type 0
View L = views.View Kind (Terms L)

-- the view of the first seat of a new table
abbrev pub founder : {L : Type 0} → Terms L → View L
founder terms = seats.founder_of terms terms.shape.callers

-- ---- the machine

-- the log is a core run of a table's terms, which are sound
pub record IsRunOf {L : Type 0} (holds : L → List Val → Type 0) (terms : Terms L) (log : List Event) : Type 0 where
  pub valid : IsValid terms.shape
  pub lawful : holds terms.law.value terms.start.value.items
  pub run : CoreRun terms.shape terms.start.value.items (holds terms.law.value) log

-- events of this kind act in this way, whatever the state of their caller
abbrev pub ActsBy : Kind → Access → Type 0
ActsBy kind way = (shape : Shape) (state : LocalState) (event : Event) → access kind shape state event ≡ way

-- DSTM as a machine on shared words. An attempt's entry keeps the law with its last PutNew.
abbrev pub shared : {L : Type 0} → (L → List Val → Type 0) → Shared Kind (Terms L) Shape LocalState
shared holds = record {
  machine = core;
  number = λ state. state.number;
  word_count = word_count;
  callers_place = λ shape. place shape CallersWord;
  Adds = λ kind. ActsBy kind Add;
  table = λ terms. terms.shape;
  IsRunOf = IsRunOf holds;
  Keeps = λ terms log event.
      event.kind ≡ PutNew →
      (local terms.shape log event.caller).written + 1 ≡ length (local terms.shape log event.caller).writes →
      KeepsLaw (holds terms.law.value) terms.shape.objects
      (entry_of terms.shape terms.start.value.items (event ∷ log) (local terms.shape log event.caller));
}

-- ---- the next event of a seat's caller

-- the state of a caller with this number after some events; the first one where it has none
abbrev pub state_by : Shape → Option ℕ → List Event → LocalState
state_by shape number log = seats.state_by core shape number log

module _ {L : Type 0} where
  -- the state of the seat's caller
  abbrev pub caller_state : Terms L → View L → LocalState
  caller_state terms v = state_by terms.shape v.number v.log

  -- the local rules let the seat's caller make this event, whatever is found
  abbrev pub MayMake : Terms L → View L → Access → Kind → ℕ → Type 0
  MayMake terms v way kind place =
      (found : ℕ) → found < 2 ^ 64 →
      AllowedAs kind terms.shape (caller_state terms v) (made v way kind place found)

  -- an entry whose last new value the event puts keeps the law, whatever others did since the seat's last step
  abbrev pub PutsLawfully : (L → List Val → Type 0) → Terms L → View L → Event → Type 0
  PutsLawfully holds terms v event =
      (between : List Event) → let log = between ++ v.log in
      IsRunOf holds terms log → Fits terms.shape log event → events_of event.caller between ≡ [] →
      (caller_state terms v).written + 1 ≡ length (caller_state terms v).writes →
      KeepsLaw (holds terms.law.value) terms.shape.objects
      (entry_of terms.shape terms.start.value.items (event ∷ log) (caller_state terms v))

  -- a store that puts a new value keeps the law, whatever is found
  abbrev pub StoresLawfully : (L → List Val → Type 0) → Terms L → View L → Kind → ℕ → ℕ → Type 0
  StoresLawfully holds terms v PutNew place put =
      (found : ℕ) → PutsLawfully holds terms v (made v (Store put) PutNew place found)
  StoresLawfully holds terms v kind place put = Unit {0}

  module _ (holds : L → List Val → Type 0) where
    -- ---- what a step tells

    -- the step is this one event, which the seat's caller made
    abbrev pub Adds : View L → Event → View L → Type 0
    Adds v event w = seats.Adds (shared holds) v event w

    -- the seat's caller made the event of this kind that acts in this way, and it found this word
    abbrev pub Makes : View L → Access → Kind → ℕ → ℕ → View L → Type 0
    Makes v way kind place found w = seats.Makes (shared holds) v way kind place found w

    -- ---- how seats are joined, and the words in the end

    -- the first seat after a join and a meet
    abbrev pub Joined : View L → View L → View L → Type 0
    Joined v other w = seats.Joined (shared holds) v other w

    -- the words are what a log leaves that goes on from what the seat had seen
    abbrev pub LeftBy : Terms L → View L → List ℕ → Type 0
    LeftBy terms v words = seats.LeftBy (shared holds) terms v words
