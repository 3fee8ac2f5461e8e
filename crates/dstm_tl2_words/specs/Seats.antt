-- What the calls on words say, in reading order: a seat and its table, the next event of its caller, what a step
-- tells, how seats are joined, and what the words hold in the end. These are the notions of `dstm_seats`, for TL2
-- under a law `holds`.
use Rattle.std.specs.Prelude.{◌≡◌, ℕ, ◌^◌, ◌<◌, List, true}
pub use Rattle.dstm_seats.specs.Seats.{view_of, caller_view, found_in, number_or, events_by, event_by, made, own_events, moved, kept_part, given_part, joined, met, longer, old_of, nobody, IsOf, CanEnrol, IsOut, AreApart, GoesOn}
use Rattle.dstm_seats.specs.Seats as seats
use Rattle.dstm_seats.specs.declared.view.View as views
use Rattle.dstm_machines.specs.Traces.{Access}
use Rattle.dstm_model.specs.declared.value.Val.{Val}
use Rattle.dstm_model.specs.Map.{KeepsLaw}
use Rattle.dstm_tl2.specs.declared.kind.Kind.{Kind}
use Rattle.dstm_tl2.specs.declared.terms.Terms.{Terms}
use Rattle.dstm_tl2.specs.Histories.{entry_of, is_draw, writes_of}
use Rattle.dstm_tl2.specs.Rules.{AllowedAs}
use Rattle.dstm_tl2.specs.Runs.{tl2}
use Rattle.dstm_tl2.specs.Sharing.{shared, table_of}
use Rattle.dstm_tl2.specs.State.{LocalState}
use Rattle.dstm_tl2.specs.Words.{objects}

-- ---- a seat and its table

-- which table it is, and what it was told
abbrev pub Home : Type 0 → Type 0
Home L = seats.Home (Terms L)

-- what a seat knows
abbrev pub View : Type 0 → Type 0
View L = views.View Kind (Terms L)

module _ {L : Type 0} where
  -- the view of the first seat of a new table
  abbrev pub founder : Terms L → View L
  founder terms = seats.founder_of terms terms.callers

  -- ---- the next event of a seat's caller

  -- the state of the seat's caller
  abbrev pub caller_state : Terms L → View L → LocalState
  caller_state terms v = seats.state_by tl2 (table_of terms) v.number v.log

  -- the local rules let the seat's caller make this event, whatever is found
  abbrev pub MayMake : Terms L → View L → Access → Kind → ℕ → Type 0
  MayMake terms v way kind place =
      (found : ℕ) → found < 2 ^ 64 →
      AllowedAs kind (table_of terms) (caller_state terms v) (made v way kind place found)

  module _ (holds : L → List Val → Type 0) where
    -- with a Draw the attempt's entry keeps the law
    abbrev pub DrawsLawfully : Terms L → View L → Kind → Type 0
    DrawsLawfully terms v kind =
        is_draw kind ≡ true →
        KeepsLaw (holds terms.law.value) (objects (table_of terms))
        (entry_of (caller_state terms v) (writes_of kind))

    -- ---- what a step tells

    -- the seat's caller made the event of this kind that acts in this way, and it found this word
    abbrev pub Makes : View L → Access → Kind → ℕ → ℕ → View L → Type 0
    Makes v way kind place found w = seats.Makes (shared holds) v way kind place found w

    -- ---- how seats are joined, and the words in the end

    -- the first seat after a join and a meet
    abbrev pub Joined : View L → View L → View L → Type 0
    Joined v other w = seats.Joined (shared holds) v other w

    -- the words are what a log leaves that goes on from what the seat had seen
    abbrev pub LeftBy : Terms L → View L → List ℕ → Type 0
    LeftBy terms v words = seats.LeftBy (shared holds) terms v words
