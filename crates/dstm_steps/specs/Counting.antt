-- What a caller's seat counts: since the Begin of its last attempt, and the numbers that it has drawn.
use Rattle.std.specs.Prelude.{◌≡◌, ℕ, List, Option, Some, IsSome}
use Rattle.dstm_core.specs.Counts.{draw_count}
use Rattle.dstm_core.specs.Events.{Event}
use Rattle.dstm_core.specs.Runs.{local}
use Rattle.dstm_order.specs.Counts.{Counts as Counted, counts_of, no_counts}
use Rattle.dstm_words.specs.declared.terms.Terms.{Terms}
use Rattle.dstm_words.specs.Seats.{View, own_events, view_of}
use Rattle.dstm_steps.specs.Ticks.{stands}
use Rattle.dstm_steps.specs.declared.counting.Tally.{Tally}
use Rattle.dstm_steps.specs.declared.counting.CallerSeat.TheInside.{Inside}

abbrev pub tally_of : Counted → Tally
tally_of counts = record { steps = stands counts.steps; turns = stands counts.turns; kills = stands counts.kills }

module _ {L : Type 0} where
  -- the counts of the caller of a seat
  abbrev pub counts_in : Option (Terms L) → Option ℕ → List Event → Counted
  counts_in (Some terms) (Some number) log = counts_of terms.shape log number
  counts_in terms number log = no_counts

  abbrev pub counts_by : View L → Counted
  counts_by v = counts_in v.terms v.number v.log

  -- how many numbers the caller of a seat has drawn
  abbrev pub draws_by : View L → ℕ
  draws_by v = draw_count (own_events v)

  -- the caller has its number, and has begun no attempt
  pub record IsUnbegun (v : View L) : Type 0 where
    pub terms : Terms L
    pub told : v.terms ≡ Some terms
    pub number : ℕ
    pub caller : v.number ≡ Some number
    pub unbegun : (local terms.shape v.log number).begun ≡ 0

  -- the tally is what the caller of the seat counts, and so many numbers it has drawn
  pub record Counts (s : Inside L) : Type 0 where
    pub caller : IsSome (view_of s.seat).number
    pub counts : s.tally ≡ tally_of (counts_by (view_of s.seat))
    pub draws : s.draws ≡ stands (draws_by (view_of s.seat))
