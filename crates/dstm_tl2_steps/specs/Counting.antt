-- How many numbers a caller has drawn.
use Rattle.std.specs.Prelude.{◌≡◌, ℕ, ◌-◌, ◌^◌, min}
use Rattle.dstm_tl2.specs.Histories.{draw_count}
use Rattle.dstm_tl2_words.specs.Seats.{View, own_events, view_of}
use Rattle.dstm_tl2_steps.specs.declared.counting.CallerSeat.TheInside.{Inside}

module _ {L : Type 0} where
  -- how many the caller of a seat has drawn
  abbrev pub draws_by : View L → ℕ
  draws_by v = draw_count (own_events v)

  -- so many are counted; the count stands at the greatest number of 64 bits
  abbrev pub Counts : Inside L → Type 0
  Counts s = s.draws ≡ min (draws_by (view_of s.seat)) (2 ^ 64 - 1)
