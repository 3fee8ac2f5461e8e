-- How a step of a caller counts.
use Rattle.std.specs.Prelude.{ℕ, ◌+◌, ◌-◌, ◌^◌, ◌==◌, Bool, true, false, if◌then◌else◌, min}
use Rattle.dstm_core.specs.declared.event.Kind.{Kind}
use Rattle.dstm_core.specs.declared.event.Kind.TheVariants.{Begin, Kill}
use Rattle.dstm_order.specs.Counts.{one_if}
use Rattle.dstm_steps.specs.declared.counter.Counter.TheInside.{Inside}
use Rattle.dstm_steps.specs.declared.counting.Tally.{Tally}

-- a count that stands at the greatest number of 64 bits
abbrev pub stands : ℕ → ℕ
stands count = min count (2 ^ 64 - 1)

-- the steps that a counter has counted
abbrev pub steps_in : Inside → ℕ
steps_in c = if c.full then 2 ^ 64 - 1 else stands (c.past + 1)

-- what a counter counts
abbrev pub tallied : Inside → Tally
tallied c =
    if c.begun
    then record { steps = steps_in c; turns = c.turns; kills = c.kills }
    else record { steps = 0; turns = 0; kills = 0 }

abbrev pub kills : Kind → Bool
kills Kill = true
kills kind = false

-- one step more, by its kind, and whether it is a turn and a Kill that succeeded
abbrev pub ticked_on : (turn kills : Bool) → Tally → Tally
ticked_on turn kills tally =
    if tally.steps == 0
    then tally
    else record {
      steps = stands (tally.steps + 1);
      turns = stands (tally.turns + one_if turn);
      kills = stands (tally.kills + one_if kills);
    }

abbrev pub ticked : Kind → (turn kills : Bool) → Tally → Tally
ticked Begin turn kills tally = record { steps = 1; turns = 0; kills = 0 }
ticked kind turn kills tally = ticked_on turn kills tally
