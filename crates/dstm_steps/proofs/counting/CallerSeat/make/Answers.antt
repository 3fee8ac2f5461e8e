use Rattle.std.proofs.Common.{refl}
use Rattle.dstm_steps.proofs.Tallied.{unbegun_counts}
use Rattle.dstm_steps.proofs.counting.CallerSeat.make.Goals as goal

pub invariant_of-result : goal.invariant_of-result
invariant_of-result g c =
    unbegun_counts (record { seat = c.args.seat; tally = c.idle.result; draws = 0 }) c.requires.unbegun c.requires.undrawn
    c.idle.ensures refl
