use Rattle.std.proofs.Common.{arith}
use Rattle.dstm_mem.specs.Flat.{written_in}
use Rattle.dstm_mem.proofs.WithSet.{with_set-of_values}
use Rattle.dstm_mem.proofs.flat.settle.Goals as goal

pub returns : goal.returns
returns c =
    with_set-of_values c.loop-i.values c.args.values.now (written_in c.args.notes.now) c.loop-i.auto.values
    (λ o within. c.loop-i.invariant.settled o (omega (arith, within)))
