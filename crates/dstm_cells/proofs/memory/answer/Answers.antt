use Rattle.std.proofs.Common.{sym}
use Rattle.dstm_cells.proofs.Running.{was_called}
use Rattle.dstm_cells.proofs.memory.answer.Goals as goal

pub returns : goal.returns
returns g c =
    was_called g.F.Fn c.args.f.now c.args.seat.number _ _ (record { end = c.f-end.result; newest = c.newest.result; draws = c.draws.result })
    c.f-end.ensures (c.newest.ensures.up_to, sym c.draws.ensures)
