use Rattle.dstm_attempts.proofs.Closed.{enrolled_closed}
use Rattle.dstm_attempts.proofs.Numbers.{enrolled_none}
use Rattle.dstm_cells.proofs.memory.Memory.part.Goals as goal

pub new-requires : goal.new-requires
new-requires g c = record {
  table = c.in-Ok.ensures.home;
  closed = enrolled_closed g.L.Law.holds c.args.founder.now c.caller.new.self c.args.seed c.in-Ok.caller c.in-Ok.ensures.caller;
  none = enrolled_none g.L.Law.holds c.args.founder.now c.caller.new.self c.args.seed c.in-Ok.caller c.in-Ok.ensures.caller;
}
