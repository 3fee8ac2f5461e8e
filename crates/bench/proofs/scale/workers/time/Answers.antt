use Rattle.std.proofs.Common.{◌∙◌, ap}
use denote.Param.Send.{sendable}
use Rattle.std.proofs.Crossing.{crosses}
use Rattle.dstm_tables.specs.Founders.{home_there}
use Rattle.bench.proofs.Ready.{founded_home}
use Rattle.bench.proofs.Sends.{worker_send}
use Rattle.bench.proofs.scale.workers.time.Goals as goal

pub seat_all-requires-clause-table : goal.seat_all-requires-clause-table
seat_all-requires-clause-table g c =
    ap home_there c.in_ok-table.ensures.founder ∙ founded_home c.in_ok-table.table

pub for_each_mut-requires-send-T : goal.for_each_mut-requires-send-T
for_each_mut-requires-send-T g c κs within = search (worker_send, crosses, sendable) depth 20
