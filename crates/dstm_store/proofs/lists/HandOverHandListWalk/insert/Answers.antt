use Rattle.std.proofs.Common.{arith}
use Rattle.dstm_release_list.specs.Walk.{most_of_insert}
use Rattle.dstm_store.proofs.Few.{touches-change, inserts_few}
use Rattle.dstm_store.proofs.lists.HandOverHandListWalk.insert.Goals as goal

pub returns-clause-touches : goal.returns-clause-touches
returns-clause-touches g c lets stay =
    let done = c.insert.ensures in
    touches-change g.M.Mem c.args.mem.now c.insert.new.mem c.args.layout.now 5 most_of_insert c.insert.result (omega arith)
    inserts_few done.adds done.applies.marks done.applies.quiet done.few stay
