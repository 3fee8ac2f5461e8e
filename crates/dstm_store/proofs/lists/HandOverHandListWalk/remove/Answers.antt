use Rattle.std.proofs.Common.{arith}
use Rattle.dstm_release_list.specs.Walk.{most_of_remove}
use Rattle.dstm_store.proofs.Few.{touches-change, removes_few}
use Rattle.dstm_store.proofs.lists.HandOverHandListWalk.remove.Goals as goal

pub returns-clause-touches : goal.returns-clause-touches
returns-clause-touches g c lets stay =
    let done = c.remove.ensures in
    touches-change g.M.Mem c.args.mem.now c.remove.new.mem c.args.layout.now 4 most_of_remove c.remove.result (omega arith)
    removes_few done.adds done.applies.marks done.applies.quiet done.few stay
