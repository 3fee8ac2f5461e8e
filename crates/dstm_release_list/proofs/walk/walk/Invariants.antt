use Rattle.dstm_list.proofs.Steps.{left}
use Rattle.dstm_release_list.proofs.Walking.{Walking}
use Rattle.dstm_release_list.proofs.walk.walk.Given as goal

abbrev pub invariant-loop-last : goal.invariant-loop-last
invariant-loop-last g l = Walking g.M.Mem l.region l.key l.fn.mem l.mem l.head l.behind l.last

abbrev pub decreases-loop-last : goal.decreases-loop-last
decreases-loop-last g l = left l.region.first l.key l.last.object l.last.node.key
