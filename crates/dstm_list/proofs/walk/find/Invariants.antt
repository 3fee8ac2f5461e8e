use Rattle.std.specs.Prelude.{Ok}
use Rattle.dstm_mem.specs.Operates.{Operates}
use Rattle.dstm_region.specs.Region.{IsInside}
use Rattle.dstm_list.proofs.Steps.{left}
use Rattle.dstm_list.proofs.Walked.{Reaches}
use Rattle.dstm_list.proofs.walk.find.Given as goal

abbrev pub invariant-loop-before : goal.invariant-loop-before
invariant-loop-before g l = record {
  walked : Operates g.M.Mem (IsInside l.region) (λ node. Unit {0}) (λ node. Unit {0}) (Reaches l.region l.key l.link)
      l.fn.mem l.mem (Ok l.before);
  link : IsInside l.region l.link;
}

abbrev pub decreases-loop-before : goal.decreases-loop-before
decreases-loop-before g l = left l.region.first l.key l.link l.before.key
