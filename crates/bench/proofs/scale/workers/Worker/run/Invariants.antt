use Rattle.bench.specs.Ready.{IsSeated}
use Rattle.bench.proofs.scale.workers.Worker.run.Given as goal

-- its caller stays ready
abbrev pub invariant-loop-number : goal.invariant-loop-number
invariant-loop-number l = IsSeated l.self.table.now l.self.caller
