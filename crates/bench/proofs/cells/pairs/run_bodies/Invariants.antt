use Rattle.bench.specs.Ready.{IsReadyOn}
use Rattle.bench.proofs.cells.pairs.run_bodies.Given as goal

-- the caller stays ready
abbrev pub invariant-loop-number : goal.invariant-loop-number
invariant-loop-number l = IsReadyOn l.fn.table l.fn.law l.caller
