use Rattle.bench.specs.Places.{Exist}
use Rattle.bench.proofs.engine.places.choose.Given as goal

-- what was chosen are objects
abbrev pub invariant-loop-i : goal.invariant-loop-i
invariant-loop-i l = Exist l.fn.shape l.places.items
