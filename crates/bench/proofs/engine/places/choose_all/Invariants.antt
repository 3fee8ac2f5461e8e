use Rattle.std.specs.Prelude.{All}
use Rattle.bench.specs.Places.{Exist}
use Rattle.bench.proofs.engine.places.choose_all.Given as goal

-- what was chosen are objects
abbrev pub invariant-loop-i : goal.invariant-loop-i
invariant-loop-i l = All (λ places. Exist l.fn.shape places.items) l.lists.items
