use Rattle.std.proofs.Common.{◌≡◌}
use Rattle.bench.proofs.engine.attempts.try_all.Given as goal

-- the caller stays one of the table's
abbrev pub invariant-loop-places : goal.invariant-loop-places
invariant-loop-places l = l.caller.home ≡ l.fn.stm
