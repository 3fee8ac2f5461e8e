use Rattle.std.proofs.Common.{◌≡◌, ◌≤◌}
use Rattle.dstm_engine_tests.proofs.tests.moves.move_all.Given as goal

-- the caller stays one of the table's, and no more moves are made than there are
abbrev pub invariant-loop : goal.invariant-loop
invariant-loop g l = (g.C.Mover.home l.caller ≡ g.C.Mover.place l.fn.table) × (l.body.law ≡ l.fn.law) × (l.done ≤ 10000)
