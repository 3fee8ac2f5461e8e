use Rattle.std.proofs.Common.{◌≡◌}
use Rattle.dstm_store_tests.proofs.tests.store.apply_each.Given as goal

abbrev pub invariant-loop-op : goal.invariant-loop-op
invariant-loop-op l = l.store.layout ≡ l.layout
