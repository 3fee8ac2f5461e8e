use Rattle.std.proofs.Common.{◌≡◌}
use Rattle.dstm_store.specs.Whole.{IsLawful}
use Rattle.dstm_store_tests.proofs.tests.compose.run_beside.Given as goal

abbrev pub invariant-loop-job : goal.invariant-loop-job
invariant-loop-job l = record {
  layout : l.store.layout ≡ l.layout;
  lawful : IsLawful l.layout l.values.items;
}
