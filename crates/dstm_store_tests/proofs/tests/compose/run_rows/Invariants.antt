use Rattle.dstm_store.specs.Whole.{IsLawful}
use Rattle.dstm_store_tests.proofs.tests.compose.run_rows.Given as goal

abbrev pub invariant-loop-i : goal.invariant-loop-i
invariant-loop-i l = IsLawful l.layout l.values.items
