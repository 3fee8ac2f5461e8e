use Rattle.dstm_store.specs.Whole.{IsLawful}
use Rattle.dstm_store_tests.proofs.tests.store.run_jobs.Given as goal

abbrev pub invariant-loop-job : goal.invariant-loop-job
invariant-loop-job l = IsLawful l.layout l.values.items
