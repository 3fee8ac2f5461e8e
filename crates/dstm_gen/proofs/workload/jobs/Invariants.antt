use Rattle.std.proofs.Common.{◌≡◌}
use Rattle.dstm_gen.specs.Words.{words_of, Takes}
use Rattle.dstm_gen.specs.Generated.{jobs_of, job_place}
use Rattle.dstm_gen.proofs.workload.jobs.Given as goal

abbrev pub invariant-loop-number : goal.invariant-loop-number
invariant-loop-number l = record {
  jobs : l.jobs.items ≡ jobs_of (words_of l.fn.words) l.number l.workers;
  left : Takes (job_place (words_of l.fn.words) l.number) l.fn.words l.words;
}
