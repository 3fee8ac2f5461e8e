use Rattle.std.proofs.Common.{ℕ, ◌+◌, ◌%◌, ap, ◌∙◌, sym, arith}
use Rattle.dstm_workload.specs.declared.workload.Job.{Job}
use Rattle.dstm_gen.specs.Words.{skip, words_of}
use Rattle.dstm_gen.specs.Generated.{ops_of, job_size, job_place, job_at, jobs_of}
use Rattle.dstm_gen.proofs.Streams.{takes_none, takes_next}
use Rattle.dstm_gen.proofs.Places.{job_place-more, one_more, same_job}
use Rattle.dstm_gen.proofs.workload.jobs.Goals as goal

pub loop-number-init : goal.loop-number-init
unfolding job_place jobs_of
loop-number-init c = record { jobs = c.in_ok-jobs.ensures.items; left = takes_none c.args.words }

pub loop-number-preserved : goal.loop-number-preserved
unfolding jobs_of
loop-number-preserved c =
    let before = c.args.words in
    let words = words_of before in
    let workers = c.args.workers in
    let i = c.loop-number.number in
    let so_far = c.loop-number.invariant in
    let line = 6 + c.from.result in
    let made : Job = record { line = line; worker = i % workers; ops = c.ops.result } in
    record {
      jobs = one_more (job_at words workers) c.loop-number.jobs.items c.push.new.self.items made i so_far.jobs
          (same_job line (i + 6) (i % workers) c.ops.result _ (omega (arith, c.from.ensures))
          (c.ops.ensures.value ∙ ap ops_of so_far.left)) c.in_ok-push.ensures.items;
      left = takes_next (job_place words i) job_size before c.loop-number.words c.ops.new.self
          so_far.left c.ops.ensures.left
          ∙ ap (λ (n : ℕ). skip n words) (sym (job_place-more words i));
    }
