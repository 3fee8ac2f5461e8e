use Rattle.std.proofs.Common.{List, ℕ, ap, ◌∙◌}
use Rattle.dstm_report.specs.Lawful.{first_job}
use Rattle.dstm_report.specs.Turns.{Turning, job_of}
use Rattle.dstm_report.proofs.Places.{first_at}
use Rattle.dstm_report.proofs.turns.Turns.first.Goals as goal

pub returns : goal.returns
returns c =
    let jobs = c.self.inside.jobs.now in
    let next = c.self.inside.next.items in
    c.job_of.ensures
    ∙ ap (λ (places : List ℕ). job_of jobs places c.args.worker) c.deref.ensures.value
    ∙ first_at c.args.worker c.self.invariant
    ∙ ap (λ (t : Turning). first_job c.args.worker t.left) c.self.view_is
