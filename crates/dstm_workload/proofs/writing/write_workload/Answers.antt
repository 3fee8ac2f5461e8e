use Rattle.std.proofs.Common.{◌≡◌, ◌++◌, List, [], length, drop, map, sym, ap, ◌∙◌, arith}
use Rattle.std.proofs.lemmas.List.{append-nil, drop_all}
use Rattle.dstm_text.specs.Lines.{lines_of}
use Rattle.dstm_workload.specs.declared.workload.Job.{Job}
use Rattle.dstm_workload.specs.Reading.{workload_of}
use Rattle.dstm_workload.specs.Writing.{lined, fields_of_job}
use Rattle.dstm_workload.proofs.TextAgain.{read_again}
use Rattle.dstm_workload.proofs.writing.write_workload.Goals as goal

pub returns-clause-read : goal.returns-clause-read
returns-clause-read c =
    let workload = c.args.workload.now in
    let out = c.loop-job.out.items in
    let count = ap length c.as_slice-job-items.ensures in
    let none : drop c.loop-job.job-index workload.jobs ≡ [] =
    drop_all c.loop-job.job-index workload.jobs (omega arith) in
    let text =
    sym (append-nil out) ∙ ap (λ (jobs : List Job). out ++ lined (map fields_of_job jobs)) (sym none)
    ∙ c.loop-job.invariant in
    ap (λ t. workload_of (lines_of t)) text ∙ read_again workload c.requires
