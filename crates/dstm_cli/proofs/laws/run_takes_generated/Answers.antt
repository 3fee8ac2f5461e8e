use Rattle.std.proofs.Common.{◌≡◌, Bool, true, length, Result, Ok, Err, leb, ap, ◌∙◌, if◌then◌else◌}
use Rattle.std.proofs.lemmas.Bool.{le-leb}
use Rattle.dstm_gen.specs.Words.{words_of_seed}
use Rattle.dstm_gen.proofs.Validity.{generated-valid}
use Rattle.dstm_text.specs.Lines.{lines_of}
use Rattle.dstm_workload.specs.declared.workload.Workload.{Workload}
use Rattle.dstm_workload.specs.Reading.{workload_of}
use Rattle.dstm_workload.specs.Writing.{text_of_workload}
use Rattle.dstm_cli.specs.declared.failure.Failure.{Failure}
use Rattle.dstm_cli.specs.declared.failure.Failure.TheVariants.{TooLong}
use Rattle.dstm_cli.specs.Command.{or_refused, workload_for}
use Rattle.dstm_cli.proofs.laws.run_takes_generated.Goals as goal

pub returns : goal.returns
returns c = λ spec small.
    let words = words_of_seed spec.seed in
    let workload = workload_for spec in
    let text = text_of_workload workload in
    let valid = generated-valid words spec.count spec.workers small.few_transactions small.some_worker small.few_workers in
    let short : leb (length text) 4194304 ≡ true =
    le-leb _ _ (c.short_text.ensures words spec.count spec.workers small.few_transactions small.some_worker
    small.few_workers) in
    let read : Result Workload Failure = or_refused (workload_of (lines_of text)) in
    ap (λ (b : Bool). if b then read else Err TooLong) short
    ∙ ap or_refused (c.read_back.ensures workload valid
    ∙ ap (λ (w : Workload). Ok w) (c.lines_of_the_text.ensures words spec.count spec.workers))
