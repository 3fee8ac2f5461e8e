use Rattle.std.proofs.lemmas.Result.{IfOk-weaker}
use Rattle.dstm_report.proofs.Totals.{total_stays}
use Rattle.dstm_records.specs.Running.{added}
use Rattle.dstm_cli.proofs.Demo.{is_demo, told_balances}
use Rattle.dstm_cli.proofs.output.demo_text.Goals as goal

pub returns-clause-text : goal.returns-clause-text
returns-clause-text g c =
    let workload = c.in_ok-workload.workload in
    let report = c.in_ok-report.report in
    let lawful = c.in_ok-report.ensures.lawful in
    IfOk-weaker c.tell.result _ _
    (λ text is. is_demo c.args.spec.now (added c.args.rounds.now c.run_crew.new.rounds) workload report c.total-total.result
    c.in_ok-verdict.verdict text.items c.in_ok-workload.ensures.exact lawful c.in_ok-report.ensures.stand
    (told_balances workload report _ lawful (total_stays workload report.rows c.in_ok-workload.ensures.valid))
    c.total-total.ensures (c.in_ok-verdict.ensures.lawful.1 lawful) is)
    c.tell.ensures
