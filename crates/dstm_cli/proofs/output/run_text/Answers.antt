use Rattle.std.proofs.Common.{inr, rules}
use Rattle.dstm_cli.proofs.output.run_text.Goals as goal

pub returns-in_err-render_packed-clause-closed : goal.returns-in_err-render_packed-clause-closed
returns-in_err-render_packed-clause-closed g c =
    inr (c.in_ok-workload.workload, (c.run_crew_packed.ensures.first, (search rules, search rules)))

pub returns-clause-closed : goal.returns-clause-closed
returns-clause-closed g c = inr (c.in_ok-workload.workload, (c.run_crew_packed.ensures.first, (search rules, search rules)))
