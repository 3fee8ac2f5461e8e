use Rattle.std.proofs.Common.{Option, sym, subst, ◌∙◌, ◌↔◌}
use Rattle.std.specs.Prelude.{IfSome, IsTrue}
use Rattle.dstm_report.specs.declared.report.Row.{Row}
use Rattle.dstm_report.specs.Lawful.{IsBefore}
use Rattle.dstm_report.proofs.OneRowMore.{last_row-get}
use Rattle.dstm_report.proofs.replay.is_behind.Goals as goal

pub returns-in-Some : goal.returns-in-Some
returns-in-Some c =
    let row = c.args.row.now in
    subst (λ (o : Option Row). IsTrue c.is_before.result ↔ IfSome o (λ previous. IsBefore previous row))
    (c.in-Some.ensures.value ∙ sym (last_row-get c.args.before.now)) c.is_before.ensures
