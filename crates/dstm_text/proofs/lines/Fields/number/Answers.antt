use Rattle.std.proofs.Common.{sym, ◌∙◌, take}
use Rattle.dstm_text.proofs.FrontLaws.{fields_behind}
use Rattle.dstm_text.proofs.lines.Fields.number.Goals as goal

pub returns-in-Some-clause-some : goal.returns-in-Some-clause-some
returns-in-Some-clause-some c =
    let line = c.self.inside.rest.now in
    let found = c.in-Some.ensures in (
      take found.0 line,
      (sym c.self.view_is ∙ fields_behind line found.0 _ _ found.1.0 found.1.1, found.1.0.spelled),
    )

pub returns-clause-some : goal.returns-clause-some
returns-clause-some c =
    let line = c.self.inside.rest.now in
    let found = c.in_ok-number.ensures in (
      take found.0 line,
      (sym c.self.view_is ∙ fields_behind line found.0 _ _ found.1.0 found.1.1, found.1.0.spelled),
    )
