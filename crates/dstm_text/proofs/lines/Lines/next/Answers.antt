use Rattle.std.proofs.Common.{sym, ◌∙◌, refl, ◌<◌, length, arith}
use Rattle.std.proofs.lemmas.Bool.{eqb-false}
use Rattle.dstm_text.proofs.LineLaws.{lines_cut}
use Rattle.dstm_text.proofs.lines.Lines.next.Goals as goal

pub returns-clause-some : goal.returns-clause-some
returns-clause-some c =
    let bytes = c.self.inside.rest.now in
    let some : 0 < length bytes = omega (arith, eqb-false (length bytes) 0 (sym c.if-is_empty.ensures)) in
    let cut = c.first_piece in
    sym c.self.view_is
    ∙ lines_cut bytes cut.result.0.now cut.result.1 _ c.unwrap_or-self-inside.result
    c.unwrap_or-self-inside.ensures some refl cut.ensures.pieces cut.ensures.whole
