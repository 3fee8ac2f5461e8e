use Rattle.std.proofs.Common.{sym, ◌∙◌, refl, ◌<◌, length, arith}
use Rattle.std.proofs.lemmas.Bool.{eqb-false}
use Rattle.dstm_text.proofs.LineLaws.{fields_cut}
use Rattle.dstm_text.proofs.lines.Fields.next.Goals as goal

pub returns-clause-some : goal.returns-clause-some
returns-clause-some c =
    let line = c.behind_spaces-line.result.now in
    let some : 0 < length line = omega (arith, eqb-false (length line) 0 (sym c.if-is_empty.ensures)) in
    let cut = c.first_piece in
    sym c.self.view_is ∙ sym c.behind_spaces-line.ensures.same
    ∙ fields_cut line cut.result.0.now cut.result.1 _ c.unwrap_or-behind.result c.unwrap_or-behind.ensures some refl
    c.behind_spaces-line.ensures.solid cut.ensures.pieces
