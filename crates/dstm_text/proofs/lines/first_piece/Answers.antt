use Rattle.std.proofs.Common.{ap, subst, ◌∙◌, sym, ◌∷◌, ◌+◌, take, List, ℕ}
use Rattle.std.proofs.lemmas.List.{take_rest}
use Rattle.memchr.specs.Find.{IsFirstByte, is_byte}
use Rattle.dstm_text.specs.Lines.{pieces}
use Rattle.dstm_text.proofs.LineLaws.{pieces_at, pieces_none}
use Rattle.dstm_text.proofs.lines.first_piece.Goals as goal

pub returns-in-Some-clause-pieces : goal.returns-in-Some-clause-pieces
returns-in-Some-clause-pieces c =
    let bytes = c.args.bytes.now in
    let at = c.in-Some.at in
    let found = subst (IsFirstByte (is_byte c.args.separator) bytes) c.in-Some.is c.requires in
    pieces_at c.args.separator bytes at found.0 found.1
    ∙ ap (λ (rest : List ℕ). take at bytes ∷ pieces c.args.separator rest) (sym (take_rest bytes (at + 1)))

pub returns-in-None-clause-pieces : goal.returns-in-None-clause-pieces
returns-in-None-clause-pieces c = pieces_none c.args.separator c.args.bytes.now (subst (IsFirstByte (is_byte c.args.separator) c.args.bytes.now) c.in-None.is c.requires)
