use Rattle.std.proofs.Common.{None, sym, ap, ◌∙◌, arith}
use Rattle.dstm_workload.specs.Words.{word_of}
use Rattle.dstm_workload.proofs.ReadLaws.{word_from, spelled_is}
use Rattle.dstm_workload.proofs.word.Word.of.Goals as goal

pub returns-in_err-word : goal.returns-in_err-word
returns-in_err-word c =
    let from = word_from c.args.version c.args.field.now None (sym c.in_err-word.ensures) in grind arith

pub returns : goal.returns
returns c =
    c.if_since.ensures
    ∙ ap (word_of c.args.version) (sym (spelled_is c.args.field.now c.in_ok-word.word (sym c.in_ok-word.ensures)))
