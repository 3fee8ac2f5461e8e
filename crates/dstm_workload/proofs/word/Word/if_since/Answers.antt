use Rattle.std.proofs.Common.{◌≡◌, Bool, None, Some, cond, leb, arith}
use Rattle.std.specs.Bool.{then_some}
use Rattle.dstm_workload.specs.{declared.word.Word.Word, Words.since}
use Rattle.dstm_workload.proofs.ReadLaws.{word_by}
use Rattle.dstm_workload.proofs.word.Word.if_since.Goals as goal

chosen : (has : Bool) (word : Word) → then_some has word ≡ cond has (Some word) None
chosen has word = grind arith

pub returns : goal.returns
returns c =
    let word = c.args.self in
    rw (c.then_some.ensures, c.since.ensures, word_by c.args.version word) (chosen (leb (since word) c.args.version) word)
