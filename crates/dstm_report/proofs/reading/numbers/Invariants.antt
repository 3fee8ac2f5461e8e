use Rattle.std.proofs.Common.{◌≡◌, length}
use Rattle.dstm_report.specs.Parser.{numbers_of}
use Rattle.dstm_report.proofs.Onto.{onto}
use Rattle.dstm_report.proofs.reading.numbers.Given as goal

-- the numbers so far and those of the words left
abbrev pub invariant-loop-word : goal.invariant-loop-word
invariant-loop-word l = onto l.numbers.items (numbers_of l.words) ≡ numbers_of l.fn.words

abbrev pub decreases-loop-word : goal.decreases-loop-word
decreases-loop-word l = length l.words
