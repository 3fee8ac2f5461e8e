use Rattle.std.proofs.Common.{◌≡◌, length}
use Rattle.dstm_report.specs.Parser.{items_of}
use Rattle.dstm_report.proofs.Onto.{onto}
use Rattle.dstm_report.proofs.reading.items.Given as goal

-- the items so far and those of the words left
abbrev pub invariant-loop-word : goal.invariant-loop-word
invariant-loop-word l = onto l.items.items (items_of l.version l.words) ≡ items_of l.version l.fn.words

abbrev pub decreases-loop-word : goal.decreases-loop-word
decreases-loop-word l = length l.words
