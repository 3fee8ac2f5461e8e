use Rattle.std.proofs.Common.{◌≡◌, ◌-◌, ◌≤◌, length}
use Rattle.dstm_report.specs.Parser.{further_replies, replies_of}
use Rattle.dstm_report.proofs.Onto.{onto}
use Rattle.dstm_report.proofs.reading.fill_replies.Given as goal

-- the replies so far and those of the words left
abbrev pub invariant-loop-mark : goal.invariant-loop-mark
invariant-loop-mark l = record {
  read : onto l.replies (further_replies l.version (8 - length l.replies) l.words) ≡ replies_of l.version l.fn.words;
  few : length l.replies ≤ 8;
}

abbrev pub decreases-loop-mark : goal.decreases-loop-mark
decreases-loop-mark l = length l.words
