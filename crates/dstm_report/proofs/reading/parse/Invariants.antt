use Rattle.std.proofs.Common.{◌≡◌, ◌+◌, ◌≤◌, length}
use Rattle.dstm_text.specs.Lines.{lines_of}
use Rattle.dstm_report.specs.Parser.{completed, parsed}
use Rattle.dstm_report.proofs.reading.parse.Given as goal

-- the lines left complete the draft to what the whole text stands for
abbrev pub invariant-loop-text : goal.invariant-loop-text
invariant-loop-text l = record {
  read : completed l.lines l.line l.draft ≡ parsed l.version (lines_of l.bytes);
  count : l.line + length l.lines ≤ length l.bytes + 2;
}

abbrev pub decreases-loop-text : goal.decreases-loop-text
decreases-loop-text l = length l.lines
