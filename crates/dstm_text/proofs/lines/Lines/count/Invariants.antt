use Rattle.std.proofs.Common.{◌≡◌, ◌+◌, length}
use Rattle.dstm_text.proofs.lines.Lines.count.Given as goal

abbrev pub invariant-loop-self : goal.invariant-loop-self
invariant-loop-self l = l.count + length l.self ≡ length l.fn.self

abbrev pub decreases-loop-self : goal.decreases-loop-self
decreases-loop-self l = length l.self
