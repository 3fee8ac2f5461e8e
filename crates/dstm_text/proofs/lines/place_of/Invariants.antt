use Rattle.std.proofs.Common.{◌<◌, ℕ}
use Rattle.memchr.specs.Find.{Passes, is_byte}
use Rattle.dstm_text.proofs.lines.place_of.Given as goal

abbrev pub invariant-loop-at : goal.invariant-loop-at
invariant-loop-at l = (k : ℕ) → k < l.at → ¬ Passes (is_byte l.byte) l.bytes k
