use Rattle.std.proofs.Common.{◌≡◌, take}
use Rattle.dstm_report.proofs.packed.row_of.Given as goal

abbrev pub invariant-loop-reply : goal.invariant-loop-reply
invariant-loop-reply l = l.all ≡ take l.reply-index l.replies
