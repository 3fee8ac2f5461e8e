use Rattle.std.proofs.Common.{◌≡◌, ◌+◌, ◌++◌, take}
use Rattle.dstm_report.proofs.packed.append.Given as goal

abbrev pub invariant-loop-reply : goal.invariant-loop-reply
invariant-loop-reply l =
    (l.all.items ≡ l.fn.all.items ++ take l.reply-index l.replies) × (l.all.len ≡ l.fn.all.len + l.reply-index)
    × (l.all.cap ≡ l.fn.all.cap)
