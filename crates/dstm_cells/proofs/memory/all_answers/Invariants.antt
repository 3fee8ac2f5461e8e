use Rattle.std.proofs.Common.{◌≡◌, ◌≤◌, ◌++◌, length}
use Rattle.std.specs.Prelude.{vec_capacity}
use Rattle.std.specs.Vec.Iter.{into_iter_items}
use Rattle.dstm_cells.specs.Runs.{HaveAnswered, ends_of}
use Rattle.dstm_cells.proofs.memory.all_answers.Given as goal

-- those so far have ended well, and what they answered is at hand
abbrev pub invariant-loop-ended : goal.invariant-loop-ended
invariant-loop-ended g l =
    (l.yielded ++ into_iter_items l.ended-iterator ≡ l.fn.ends.items)
    × HaveAnswered (ends_of l.yielded) l.answers.items
    × (length l.answers.items ≡ length l.yielded)
    × (length l.fn.ends.items ≤ vec_capacity l.answers)
