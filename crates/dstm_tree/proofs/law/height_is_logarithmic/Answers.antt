use Rattle.std.proofs.Common.{◌≤◌, ◌*◌, ◌+◌, Bool, cond, subst, arith}
use Rattle.dstm_tree.specs.Tree.{height, black_height}
use Rattle.dstm_tree.proofs.Heights.{low, many}
use Rattle.dstm_tree.proofs.law.height_is_logarithmic.Goals as goal

pub returns-clause-low : goal.returns-clause-low
returns-clause-low c limit tree h =
    omega (
      arith,
      subst (λ (red : Bool). height tree ≤ 2 * black_height tree + cond red 1 0) h.black (low tree h.balanced),
    )

pub returns-clause-many : goal.returns-clause-many
returns-clause-many c limit tree h = many tree h.balanced
