-- The link to a fork.
use Rattle.std.proofs.Common.{ℕ}
use Rattle.dstm_structures.specs.declared.order.Link.{Link}
use Rattle.dstm_structures.specs.declared.order.Link.TheVariants.{Fork}

-- a link leads to the fork of this cell
abbrev pub to_fork : ℕ → Link
to_fork at = Fork at
