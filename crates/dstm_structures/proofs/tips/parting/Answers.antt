use Rattle.std.proofs.Common.{bit_xor}
use Rattle.std.specs.Int.Count.{count_leading_zeros}
use Rattle.dstm_structures.proofs.Powers.{Parts, parts}
use Rattle.dstm_structures.proofs.tips.parting.Goals as goal

parted_at : (c : goal.Start) → Parts c.args.one c.args.other (count_leading_zeros 64 (bit_xor c.args.one c.args.other))
parted_at c = parts c.args.one c.args.other c.requires c.ranges.one.fits c.ranges.other.fits

pub overflow_sub-result : goal.overflow_sub-result
overflow_sub-result c = (parted_at c).few

pub returns-clause-differ : goal.returns-clause-differ
returns-clause-differ c = (parted_at c).differ

pub returns-clause-same : goal.returns-clause-same
returns-clause-same c = (parted_at c).same
