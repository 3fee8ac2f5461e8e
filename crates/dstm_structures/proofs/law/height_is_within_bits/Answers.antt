use Rattle.dstm_structures.proofs.Heights.{below_bits, below_levels}
use Rattle.dstm_structures.proofs.law.height_is_within_bits.Goals as goal

pub returns-clause-most : goal.returns-clause-most
returns-clause-most c first n values t by = below_levels 64 0 t by.split

pub returns-clause-few : goal.returns-clause-few
returns-clause-few c first n b values t by small =
    below_bits 64 0 b t by.split (λ at key has. small at key (by.there at key has))
