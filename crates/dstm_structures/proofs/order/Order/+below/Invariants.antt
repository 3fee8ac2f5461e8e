use Rattle.dstm_structures.proofs.order.Order.+below.Given as goal

abbrev pub decreases-below : goal.decreases-below
decreases-below g l = l.under
