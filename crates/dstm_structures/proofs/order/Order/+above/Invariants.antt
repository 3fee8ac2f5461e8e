use Rattle.dstm_structures.proofs.order.Order.+above.Given as goal

abbrev pub decreases-above : goal.decreases-above
decreases-above g l = l.under
