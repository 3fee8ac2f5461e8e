use Rattle.dstm_structures.proofs.order.Order.+edge.Given as goal

abbrev pub decreases-edge : goal.decreases-edge
decreases-edge g l = l.under
