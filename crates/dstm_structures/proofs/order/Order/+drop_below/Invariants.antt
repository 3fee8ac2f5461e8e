use Rattle.dstm_structures.proofs.order.Order.+drop_below.Given as goal

abbrev pub decreases-drop_below : goal.decreases-drop_below
decreases-drop_below g l = l.under
