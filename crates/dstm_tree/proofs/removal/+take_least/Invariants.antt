use Rattle.dstm_tree.proofs.removal.+take_least.Given as goal

abbrev pub decreases-take_least : goal.decreases-take_least
decreases-take_least g l = l.depth
