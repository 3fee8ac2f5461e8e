use Rattle.dstm_tree.proofs.place.+place_below.Given as goal

abbrev pub decreases-place_below : goal.decreases-place_below
decreases-place_below g l = l.depth
