use Rattle.std.proofs.Common.{◌≡◌, drop, max}
use Rattle.dstm_crew.specs.Shares.{most_places}
use Rattle.dstm_crew.proofs.sizing.most_places.Given as goal

abbrev pub invariant-loop-share : goal.invariant-loop-share
invariant-loop-share l = max l.most (most_places (drop l.share-index l.shares)) ≡ most_places l.shares
