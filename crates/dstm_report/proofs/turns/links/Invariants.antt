use Rattle.dstm_report.specs.Turns.{AreLinked}
use Rattle.dstm_report.proofs.turns.links.Given as goal

abbrev pub invariant-loop-place : goal.invariant-loop-place
invariant-loop-place l = AreLinked l.jobs l.workers l.place l.first.items l.following.items
