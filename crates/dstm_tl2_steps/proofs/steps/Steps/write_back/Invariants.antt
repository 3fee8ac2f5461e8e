use Rattle.dstm_tl2_steps.proofs.WritingBack.{Writing}
use Rattle.dstm_tl2_steps.proofs.steps.Steps.write_back.Given as goal

abbrev pub invariant-loop-write : goal.invariant-loop-write
invariant-loop-write g l =
    Writing g.L.Law.holds l.words g.B.InCall.began l.number l.fn.self l.opened.writes l.self l.write-index
