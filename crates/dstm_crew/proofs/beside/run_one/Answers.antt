use Rattle.dstm_crew.proofs.Ended.{has_ended}
use Rattle.dstm_crew.proofs.beside.run_one.Goals as goal

pub returns-clause-ended : goal.returns-clause-ended
returns-clause-ended g c =
    has_ended c.args.play.now.workload.now c.args.play.now.options.now
    c.requires.ready c.requires.come c.run.ensures.run c.run.ensures.keeps
