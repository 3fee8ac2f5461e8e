use Rattle.dstm_store.proofs.Parts.{leaves-lawful}
use Rattle.dstm_store.proofs.run.run_op.Goals as goal

pub returns-clause-lawful : goal.returns-clause-lawful
returns-clause-lawful g c =
    leaves-lawful g.M.Mem c.args.layout.now c.args.op.now c.run_with.result c.requires.ready c.run_with.ensures.applies
