use Rattle.std.proofs.Common.{refl}
use Rattle.dstm_cells.proofs.Calling.{where_so}
use Rattle.dstm_cells.proofs.Resting.{untired}
use Rattle.dstm_cells.proofs.thread.Part.atomically.Goals as goal

pub returns-clause-why : goal.returns-clause-why
returns-clause-why g c keeps =
    untired g.X.Transaction.caller g.F.FnMut g.X.Rule.Law.holds g.X.Transaction.patience _ _ _ _ (c.make.ensures.why keeps)

pub returns-clause-took : goal.returns-clause-took
returns-clause-took g c keeps = where_so c.make.result _ refl (c.make.ensures.took keeps)

pub make-requires-clause-lawful : goal.make-requires-clause-lawful
make-requires-clause-lawful g c f n old new answer commits = c.requires.lawful f n old new answer
