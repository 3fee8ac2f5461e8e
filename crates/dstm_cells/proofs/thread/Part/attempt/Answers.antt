use Rattle.dstm_cells.proofs.Resting.{untired}
use Rattle.dstm_cells.proofs.thread.Part.attempt.Goals as goal

pub returns-clause-why : goal.returns-clause-why
returns-clause-why g c keeps =
    untired g.X.Transaction.caller g.F.FnMut g.X.Rule.Law.holds g.X.Transaction.patience _ _ _ _ (c.make.ensures.why keeps)
