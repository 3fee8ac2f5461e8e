use Rattle.std.proofs.Common.{refl}
use Rattle.dstm_cells.proofs.Calling.{either_way, where_so}
use Rattle.dstm_cells.proofs.Resting.{untired}
use Rattle.dstm_cells.proofs.thread.Part.view.Goals as goal

pub returns-clause-nothing : goal.returns-clause-nothing
returns-clause-nothing g c keeps =
    either_way c.make.result _ (c.make.ensures.left keeps) (λ answer left. (left refl).nothing) (c.make.ensures.nothing keeps)

pub returns-clause-why : goal.returns-clause-why
returns-clause-why g c keeps =
    untired g.X.Transaction.caller g.F.FnMut g.X.Rule.Law.holds g.X.Transaction.patience _ _ _ _ (c.make.ensures.why keeps)

pub returns-clause-viewed : goal.returns-clause-viewed
returns-clause-viewed g c keeps = where_so c.make.result _ refl (c.make.ensures.left keeps)
