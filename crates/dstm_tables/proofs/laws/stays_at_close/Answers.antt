use Rattle.dstm_tables.proofs.Closing.{stays_in}
use Rattle.dstm_tables.proofs.laws.stays_at_close.Goals as goal

pub returns : goal.returns
returns g c = λ before after n run inside past own. stays_in g.L.Law.holds before after n run inside past own
