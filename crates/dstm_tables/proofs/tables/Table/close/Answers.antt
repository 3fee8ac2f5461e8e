use Rattle.std.proofs.Common.{◌∙◌, ap, sym}
use Rattle.dstm_engine.specs.Tables.{Recorded}
use Rattle.dstm_tl2_engine.specs.Tables.{TlRecorded}
use Rattle.dstm_tables.specs.declared.tables.Round.TheVariants as round
use Rattle.dstm_tables.specs.Tells.{values_of}
use Rattle.dstm_tables.proofs.GivingOut.{dstm_values, tl2_values}
use Rattle.dstm_tables.proofs.tables.Table.close.Goals as goal

pub returns-in-Ok-clause-values : goal.returns-in-Ok-clause-values
returns-in-Ok-clause-values g c =
    let closed = c.in-Ok.ensures in
    closed.values ∙ dstm_values (record { terms = c.in-Dstm.stm.terms; log = c.in-Dstm-founder.founder.view.log })
    ∙ ap (λ (r : Recorded _). values_of (round.Dstm r)) (sym closed.record)

pub returns-in-Ok-close-clause-values : goal.returns-in-Ok-close-clause-values
returns-in-Ok-close-clause-values g c =
    let closed = c.in-Ok-close.ensures in
    closed.values ∙ tl2_values (record { terms = c.in-Tl2.stm.terms; log = c.in-Tl2-founder-2.founder.view.log })
    ∙ ap (λ (r : TlRecorded _). values_of (round.Tl2 r)) (sym closed.record)
