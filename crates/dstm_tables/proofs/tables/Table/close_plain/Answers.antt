use Rattle.std.proofs.Common.{◌∙◌, List, ap, length}
use Rattle.dstm_model.specs.declared.value.Val.{Val}
use Rattle.dstm_model.proofs.Entries.{states_keep_length}
use Rattle.dstm_tl2.specs.Histories.{history_of}
use Rattle.dstm_tl2.specs.Sharing.{table_of}
use Rattle.dstm_tables.proofs.tables.Table.close_plain.Goals as goal

pub returns-in_ok-close-in-Tl2-founder-2-clause-size : goal.returns-in_ok-close-in-Tl2-founder-2-clause-size
returns-in_ok-close-in-Tl2-founder-2-clause-size g c =
    let stm = c.in-Tl2.stm in
    rw c.in-Tl2.is (ap (λ (values : List Val). length values) c.in_ok-close-in-Tl2-founder-2.ensures.values
    ∙ states_keep_length stm.terms.start.value.items (history_of (table_of stm.terms) c.in-Tl2-founder-2.founder.view.log))
