use Rattle.std.proofs.Common.{◌≡◌, List, rules, sym, subst}
use Rattle.dstm_model.specs.declared.value.Val.{Val}
use Rattle.dstm_model.specs.Store.{opening_store}
use Rattle.dstm_store.specs.Whole.{StandsFor}
use Rattle.dstm_store.specs.Opening.{opening_values}
use Rattle.dstm_store.proofs.OpeningValues.{stands-opening}
use Rattle.dstm_store.proofs.opened.opening.Goals as goal

pub returns-clause-stands : goal.returns-clause-stands
returns-clause-stands c =
    let layout = c.args.layout.now in
    let values : c.push_structure-2.new.values.items ≡ opening_values layout = search rules in
    subst (λ (vs : List Val). StandsFor layout vs (opening_store layout)) (sym values) (stands-opening layout)
