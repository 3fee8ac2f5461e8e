use Rattle.std.proofs.Common.{List, subst, sym}
use Rattle.dstm_model.specs.declared.layout.Layout.{Layout}
use Rattle.dstm_model.specs.declared.value.Val.{Val}
use Rattle.dstm_store.specs.Whole.{IsLawful}
use Rattle.dstm_crew_tests.proofs.tests.trying.bank_of_table.Goals as goal

pub bank_of-requires-clause-lawful : goal.bank_of-requires-clause-lawful
bank_of-requires-clause-lawful c =
    let layout = c.args.layout.now in
    subst (λ (vs : List Val). IsLawful layout vs) (sym c.deref.ensures.value)
    (subst (λ (l : Layout). IsLawful l c.in_ok-values.values.items) c.requires.law c.in_ok-values.ensures.lawful)
