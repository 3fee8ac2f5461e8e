use Rattle.std.proofs.Common.{refl, sym, ◌∙◌, subst}
use Rattle.dstm_store.specs.Whole.{IsLawful}
use Rattle.dstm_store_tests.proofs.tests.store.run_each.Goals as goal

pub read_state-requires-clause-lawful : goal.read_state-requires-clause-lawful
read_state-requires-clause-lawful c =
    let map = c.answer_each-told.new.mem.mem.values.items in
    subst (IsLawful c.args.layout.now) (sym (c.deref.ensures.value ∙ c.end-values.ensures map refl))
    (c.answer_each-told.ensures.lawful map refl)
