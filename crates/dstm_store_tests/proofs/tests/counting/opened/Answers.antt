use Rattle.std.proofs.Common.{List, sym, ◌∙◌, subst}
use Rattle.dstm_model.specs.declared.value.Val.{Val}
use Rattle.dstm_model.specs.Store.{opening_store}
use Rattle.dstm_store.specs.Whole.{StandsFor}
use Rattle.dstm_store_tests.proofs.tests.counting.opened.Goals as goal

pub returns : goal.returns
returns c =
    let layout = c.args.layout.now in
    let made = c.in_ok-mem.ensures in
    let stands = c.in_ok-values.ensures.stands in
    record {
      objects = made.objects ∙ stands.objects;
      live = made.fresh.live;
      lawful = λ map admitted.
          let store = opening_store layout in (
            store,
            subst (λ (v : List Val). StandsFor layout v store)
                (sym (made.fresh.untouched map ∙ made.admits map admitted)) stands,
          );
    }
