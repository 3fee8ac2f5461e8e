use Rattle.std.proofs.Common.{refl, subst, sym}
use Rattle.dstm_model.specs.Store.{opening_store}
use Rattle.dstm_store.specs.Whole.{IsLawful}
use Rattle.bench.specs.declared.scale.load.TheConstants.{LAYOUT}
use Rattle.bench.proofs.scale.shot.filled.Goals as goal

pub run_ops-requires-clause-fresh : goal.run_ops-requires-clause-fresh
run_ops-requires-clause-fresh c =
    let made = c.in_ok-mem.ensures in
    record {
      live = made.live;
      admits = (c.in_ok-values.values.items, (made.admits c.in_ok-values.values.items).1 refl);
      unread = made.unread;
      unwritten = made.unwritten;
      unopened = made.unopened;
      untouched = made.untouched;
    }

pub run_ops-requires-clause-lawful : goal.run_ops-requires-clause-lawful
run_ops-requires-clause-lawful c map admitted =
    subst (IsLawful LAYOUT) (sym ((c.in_ok-mem.ensures.admits map).0 admitted))
    (opening_store LAYOUT, c.in_ok-values.ensures.stands)

pub returns : goal.returns
returns c =
    let done = c.in-Ok.ensures in
    let (map, admitted) = done.leads.admits in
    subst (IsLawful LAYOUT) (sym (c.values.ensures map admitted)) (done.lawful map admitted)
