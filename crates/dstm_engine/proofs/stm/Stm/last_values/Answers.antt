use Rattle.std.proofs.Common.{[], Vec, ap, append-nil, subst, sym}
use Rattle.dstm_core.specs.Histories.{history_of}
use Rattle.dstm_words.specs.Seats.{Home}
use Rattle.dstm_opacity.proofs.Opacity.{prefix_is_lawful}
use Rattle.dstm_engine.proofs.LastValues.{last_values}
use Rattle.dstm_engine.proofs.stm.Stm.last_values.Goals as goal

pub returns : goal.returns
returns g c =
    let h = c.args.self in
    let start = h.terms.start.value.items in
    let history = history_of h.terms.shape start c.args.seat.me.0.log in
    let v = c.self.invariant in
    let last = last_values c.close_in_place-left.ensures c.requires.whole.0 c.requires.whole.1 v.0
    (ap (λ (x : Vec _ _). x.items) v.1) c.settle-values.result.items c.settle-values.ensures.objects
    c.settle-values.ensures.values (ap (λ (h : Home _). h.terms) c.self.view_is) in
    record {
      values = last.0;
      current = last.1;
      lawful = subst (g.L.Law.holds h.terms.law.value) (sym last.0)
          (prefix_is_lawful h.terms.shape start (g.L.Law.holds h.terms.law.value) c.args.seat.me.0.log history []
          last.2.run (sym (append-nil history)) last.2.lawful);
      run = last.2;
    }
