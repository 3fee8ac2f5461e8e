use Rattle.std.proofs.Common.{◌≡◌, Some, ap, sym, ◌∙◌}
use Rattle.dstm_tl2_engine.proofs.Base.{Add, Enrol, LocalState, View, number_or, table_of, tl2}
use Rattle.dstm_seats.specs.Seats.{state_by}
use Rattle.dstm_tl2_words.proofs.Seats.{state_after}
use Rattle.dstm_tl2_engine.proofs.stm.TlStm.enrol.Goals as goal

pub returns-clause-state : goal.returns-clause-state
returns-clause-state g c =
    let v = c.args.seat.now.me.0 in
    let w = c.add.new.seat.me.0 in
    let named : w.number ≡ Some c.add.result = ap (λ (x : View _). x.number) c.add.ensures.event.view
    ∙ ap (λ o. Some (number_or o c.add.result)) c.requires.new.0 in
    ap (λ o. state_by tl2 (table_of c.args.self.now.terms) o w.log) (sym named)
    ∙ state_after g.L.Law.holds c.args.self.now.terms v w Add Enrol _ c.add.result c.add.ensures.event
    ∙ ap (λ (l : LocalState). record l { number = Some c.add.result })
    (ap (λ o. state_by tl2 (table_of c.args.self.now.terms) o v.log) c.requires.new.0)
