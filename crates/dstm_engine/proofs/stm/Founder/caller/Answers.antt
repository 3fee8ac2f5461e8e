use Rattle.std.proofs.Common.{◌≡◌, ◌∙◌, Some, ap, sym, subst, ◌<◌}
use Rattle.dstm_engine.proofs.Base.{Add, CallersWord, DeciderState, Enrol, Home, Makes, View, given_part, place}
use Rattle.dstm_engine.specs.Enrolled.{enrolled_as}
use Rattle.dstm_engine.specs.Tables.{Founding}
use Rattle.dstm_engine.proofs.Enrolling.{enrols, founder_is, caller_is}
use Rattle.dstm_engine.proofs.stm.Founder.caller.Goals as goal

pub returns-clause-caller : goal.returns-clause-caller
returns-clause-caller g c =
    let f = c.args.self.now in
    let h = c.args.stm.now in
    let seat = c.enrol-number.new.seat in
    let found = c.enrol-number.result in
    let at : f.home ≡ h = c.requires.table in
    let words = c.stm.view_is in
    let shape = c.stm.invariant.0 in
    let split = c.split-seat.ensures.given ∙ ap (λ (x : Founding _). given_part x.view) c.self.view_is in
    let manager : c.stm.inside.shape.manager ≡ h.terms.shape.manager =
    ap (λ s. s.manager) (sym shape) ∙ ap (λ (x : Home _). x.terms.shape.manager) words in
    let few : found < f.home.terms.shape.callers =
    subst (λ (x : Home _). found < x.terms.shape.callers) (sym at) c.enrol-number.ensures.number in
    enrols f c.args.seed
    (subst (λ (x : Founding _). x.view.terms ≡ Some x.home.terms) c.self.view_is c.self.invariant.0)
    (subst (λ (v : View _). Makes g.L.Law.holds v Add Enrol (place h.terms.shape CallersWord) found seat.me.0)
    split c.enrol-number.ensures.enrols) few (caller_is f c.args.seed found seat
    (c.enrolled.ensures ∙ ap (λ (d : DeciderState). enrolled_as c.terms.result seat found d) c.make-decider.ensures)
    at c.enrol-number.ensures.seat.0 c.terms.ensures manager)
    (founder_is _ c.self.inside.terms c.self.inside.seat.me.0 c.self.inside.made c.self.inside.guests c.self.view_is at
    (c.split-seat.ensures.seat.0 ∙ ap (λ (x : Home _). x.table) words) c.split-seat.ensures.kept)
