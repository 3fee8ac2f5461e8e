use Rattle.std.proofs.Common.{◌≡◌, ◌∙◌, Some, ap, sym, subst, ◌<◌}
use Rattle.dstm_tl2_engine.proofs.Base.{Add, CallersWord, Enrol, Home, Makes, View, first, given_part, local, place, table_of}
use Rattle.dstm_tl2_engine.specs.Tables.{TlFounding}
use Rattle.dstm_tl2_engine.proofs.Enrolling.{caller_is, enrols, founder_is}
use Rattle.dstm_tl2_engine.proofs.stm.TlFounder.caller.Goals as goal

pub returns-clause-caller : goal.returns-clause-caller
returns-clause-caller g c =
    let f = c.args.self.now in
    let seat = c.enrol-number.new.seat in
    let found = c.enrol-number.result in
    let at = c.requires.table in
    let words = c.stm.view_is in
    let split = c.split-seat.ensures.given ∙ ap (λ (x : TlFounding _). given_part x.view) c.self.view_is in
    let table = table_of c.args.stm.now.terms in
    let few : found < f.home.terms.callers =
    subst (λ (x : Home _). found < x.terms.callers) (sym at) c.enrol-number.ensures.number in
    enrols f (subst (λ (x : TlFounding _). x.view.terms ≡ Some x.home.terms) c.self.view_is c.self.invariant.0)
    (subst (λ (v : View _). Makes g.L.Law.holds v Add Enrol (place table CallersWord) found seat.me.0)
    split c.enrol-number.ensures.enrols) few (caller_is f found seat c.enrolled.ensures at c.enrol-number.ensures.seat.0
    c.terms.ensures) (founder_is _ c.self.inside.terms c.self.inside.seat.me.0 c.self.inside.made c.self.view_is at
    (c.split-seat.ensures.seat.0 ∙ ap (λ (x : Home _). x.table) words) c.split-seat.ensures.kept)
    (subst (λ (x : Home _). local (table_of x.terms) seat.me.0.log found ≡ record first { number = Some found })
    (sym at) c.enrol-number.ensures.state)
