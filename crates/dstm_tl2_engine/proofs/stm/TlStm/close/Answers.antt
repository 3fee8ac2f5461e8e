use Rattle.std.proofs.Common.{◌+◌, ◌≤◌, ◌∙◌, ◌≡◌, Vec, ap, sym, true}
use Rattle.std.specs.Prelude.{length}
use Rattle.dstm_tl2_words.specs.Seats.{Home, LeftBy}
use Rattle.dstm_tl2_engine.specs.Tables.{HasReturned, TlFounding}
use Rattle.dstm_tl2_engine.proofs.LastValues.{last_lawful, last_state, told_by}
use Rattle.dstm_tl2_engine.proofs.stm.TlStm.close.Given.{Over}
use Rattle.dstm_tl2_engine.proofs.stm.TlStm.close.Goals.{After-close_in_place-left}
use Rattle.dstm_tl2_engine.proofs.stm.TlStm.close.Goals as goal

-- the words that were left are those that the founder's seat tells of
left : (g : Over) (c : After-close_in_place-left g) →
    LeftBy g.L.Law.holds c.args.self.terms c.args.founder.view c.close_in_place-left.result
left g c = rw (← c.self.view_is, ← c.founder.view_is) c.close_in_place-left.ensures

first : (g : Over) (c : After-close_in_place-left g) → c.args.founder.view.first ≡ true
first g c = ap (λ (x : TlFounding _). x.view.first) (sym c.founder.view_is) ∙ c.founder.invariant.2

pub returns-clause-values : goal.returns-clause-values
returns-clause-values g c =
    let before = (goal.at.returns-clause-values g c).After-close_in_place-left in
    let h = c.args.self in
    let f = c.args.founder in
    let words = c.close_in_place-left.result in
    let values = c.settle-values.result.items in
    let back : HasReturned h.terms f.made f.view =
    rw (← c.requires.founder, ← c.founder.view_is) c.founder.invariant.6 in
    let all : h.terms.callers ≤ f.made + f.view.enrolments =
    rw (← c.requires.founder, ← c.founder.view_is) c.founder.invariant.5 in
    let start : c.self.inside.start.items ≡ h.terms.start.value.items =
    ap (λ (x : Vec _ _). x.items) (sym c.self.invariant.0)
    ∙ ap (λ (x : Home _). x.terms.start.value.items) c.self.view_is in
    last_state (left g before) back all (first g before) c.requires.out values
    (c.settle-values.ensures.objects ∙ ap length start) (told_by values words start c.settle-values.ensures.values)

pub returns-clause-lawful : goal.returns-clause-lawful
returns-clause-lawful g c =
    let before = (goal.at.returns-clause-lawful g c).After-close_in_place-left in
    last_lawful (left g before) (first g before) c.requires.out (returns-clause-values g c)
