use Rattle.std.proofs.Common.{◌∙◌, ◌≡◌, ap, arith, sym}
use Rattle.dstm_engine.proofs.Base.{Beginning, Steps, is_spent}
use Rattle.dstm_core.proofs.Static.{static}
use Rattle.dstm_engine.proofs.AtCall.{AtCall, at_call}
use Rattle.dstm_engine.proofs.Begins.{begins, begun_caller, spends, spent_caller}
use Rattle.dstm_engine.proofs.Starting.{next_small}
use Rattle.dstm_engine.proofs.Tying.{spent_there, starts_there}
use Rattle.dstm_engine.specs.Callers.{state}
use Rattle.dstm_engine.specs.Mirror.{called}
use Rattle.dstm_engine.proofs.caller.Caller.begin_one.Given.{Over}
use Rattle.dstm_engine.proofs.caller.Caller.begin_one.Goals.{After-words}
use Rattle.dstm_engine.proofs.caller.Caller.begin_one.Goals as goal

pub is_spent-spent-requires : goal.is_spent-spent-requires
is_spent-spent-requires g c =
    let v = c.self.invariant in
    let st = static c.self.inside.terms.shape c.self.inside.steps.seat.me.0.log v.run.run.core c.self.inside.number in
    let few = st.installed in
    let installed = v.mirror.installed in
    let new = ap (λ (s : Steps _). s.installed) c.renew.ensures in
    omega arith

pub overflow_add-next : goal.overflow_add-next
overflow_add-next g c =
    let v = c.self.invariant in
    let st = static c.self.inside.terms.shape c.self.inside.steps.seat.me.0.log v.run.run.core c.self.inside.number in
    let few = st.begun in
    let begun = v.begun in
    let small = next_small c.self.inside.number c.self.inside.begun v.run.valid v.number.0 (omega arith) in
    omega arith

begun : (g : Over) (c : After-words g) →
    AtCall g.L.Law.holds c.self.inside c.args.self.now c.words.result.now c.renew.new.steps
begun g c = at_call c.self.invariant c.self.view_is c.requires.table c.words.ensures c.renew.ensures

told : (g : Over) (c : After-words g) →
    is_spent c.self.inside.terms.shape (state (called c.self.inside)) ≡ c.is_spent-spent.result
told g c =
    spent_there c.self.invariant (begun g c).home c.renew.ensures
    ∙ sym c.is_spent-spent.ensures

pub begin_next-requires-clause-under : goal.begin_next-requires-clause-under
begin_next-requires-clause-under g c =
    starts_there c.self.invariant (begun g c).home c.renew.ensures (Beginning c.self.inside.fresh)

pub invariant_of-self : goal.invariant_of-self
invariant_of-self g c =
    let before = (goal.at.invariant_of-self g c).After-words in
    spent_caller (begun g before) c.begin_next.ensures.under c.is_spent-spent.result
    (told g before) c.if-spent.true c.begin_next.ensures.spent c.begin_next.ensures.idle

pub returns-then-spent-clause-spent : goal.returns-then-spent-clause-spent
returns-then-spent-clause-spent g c =
    let before = (goal.at.returns-then-spent-clause-spent g c).After-words in
    spends (begun g before) c.begin_next.ensures.under c.is_spent-spent.result (told g before)
    c.if-spent.true c.begin_next.ensures.spent c.begin_next.ensures.idle

pub invariant_of-self-2 : goal.invariant_of-self-2
invariant_of-self-2 g c =
    let before = (goal.at.invariant_of-self-2 g c).After-words in
    begun_caller (begun g before) c.begin_next.ensures.under c.is_spent-spent.result
    (told g before) c.if-spent.false c.begin_next.ensures.begun c.of-began.result c.of-began.ensures c.clear.ensures

pub returns-clause-begins : goal.returns-clause-begins
returns-clause-begins g c =
    let before = (goal.at.returns-clause-begins g c).After-words in
    begins (begun g before) c.begin_next.ensures.under c.is_spent-spent.result (told g before)
    c.if-spent.false c.begin_next.ensures.begun c.of-began.result c.of-began.ensures c.clear.ensures
