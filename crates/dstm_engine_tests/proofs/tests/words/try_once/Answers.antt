use Rattle.std.proofs.Common.{◌≡◌, ◌*◌, Some, sym, ap, ◌∙◌, subst, arith}
use Rattle.dstm_core.specs.Events.{Event}
use Rattle.dstm_core.specs.declared.event.Kind.TheVariants.{Begin, LookObj, Quit}
use Rattle.dstm_core.specs.Rules.{AllowedAs, after}
use Rattle.dstm_core.specs.State.{LocalState, first}
use Rattle.dstm_machines.specs.Traces.Access.{Load, Store, Exchange}
use Rattle.dstm_core.proofs.Columns.{in_table}
use Rattle.dstm_words.specs.Seats.{caller_state, made}
use Rattle.dstm_words.proofs.Seats.{state_after}
use Rattle.dstm_engine_tests.proofs.tests.words.try_once.Goals as goal

pub exchange-status-requires-clause-allowed : goal.exchange-status-requires-clause-allowed
exchange-status-requires-clause-allowed g c found below =
    let terms = c.args.words.now.terms in
    let active = c.code-active.result in
    let place = c.status-status.result in
    let v = c.args.seat.now.me.0 in
    let begun = c.store.new.seat.me.0 in
    let looked = c.load-word.new.seat.me.0 in
    let enrolled : LocalState = record first { number = Some c.args.number } in
    let begin : Event = made v (Store active) Begin place c.store.ensures.event.0 in
    let look : Event = made begun Load LookObj c.object.result c.load-word.result in
    let running : caller_state terms begun ≡ after Begin terms.shape enrolled begin =
    state_after g.L.Law.holds terms v begun (Store active) Begin place _ c.store.ensures.event.1
    ∙ ap (λ l. after Begin terms.shape l begin) c.requires.state in
    let now : caller_state terms looked ≡ after LookObj terms.shape (after Begin terms.shape enrolled begin) look =
    state_after g.L.Law.holds terms begun looked Load LookObj c.object.result _ c.load-word.ensures.event
    ∙ ap (λ l. after LookObj terms.shape l look) running in
    let quit : Event = made looked (Exchange active c.code-aborted.result) Quit place found in
    let objects : terms.shape.objects ≡ c.args.shape.now.objects = ap (λ s. s.objects) c.requires.shape.0 in
    let callers : terms.shape.callers ≡ c.args.shape.now.callers = ap (λ s. s.callers) c.requires.shape.0 in
    let attempts : terms.shape.attempts ≡ c.args.shape.now.attempts = ap (λ s. s.attempts) c.requires.shape.0 in
    let own : c.args.number * terms.shape.attempts ≡ c.args.number * c.args.shape.now.attempts =
    ap (λ n. c.args.number * n) attempts in
    let status = c.status-status.ensures in
    let valid = c.requires.shape.1.some_attempt in
    let few =
    in_table c.args.number terms.shape.attempts 0 terms.shape.callers
    (let l = c.requires.number in omega arith)
    (omega arith) in
    let is = c.code-active.ensures in
    let end = c.code-aborted.ensures in
    subst (λ l. AllowedAs Quit terms.shape l quit) (sym now)
    (omega arith, (is, cc), (λ h. cc), omega arith)
