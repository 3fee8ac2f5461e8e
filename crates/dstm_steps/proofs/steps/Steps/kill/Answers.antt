use Rattle.std.proofs.Common.{◌+◌, refl, ap, sym, ◌∙◌, eq-eqb, ne_eqb}
use Rattle.dstm_core.specs.declared.event.Kind.TheVariants.{Kill}
use Rattle.dstm_machines.specs.Traces.Access.{Exchange}
use Rattle.dstm_words.specs.Seats.{found_in}
use Rattle.dstm_steps.specs.Under.{After, made_by}
use Rattle.dstm_steps.proofs.Ranged.{owner_live}
use Rattle.dstm_steps.proofs.Stepping.{after_rest, went_on, went_lost}
use Rattle.dstm_steps.proofs.steps.Steps.kill.Given.{Over}
use Rattle.dstm_steps.proofs.steps.Steps.kill.Goals.{In-Err}
use Rattle.dstm_steps.proofs.steps.Steps.kill.Goals as goal

pub status-place-requires-clause-below : goal.status-place-requires-clause-below
status-place-requires-clause-below g c =
    owner_live c.requires.under c.requires.running c.requires.owner c.requires.status

pub returns-in-Ok-clause-goes_on : goal.returns-in-Ok-clause-goes_on
returns-in-Ok-clause-goes_on g c tries =
    let rest = c.exchange.ensures.rest in
    let m = c.requires.under.mirror in
    let state = c.exchange.ensures.went.state in
    went_on c.exchange.ensures.went refl
    (after_rest rest refl (record { own = m.own; installed = m.installed; rank = m.rank })
    (rw (eq-eqb _ _ (ap found_in c.in-Ok.is ∙ c.in-Ok.ensures.answer), rest) refl))
    (rw (state, c.requires.running.phase) refl) (rw (state, c.requires.running.agreed) refl) tries

-- an exchange that failed is counted
failed : (g : Over) (c : In-Err g) →
    After c.args.words.now c.args.self.now (record c.exchange.new.self { missed = c.exchange.new.self.missed + 1 })
    (made_by g.B.InCall.began (Exchange c.code.result c.code-2.result) Kill c.status-place.result
    (found_in c.exchange.result))
failed g c =
    let rest = c.exchange.ensures.rest in
    let m = c.requires.under.mirror in
    after_rest rest refl (record { own = m.own; installed = m.installed; rank = m.rank }) (rw (
      ne_eqb (found_in c.exchange.result) c.code.result
          (λ q. c.in-Err.ensures.answer (sym (ap found_in c.in-Err.is) ∙ q)),
      rest,
    ) refl)

pub returns-in-Err-clause-goes_on : goal.returns-in-Err-clause-goes_on
returns-in-Err-clause-goes_on g c tries =
    let state = c.exchange.ensures.went.state in
    went_on c.exchange.ensures.went refl (failed g (goal.at.returns-in-Err-clause-goes_on g c).In-Err)
    (rw (state, c.requires.running.phase) refl) (rw (state, c.requires.running.agreed) refl) tries

pub returns-in-Err-clause-lost : goal.returns-in-Err-clause-lost
returns-in-Err-clause-lost g c lost =
    went_lost c.exchange.ensures.went refl (failed g (goal.at.returns-in-Err-clause-lost g c).In-Err)
    (rw (c.exchange.ensures.went.state, c.requires.running.phase) refl) lost
