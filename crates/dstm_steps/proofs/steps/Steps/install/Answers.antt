use Rattle.std.proofs.Common.{◌≡◌, ◌+◌, ◌==◌, ◌∙◌, refl, ap, sym, true, false, eq-eqb, ne_eqb}
use Rattle.dstm_core.specs.declared.event.Kind.TheVariants.{Install}
use Rattle.dstm_machines.specs.Traces.Access.{Exchange}
use Rattle.dstm_words.specs.Seats.{found_in}
use Rattle.dstm_steps.specs.declared.steps.Steps.{Steps}
use Rattle.dstm_steps.specs.Under.{After, made_by}
use Rattle.dstm_steps.proofs.Stepping.{after_rest, went_on, went_lost, past_went}
use Rattle.dstm_steps.proofs.steps.Steps.install.Given.{Over}
use Rattle.dstm_steps.proofs.steps.Steps.install.Goals.{In-Err}
use Rattle.dstm_steps.proofs.steps.Steps.install.Goals as goal

pub returns-in-Ok-clause-under : goal.returns-in-Ok-clause-under
returns-in-Ok-clause-under g c good =
    let rest = c.exchange.ensures.rest in
    let m = c.requires.under.mirror in
    let state = c.exchange.ensures.went.state in
    let new : Steps g.row.L.Denot = record c.exchange.new.self { installed = c.exchange.new.self.installed + 1 } in
    let same : found_in c.exchange.result ≡ c.args.word = ap found_in c.in-Ok.is ∙ c.in-Ok.ensures.answer in
    let found : (found_in c.exchange.result == c.args.word) ≡ true = eq-eqb _ _ same in
    rw found at (went_on {steps = new} c.exchange.ensures.went refl (record {
      shape = ap (λ (s : Steps g.row.L.Denot). s.shape) rest;
      manager = ap (λ (s : Steps g.row.L.Denot). s.decider.manager) rest;
      mirror = rw found
          (record { own = rw rest m.own; installed = rw rest (ap (λ n. n + 1) m.installed); rank = rw rest m.rank });
      effort = rw (found, rest) refl;
    }) (rw (state, found, c.requires.running.phase) refl) (rw (state, found) c.requires.running.agreed)
    (rw rest c.requires.tries))

-- the word was not the one that was expected
differs : (g : Over) (c : In-Err g) → (found_in c.exchange.result == c.args.word) ≡ false
differs g c =
    ne_eqb (found_in c.exchange.result) c.args.word (λ q. c.in-Err.ensures.answer (sym (ap found_in c.in-Err.is) ∙ q))

-- an exchange that failed is counted
failed : (g : Over) (c : In-Err g) →
    After c.args.words.now c.args.self.now (record c.exchange.new.self { missed = c.exchange.new.self.missed + 1 })
    (made_by g.B.InCall.began (Exchange c.args.word (c.from-next.result + 1)) Install c.object-place.result
    (found_in c.exchange.result))
failed g c =
    let rest = c.exchange.ensures.rest in
    let m = c.requires.under.mirror in
    after_rest rest refl (rw (differs g c) (record { own = m.own; installed = m.installed; rank = m.rank }))
    (rw (differs g c, rest) refl)

pub returns-in-Err-clause-retry : goal.returns-in-Err-clause-retry
returns-in-Err-clause-retry g c wrong tries =
    let before = (goal.at.returns-in-Err-clause-retry g c).In-Err in
    let state = c.exchange.ensures.went.state in
    let found = differs g before in
    rw found at (went_on c.exchange.ensures.went refl (failed g before)
    (rw (state, found, c.requires.running.phase) refl) (rw (state, found) c.requires.running.agreed) tries)

pub returns-in-Err-clause-lost : goal.returns-in-Err-clause-lost
returns-in-Err-clause-lost g c wrong lost =
    let before = (goal.at.returns-in-Err-clause-lost g c).In-Err in
    went_lost c.exchange.ensures.went refl (failed g before)
    (rw (c.exchange.ensures.went.state, differs g before, c.requires.running.phase) refl) lost

pub returns-in-Ok-clause-past : goal.returns-in-Ok-clause-past
returns-in-Ok-clause-past g c = past_went c.exchange.ensures.went

pub returns-in-Err-clause-past : goal.returns-in-Err-clause-past
returns-in-Err-clause-past g c = past_went c.exchange.ensures.went
