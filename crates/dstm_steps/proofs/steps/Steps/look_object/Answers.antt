use Rattle.std.proofs.Common.{refl}
use Rattle.dstm_core.specs.declared.event.Kind.TheVariants.{LookObj}
use Rattle.dstm_machines.specs.Traces.Access.{Load}
use Rattle.dstm_steps.specs.Under.{After, made_by}
use Rattle.dstm_steps.proofs.Stepping.{after_rest, went_on, went_stale}
use Rattle.dstm_steps.proofs.steps.Steps.look_object.Given.{Over}
use Rattle.dstm_steps.proofs.steps.Steps.look_object.Goals.{After-look-word}
use Rattle.dstm_steps.proofs.steps.Steps.look_object.Goals as goal

looked : (g : Over) (c : After-look-word g) →
    After c.args.words.now c.args.self.now (record c.look-word.new.self { round = 0; left = 0 })
    (made_by g.B.InCall.began Load LookObj c.object-place.result c.look-word.result)
looked g c =
    let m = c.requires.under.mirror in
    after_rest c.look-word.ensures.rest refl (record { own = m.own; installed = m.installed; rank = m.rank })
    (rw c.look-word.ensures.rest refl)

pub returns-clause-agreed : goal.returns-clause-agreed
returns-clause-agreed g c agreed =
    went_on c.look-word.ensures.went refl (looked g (goal.at.returns-clause-agreed g c).After-look-word)
    (rw (c.look-word.ensures.went.state, c.requires.running.phase) refl) agreed
    (rw c.look-word.ensures.rest c.requires.tries)

pub returns-clause-stale : goal.returns-clause-stale
returns-clause-stale g c stale =
    went_stale c.look-word.ensures.went refl (looked g (goal.at.returns-clause-stale g c).After-look-word)
    (rw (c.look-word.ensures.went.state, c.requires.running.phase) refl) stale
