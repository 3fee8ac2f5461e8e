use Rattle.std.proofs.Common.{◌≡◌, ◌+◌, ◌-◌, ◌∙◌, refl, ap, arith, inr, true, false, Some}
use Rattle.dstm_core.specs.Events.{Event}
use Rattle.dstm_core.specs.declared.event.Kind.TheVariants.{Check}
use Rattle.dstm_core.specs.Rules.{is_outside}
use Rattle.dstm_core.specs.State.{LocalState}
use Rattle.dstm_machines.specs.Traces.Access.{Load}
use Rattle.dstm_order.specs.declared.again.Again.TheVariants.{Stale}
use Rattle.dstm_order.specs.Efforts.{Effort}
use Rattle.dstm_steps.specs.Under.{Began, work_of, made_by, now, effort_by}
use Rattle.dstm_steps.proofs.Checks.{next_in_shape, quit_drawn}
use Rattle.dstm_steps.proofs.Stepping.{under_is, due_quit, again_none}
use Rattle.dstm_steps.proofs.steps.Steps.check_drawn.Goals as goal

pub object-place-requires-clause-below : goal.object-place-requires-clause-below
object-place-requires-clause-below g c =
    rw c.requires.read.0 at (next_in_shape c.requires.under (inr c.requires.phase) c.requires.agreed.0 c.requires.left)

pub returns-clause-stale : goal.returns-clause-stale
returns-clause-stale g c wrong =
    let b : Began = g.B.InCall.began in
    let old : LocalState = now c.args.words.now c.args.self.now in
    let new : LocalState = now c.args.words.now c.load-found.new.self in
    let effort : Effort = effort_by c.load-found.new.self in
    let e : Event = made_by b Load Check c.object-place.result c.load-found.result in
    let state = c.load-found.ensures.state in
    let stale : new.stale ≡ true = rw (state, c.requires.read.1, wrong) refl in
    let live : is_outside new.phase ≡ false = rw (state, c.requires.phase) refl in
    let one : old.checked + 1 - 1 ≡ old.checked = omega arith in (
      stale,
      under_is c.load-found.ensures.under
          (due_quit (work_of b.task) c.args.words.now.terms.shape (Some e) new effort live stale)
          (again_none (work_of b.task) (Some e) new effort live),
      quit_drawn new effort stale (rw state c.requires.drawn) ∙ ap Stale (rw (state, one) c.requires.read.0),
      rw state c.requires.phase,
      rw state c.requires.agreed.1,
    )
