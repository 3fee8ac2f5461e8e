use Rattle.std.proofs.Common.{◌≡◌, ◌+◌, ◌-◌, ◌∙◌, refl, ap, sym, arith}
use Rattle.dstm_core.specs.declared.event.Kind.TheVariants.{Begin}
use Rattle.dstm_core.specs.Words.{place}
use Rattle.dstm_core.specs.Words.Word.{StatusWord}
use Rattle.dstm_machines.specs.Traces.Access.{Store}
use Rattle.dstm_order.specs.Tasks.Task.{Beginning}
use Rattle.dstm_steps.specs.Under.{WentOn, made_by, now}
use Rattle.dstm_steps.proofs.Stepping.{may_make, took}
use Rattle.dstm_steps.proofs.Unused.{next_in_shape}
use Rattle.dstm_steps.proofs.steps.Steps.start.Given.{Over}
use Rattle.dstm_steps.proofs.steps.Steps.start.Goals.{After-store}
use Rattle.dstm_steps.proofs.steps.Steps.start.Goals as goal

pub status-place-requires-clause-below : goal.status-place-requires-clause-below
status-place-requires-clause-below g c =
    next_in_shape c.requires.under c.requires.next c.requires.number c.requires.unused

pub store-requires-clause-allowed : goal.store-requires-clause-allowed
store-requires-clause-allowed g c =
    may_make c.requires.under (Store c.code.result) Begin c.status-place.result (λ q. absurd (cc)) (record {
      place = rw c.requires.next
          (c.status-place.ensures ∙ ap (λ s. place s (StatusWord c.args.next)) c.requires.under.shape);
      access = ap Store (sym c.code.ensures);
      may = (c.requires.outside, c.requires.number, c.requires.unused, c.requires.ranked);
    })

went : (g : Over) (c : After-store g) →
    WentOn g.L.Law.holds c.args.words.now (Beginning c.args.fresh) g.B.InCall.began c.args.self.now
    (record c.args.self.now { seat = c.store.new.self; own = c.args.next })
    (made_by g.B.InCall.began (Store c.code.result) Begin c.status-place.result c.store.ensures.event.0)
went g c = took c.requires.under (Store c.code.result) c.store.ensures.event.1 c.store.ensures.seat (refl, tt)

pub returns-clause-state : goal.returns-clause-state
returns-clause-state g c = (went g (goal.at.returns-clause-state g c).After-store).state

pub returns-clause-under : goal.returns-clause-under
returns-clause-under g c =
    let m = c.requires.under.mirror in
    let one : (now c.args.words.now c.args.self.now).begun + 1 - 1 ≡ (now c.args.words.now c.args.self.now).begun =
    omega arith in
    (went g (goal.at.returns-clause-under g c).After-store).goes_on _ refl (record {
      shape = refl;
      manager = refl;
      mirror = record { own = rw one (sym c.requires.next); installed = m.installed; rank = m.rank };
      effort = refl;
    })
