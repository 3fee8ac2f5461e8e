use Rattle.std.proofs.Common.{◌≡◌, ◌∙◌, refl, ap}
use Rattle.dstm_core.specs.declared.event.Kind.TheVariants.{Quit}
use Rattle.dstm_core.specs.Words.{place}
use Rattle.dstm_core.specs.Words.Word.{StatusWord}
use Rattle.dstm_machines.specs.Traces.Access.{Exchange}
use Rattle.dstm_words.specs.Seats.{found_in}
use Rattle.dstm_steps.specs.Under.{InTask, WentOn, answer_by, due_next_by, made_by}
use Rattle.dstm_steps.proofs.Checks.{own_in_shape}
use Rattle.dstm_steps.proofs.Stepping.{may_make, took}
use Rattle.dstm_order.specs.Tasks.{Task}
use Rattle.dstm_order.specs.Tasks.Task.{Beginning, Leaving}
use Rattle.dstm_steps.proofs.steps.Steps.leave.Given.{Over}
use Rattle.dstm_steps.proofs.steps.Steps.leave.Goals.{After-exchange}
use Rattle.dstm_steps.proofs.steps.Steps.leave.Goals as goal

pub status-place-requires-clause-below : goal.status-place-requires-clause-below
status-place-requires-clause-below g c = own_in_shape c.requires.under c.requires.live

pub exchange-requires-clause-allowed : goal.exchange-requires-clause-allowed
exchange-requires-clause-allowed g c =
    may_make c.requires.under (Exchange c.code.result c.code-2.result) Quit c.status-place.result (λ q. absurd (cc)) (record {
      place = rw (← c.requires.under.mirror.own)
          (c.status-place.ensures ∙ ap (λ s. place s (StatusWord c.args.self.now.own)) c.requires.under.shape);
      access = rw (← c.requires.status, c.code.ensures, c.code-2.ensures) refl;
      may = c.requires.live;
    })

went : (g : Over) (c : After-exchange g) →
    WentOn g.L.Law.holds c.args.words.now g.B.InCall.began.task g.B.InCall.began c.args.self.now
    (record c.args.self.now { seat = c.exchange.new.self })
    (made_by g.B.InCall.began (Exchange c.code.result c.code-2.result) Quit c.status-place.result
    (found_in c.exchange.result))
went g c =
    took c.requires.under (Exchange c.code.result c.code-2.result) c.exchange.ensures.event c.exchange.ensures.seat (refl, tt)

-- the call goes on, whatever it is
left : (g : Over) (c : After-exchange g) (task : Task) → g.B.InCall.began.task ≡ task →
    let new = record c.args.self.now { seat = c.exchange.new.self } in
    let e = made_by g.B.InCall.began (Exchange c.code.result c.code-2.result) Quit c.status-place.result
    (found_in c.exchange.result) in
    InTask g.L.Law.holds c.args.words.now task g.B.InCall.began new (due_next_by c.args.words.now task new e)
    (answer_by c.args.words.now task new e)
left g c task is =
    let new = record c.args.self.now { seat = c.exchange.new.self } in
    let e = made_by g.B.InCall.began (Exchange c.code.result c.code-2.result) Quit c.status-place.result
    (found_in c.exchange.result) in
    let m = c.requires.under.mirror in
    rw (← is) ((went g c).goes_on new refl (record {
      shape = refl;
      manager = refl;
      mirror = record { own = m.own; installed = m.installed; rank = m.rank };
      effort = refl;
    }))

pub returns-clause-state : goal.returns-clause-state
returns-clause-state g c = (went g (goal.at.returns-clause-state g c).After-exchange).state

pub returns-clause-leaves : goal.returns-clause-leaves
returns-clause-leaves g c task =
    let before = (goal.at.returns-clause-leaves g c).After-exchange in
    rw (went g before).state at (left g before Leaving task)

pub returns-clause-begins : goal.returns-clause-begins
returns-clause-begins g c fresh task = left g (goal.at.returns-clause-begins g c).After-exchange (Beginning fresh) task
