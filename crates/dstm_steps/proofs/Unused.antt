-- The first unused attempt.
use Rattle.std.proofs.Common.{◌≡◌, ℕ, ◌*◌, ◌<◌, true, is_some, ap, sym, subst, ◌∙◌, Option, List}
use Rattle.dstm_core.specs.Runs.{local}
use Rattle.dstm_core.specs.State.{LocalState, next_attempt}
use Rattle.dstm_core.specs.declared.shape.Shape.{Shape}
use Rattle.dstm_core.proofs.Columns.{in_table}
use Rattle.dstm_core.proofs.Static.{static}
use Rattle.dstm_core.proofs.Statuses.{next_number}
use Rattle.dstm_model.specs.declared.value.Val.{Val}
use Rattle.dstm_order.specs.declared.again.Again.{Again}
use Rattle.dstm_order.specs.Order.{Due}
use Rattle.dstm_order.specs.Tasks.{Task}
use Rattle.dstm_words.specs.Seats.{Home, view_of}
use Rattle.dstm_steps.specs.declared.steps.Steps.{Steps}
use Rattle.dstm_steps.specs.Under.{Began, InTask, now}
use Rattle.dstm_steps.proofs.Stepping.{here}

-- it is one of the shape's
pub next_in_shape : {L : Type 0} {task : Task} {holds : L → List Val → Type 0} {home : Home L} {b : Began}
    {steps : Steps L} {d : Due} {a : Option Again} {next : ℕ} → InTask holds home task b steps d a →
    next_attempt home.terms.shape (now home steps) ≡ next → is_some (now home steps).number ≡ true →
    (now home steps).begun < home.terms.shape.attempts → next < steps.shape.callers * steps.shape.attempts
next_in_shape {home = home} {b = b} {steps = steps} u next number begun =
    let s : Shape = home.terms.shape in
    let log = (view_of steps.seat).log in
    let some : is_some (local s log b.number).number ≡ true =
    sym (ap (λ (l : LocalState). is_some l.number) (here u)) ∙ number in
    let few : (local s log b.number).begun < s.attempts =
    subst (λ (l : LocalState). l.begun < s.attempts) (here u) begun in
    rw u.shape (rw next at (subst (λ l. next_attempt s l < s.callers * s.attempts) (sym (here u))
    (rw (next_number s b.number (local s log b.number) (static s log u.run.run.core b.number) some)
    (in_table b.number s.attempts (local s log b.number).begun s.callers u.caller few))))
