-- A call of a caller, from what its steps know.
use Rattle.std.proofs.Common.{◌<◌, ◌∙◌, ◌≡◌, List, ap, subst, sym, refl}
use Rattle.std.specs.Prelude.{None, Option}
use Rattle.dstm_engine.proofs.Base.{Again, Done, Effort, InTask, IsMirror, IsOf, IsPastOf, IsRunOf, Steps, Task, Val, View, answer, caller_state, caller_view, due, effort_by, events_of, now, number_or, view_of}
use Rattle.dstm_steps.proofs.Stepping.{began_as, call_begins, call_of}
use Rattle.dstm_engine.specs.Began.{began_of}
use Rattle.dstm_engine.specs.Callers.{Called, shape_of, state}
use Rattle.dstm_engine.specs.Calls.{Performs}

module _ {L : Type 0} (holds : L → List Val → Type 0) (k : Called L) where
  -- the steps are those of the caller, between two calls
  pub record StepsOf (steps : Steps L) : Type 0 where
    pub seat : IsOf k.home steps.seat
    pub view : view_of steps.seat ≡ caller_view k.home.terms k.number k.log
    pub number : k.number < (shape_of k).callers
    pub run : IsRunOf holds k.home.terms k.log
    pub shape : steps.shape ≡ shape_of k
    pub manager : steps.decider.manager ≡ (shape_of k).manager
    pub generator : steps.decider.generator ≡ k.generator
    pub mirror : IsMirror (shape_of k) steps (state k)
    pub renewed : (steps.missed ≡ 0) × (steps.round ≡ 0) × (steps.left ≡ 0)

  -- they know its state
  pub now_is : {steps : Steps L} → StepsOf steps → now k.home steps ≡ state k
  now_is s = ap (caller_state k.home.terms) s.view

  pub began_is : (task : Task) {steps : Steps L} → StepsOf steps →
      began_as k.home task (number_or (view_of steps.seat).number 0) steps ≡ began_of task k
  began_is task {steps = steps} s = rw (s.view, s.generator) refl

  -- a call begins
  pub starts : (task : Task) {steps : Steps L} → StepsOf steps →
      InTask holds k.home task (began_as k.home task (number_or (view_of steps.seat).number 0) steps) steps
      (due task (shape_of k) None (now k.home steps) (effort_by steps))
      (answer task None (now k.home steps) (effort_by steps))
  starts task {steps = steps} s =
      let named : number_or (view_of steps.seat).number 0 ≡ k.number =
      ap (λ (v : View L). number_or v.number 0) s.view in
      let seen : (view_of steps.seat).log ≡ k.log = ap (λ (v : View L). v.log) s.view in
      rw named (call_begins holds k.home task k.number steps s.seat
      (s.view ∙ ap (caller_view k.home.terms k.number) (sym seen)) s.number
      (subst (IsRunOf holds k.home.terms) (sym seen) s.run) s.shape s.manager
      (subst (IsMirror (shape_of k) steps) (sym (now_is s)) s.mirror) s.renewed.0 s.renewed.1 s.renewed.2)

  -- and is one of the caller's
  pub performs : {task : Task} {steps : Steps L} {again : Option Again} (n : Called L) →
      InTask holds k.home task (began_of task k) steps Done again → n.log ≡ (view_of steps.seat).log →
      n.generator ≡ steps.decider.generator → n.home ≡ k.home → n.number ≡ k.number → Performs holds task k n again
  performs n u log generator home number = record {
    acts = record {
      events = u.events;
      own = ap (events_of k.number) log ∙ u.own;
      call = (call_of u).0;
      answers = sym (call_of u).1;
      seen = subst (IsPastOf k.log) (sym log) u.seen;
      run = subst (IsRunOf holds k.home.terms) (sym log) u.run;
      generator = generator ∙ sym (ap (λ (e : Effort). e.generator) u.effort);
    };
    same = (home, number);
  }
