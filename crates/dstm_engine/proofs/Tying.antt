-- A caller whose fields stand for what contracts see of it, before and after a call.
use Rattle.std.proofs.Common.{◌<◌, ◌∙◌, ◌≡◌, List, ap, refl, subst, sym}
use Rattle.std.specs.Prelude.{Bool, true, false, None, Some, Option, not, nat_lt, ℕ, ◌||◌, ◌+◌}
use Rattle.dstm_engine.proofs.Base.{Again, Done, Event, Home, InTask, IsMirror, LocalState, Read, Steps, Task, Val, View, Write, answer, caller_state, due, effort_by, is_spent, local, now, number_or, old_values, read_values, view_of}
use Rattle.dstm_steps.proofs.Stepping.{began_as}
use Rattle.dstm_engine.proofs.Calling.{StepsOf, began_is, now_is, starts}
use Rattle.dstm_engine.specs.Began.{began_of}
use Rattle.dstm_engine.specs.Callers.{is_live, is_running, state}
use Rattle.dstm_engine.specs.Mirror.{Placed, Tied, called, phase_by}
use Rattle.dstm_engine.specs.declared.caller.Caller.TheInside.{Inside}

-- steps that have nothing behind them
abbrev pub renewed : {L : Type 0} → Steps L → Steps L
renewed steps = record steps { missed = 0; round = 0; left = 0 }

-- a call of a caller has ended and answers this, by what stands for the caller
abbrev pub EndsHere : {L : Type 0} → (L → List Val → Type 0) → Inside L → Task → Steps L → Option Again → Type 0
EndsHere holds c task new again = InTask holds (called c).home task (began_of task (called c)) new Done again

-- and by the steps that it began with
abbrev pub EndsAt : {L : Type 0} → (L → List Val → Type 0) → Home L → Steps L → Task → Steps L → Option Again → Type 0
EndsAt holds home steps task new again =
    InTask holds home task (began_as home task (number_or (view_of steps.seat).number 0) steps) new Done again

-- the state of the caller by the log of these steps
abbrev pub state_logged : {L : Type 0} → Inside L → Steps L → LocalState
state_logged c new = local c.terms.shape (view_of new.seat).log c.number

-- the values of reads and the old values of writes, by a log
abbrev pub reads_in : {L : Type 0} → Inside L → List Event → List Read → List (ℕ × Val)
reads_in c log reads = read_values c.terms.shape c.terms.start.value.items log reads

abbrev pub olds_in : {L : Type 0} → Inside L → List Event → List Write → List (ℕ × Val)
olds_in c log writes = old_values c.terms.shape c.terms.start.value.items log writes

runs_by : (b : Bool) → is_running (phase_by b) ≡ b
runs_by true = refl
runs_by false = refl

-- whether the attempt is live
pub live_there : {L : Type 0} {holds : L → List Val → Type 0} {c : Inside L} → Tied holds c →
    c.live ≡ is_live (called c)
live_there {c = c} v = sym (ap is_running v.phase ∙ runs_by c.live)

module _ {L : Type 0} {holds : L → List Val → Type 0} {c : Inside L} (v : Tied holds c) {home : Home L}
    (same : (called c).home ≡ home) {steps : Steps L} (is : steps ≡ renewed c.steps) where
  pub steps_of : StepsOf holds (called c) steps
  steps_of =
      subst (StepsOf holds (called c)) (sym is) (record {
        seat = (refl, v.seat.1, ap (λ (w : View L). w.terms) v.seat.0);
        view = v.seat.0;
        number = v.number.0;
        run = v.run;
        shape = v.shape;
        manager = v.manager.0;
        generator = refl;
        mirror = record { own = v.mirror.own; installed = v.mirror.installed; rank = v.mirror.rank };
        renewed = (refl, refl, refl);
      })

  -- the state that they know
  pub now_there : now home steps ≡ state (called c)
  now_there = subst (λ (h : Home L). now h steps ≡ state (called c)) same (now_is holds (called c) steps_of)

  -- whether it is spent
  pub spent_there : is_spent c.terms.shape (state (called c))
      ≡ (not (nat_lt c.begun c.terms.shape.attempts)
      || nat_lt c.terms.shape.locators (steps.installed + c.terms.shape.objects))
  spent_there =
      ap (λ b. not (nat_lt b c.terms.shape.attempts)
      || nat_lt c.terms.shape.locators ((state (called c)).installed + c.terms.shape.objects)) v.begun
      ∙ ap (λ i. not (nat_lt c.begun c.terms.shape.attempts)
      || nat_lt c.terms.shape.locators (i + c.terms.shape.objects))
      (sym v.mirror.installed ∙ sym (ap (λ (s : Steps L). s.installed) is))

  -- a call begins
  pub starts_there : (task : Task) →
      InTask holds home task (began_as home task (number_or (view_of steps.seat).number 0) steps) steps
      (due task home.terms.shape None (now home steps) (effort_by steps))
      (answer task None (now home steps) (effort_by steps))
  starts_there task =
      subst (λ (h : Home L). InTask holds h task (began_as h task (number_or (view_of steps.seat).number 0) steps) steps
      (due task h.terms.shape None (now h steps) (effort_by steps))
      (answer task None (now h steps) (effort_by steps))) same (starts holds (called c) task steps_of)

  -- and ends
  pub ends_here : {task : Task} {new : Steps L} {again : Option Again} →
      EndsAt holds home steps task new again → EndsHere holds c task new again
  ends_here {task = task} {new = new} {again = again} u =
      subst (λ b. InTask holds (called c).home task b new Done again) (began_is holds (called c) task steps_of)
      (subst (λ (h : Home L). InTask holds h task (began_as h task (number_or (view_of steps.seat).number 0) steps)
      new Done again) (sym same) u)

-- the state of the caller after a call
module _ {L : Type 0} {holds : L → List Val → Type 0} (c : Inside L) {task : Task} {new : Steps L}
    {again : Option Again} (u : EndsHere holds c task new again) where
  pub state_then : state_logged c new ≡ now (called c).home new
  state_then = sym (ap (caller_state c.terms) u.view)

  pub placed_then : c.number < c.terms.shape.callers → (state_logged c new).number ≡ Some c.number →
      Placed holds c.terms new c.number
  placed_then few number = record {
    seat = (u.view, u.seat.1);
    run = u.run;
    number = (few, number);
    shape = u.shape;
    mirror = subst (IsMirror c.terms.shape new) (sym state_then) u.mirror;
  }
