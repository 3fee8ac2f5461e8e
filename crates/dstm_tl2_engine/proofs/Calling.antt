-- A call of a caller, from what its steps know.
use Rattle.std.proofs.Common.{◌<◌, ◌∙◌, ◌≡◌, List, ap, subst, sym}
use Rattle.std.specs.Prelude.{Option}
use Rattle.dstm_tl2_engine.proofs.Base.{Began, Done, Home, IsOf, IsPastOf, IsRunOf, Steps, Task, TlAgain, Under, Val, View, caller_state, caller_view, events_of, now, number_or, view_of}
use Rattle.dstm_tl2_steps.proofs.Stepping.{began_as, call_of}
use Rattle.dstm_tl2_engine.specs.Began.{began_of}
use Rattle.dstm_tl2_engine.specs.Callers.{TlCalled, objects_of, state}
use Rattle.dstm_tl2_engine.specs.Calls.{Performs}

-- a call with this task begins as the steps are now, whose seat has the number
abbrev pub begun_as : {L : Type 0} → Home L → Task → Steps L → Began
begun_as home task steps = began_as home task (number_or (view_of steps.seat).number 0) steps

module _ {L : Type 0} (holds : L → List Val → Type 0) (k : TlCalled L) where
  -- the steps are those of the caller, between two calls
  pub record StepsOf (steps : Steps L) : Type 0 where
    pub seat : IsOf k.home steps.seat
    pub view : view_of steps.seat ≡ caller_view k.home.terms k.number k.log
    pub number : k.number < k.home.terms.callers
    pub run : IsRunOf holds k.home.terms k.log
    pub places : steps.places ≡ objects_of k
    pub sample : steps.sample ≡ (state k).sample

  -- they know its state
  pub now_is : {steps : Steps L} → StepsOf steps → now k.home steps ≡ state k
  now_is s = ap (caller_state k.home.terms) s.view

  pub began_is : (task : Task) {steps : Steps L} → StepsOf steps → begun_as k.home task steps ≡ began_of task k
  began_is task s =
      ap (λ (v : View L). record {
        task = task;
        number = number_or v.number 0;
        state = caller_state k.home.terms v;
        log = v.log;
      }) s.view

  -- and is one of the caller's
  pub performs : (task : Task) {steps : Steps L} {again : Option TlAgain} (n : TlCalled L) →
      Under holds k.home (began_of task k) steps Done again → n.log ≡ (view_of steps.seat).log → n.home ≡ k.home →
      n.number ≡ k.number → Performs holds task k n again
  performs task n u log home number = record {
    acts = record {
      events = u.events;
      own = ap (events_of k.number) log ∙ u.own;
      call = (call_of u).0;
      answers = (call_of u).1;
      seen = subst (IsPastOf k.log) (sym log) u.seen;
      run = subst (IsRunOf holds k.home.terms) (sym log) u.run;
    };
    same = (home, number);
  }
