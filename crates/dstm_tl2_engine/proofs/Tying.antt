-- A caller whose fields stand for what contracts see of it, before and after a call.
use Rattle.std.proofs.Common.{◌∙◌, ◌≡◌, List, ap, refl, subst, sym}
use Rattle.std.specs.Prelude.{Option, is_some}
use Rattle.dstm_tl2_engine.proofs.Base.{Done, Due, Home, LocalState, OpenedAs, Steps, Task, TlAgain, Under, Val, View, caller_state, local, now, table_of, view_of}
use Rattle.dstm_tl2_steps.proofs.Bounds.{number_now}
use Rattle.dstm_tl2_engine.proofs.Calling.{StepsOf, began_is, begun_as, now_is, performs}
use Rattle.dstm_tl2_engine.proofs.Seeing.{seen_now}
use Rattle.dstm_tl2_engine.specs.Attempts.{Seen}
use Rattle.dstm_tl2_engine.specs.Began.{began_of}
use Rattle.dstm_tl2_engine.specs.Callers.{TlCalled, objects_of, state}
use Rattle.dstm_tl2_engine.specs.Calls.{Performs}
use Rattle.dstm_tl2_engine.specs.Mirror.{Placed, Tied, called}
use Rattle.dstm_tl2_engine.specs.declared.caller.TlCaller.TheInside.{Inside}

-- a call of a caller has ended and answers this
abbrev pub EndsHere : {L : Type 0} → (L → List Val → Type 0) → Inside L → Task → Steps L → Option TlAgain → Type 0
EndsHere holds c task new again = Under holds (called c).home (began_of task (called c)) new Done again

-- ---- before a call

module _ {L : Type 0} {holds : L → List Val → Type 0} {c : Inside L} (v : Tied holds c) where
  pub steps_of : StepsOf holds (called c) c.steps
  steps_of = record {
    seat = (refl, v.seat.1, ap (λ (w : View L). w.terms) v.seat.0);
    view = v.seat.0;
    number = v.number.0;
    run = v.run;
    places = v.places;
    sample = sym v.sample;
  }

  module _ {home : Home L} (same : (called c).home ≡ home) where
    -- the state that they know
    pub now_there : now home c.steps ≡ state (called c)
    now_there = subst (λ (h : Home L). now h c.steps ≡ state (called c)) same (now_is holds (called c) steps_of)

    -- what holds of the words' table and of the state known there holds of the caller's, and the other way round
    pub at_home : (P : Home L → LocalState → Type 0) → P home (now home c.steps) → P (called c).home (state (called c))
    at_home P x = subst (λ h. P h (state (called c))) (sym same) (subst (P home) now_there x)

    pub from_home : (P : Home L → LocalState → Type 0) → P (called c).home (state (called c)) →
        P home (now home c.steps)
    from_home P x = subst (P home) (sym now_there) (subst (λ h. P h (state (called c))) same x)

    -- and ends
    pub ends_here : (task : Task) {new : Steps L} {d : Due} {again : Option TlAgain} →
        Under holds home (begun_as home task c.steps) new d again →
        Under holds (called c).home (began_of task (called c)) new d again
    ends_here task {new = new} {d = d} {again = again} u =
        subst (λ b. Under holds (called c).home b new d again) (began_is holds (called c) task steps_of)
        (subst (λ (h : Home L). Under holds h (begun_as h task c.steps) new d again) (sym same) u)

-- ---- after it

-- the caller with these steps
abbrev pub with_steps : {L : Type 0} → Inside L → Steps L → Inside L
with_steps c new = record c { steps = new }

-- WHAT EVERY CALL KEEPS of a caller's fields, whatever it does to those that are not named here.
pub record Kept {L : Type 0} (holds : L → List Val → Type 0) (c : Inside L) (new : Steps L) : Type 0 where
  pub placed : Placed holds c.terms new c.number
  pub open placed use *
  pub objects : c.opened.objects ≡ objects_of (called (with_steps c new))
  pub seen : Seen holds (called (with_steps c new))
  pub home : (called (with_steps c new)).home ≡ (called c).home

module _ {L : Type 0} {holds : L → List Val → Type 0} {c : Inside L} (v : Tied holds c) (task : Task) {new : Steps L}
    {d : Due} {again : Option TlAgain} (u : Under holds (called c).home (began_of task (called c)) new d again) where
  -- the state of the caller then
  pub state_then : local (table_of c.terms) (view_of new.seat).log c.number ≡ now (called c).home new
  state_then = sym (ap (caller_state c.terms) u.view)

  pub home_then : (called (with_steps c new)).home ≡ (called c).home
  home_then = ap (λ t. record (called c).home { table = t }) u.seat.0

  pub kept : Kept holds c new
  kept = record {
    placed = record {
      seat = (u.view, u.seat.1);
      run = u.run;
      number = (
        v.number.0,
        ap (λ (l : LocalState). l.number) state_then
            ∙ number_now u (ap is_some v.number.1),
      );
      places = u.places;
      sample = ap (λ (l : LocalState). l.sample) state_then ∙ sym u.sample;
    };
    objects = v.objects;
    seen = seen_now (called (with_steps c new)) u.run;
    home = home_then;
  }

-- the call is one of the caller's, whatever becomes of its lists
pub performs_then : {L : Type 0} {holds : L → List Val → Type 0} (c : Inside L) (task : Task) {new : Steps L}
    {again : Option TlAgain} → EndsHere holds c task new again → (opened : OpenedAs) (left : Option TlAgain) →
    Performs holds task (called c) (called (record c { steps = new; opened = opened; left = left })) again
performs_then {holds = holds} c task {new = new} u opened left =
    performs holds (called c) task (called (record c { steps = new; opened = opened; left = left })) u refl
    (ap (λ t. record (called c).home { table = t }) u.seat.0) refl

-- the caller that contracts see is the one that its fields stand for, and the words are those of its table
pub at_words : {L : Type 0} (c : Inside L) {k : TlCalled L} {stm words : Home L} → called c ≡ k → k.home ≡ stm →
    words ≡ stm → (called c).home ≡ words
at_words c {k = k} view table same = ap (λ (k : TlCalled _). k.home) view ∙ table ∙ sym same
