-- Why a call has left its attempt, from what it answers.
use Rattle.std.proofs.Common.{◌++◌, ◌∙◌, ◌≡◌, ◌⊎◌, ◌∷◌, List, [], Some, ap, inl, inr, refl, subst, true, false, Bool, if◌then◌else◌}
use Rattle.dstm_tl2.proofs.Base.{Event, LocalState, Table, cases_Bool, fails, is_locked, tl2}
use Rattle.dstm_machines.proofs.Own.{state_both}
use Rattle.dstm_tl2_order.specs.Calls.{Causes, Found, answer_of, cause, is_look_lock, state_after}
use Rattle.dstm_tl2_order.specs.declared.again.TlAgain.{TlAgain}
use Rattle.dstm_tl2_order.specs.declared.again.TlAgain.TheVariants.{Changed, Locked, Newer}

-- the event that ends the attempt is the cause
cause_is : (t : Table) (l : LocalState) (es : List Event) (e : Event) → fails e.kind (state_after t l es) e ≡ true →
    Causes (cause e) t l (e ∷ es)
cause_is t l es e f = by (is_locked e.found) refl (is_look_lock e.kind) refl
  where
    here : Found t l (e ∷ es) e.place
    here = record { event = e; later = []; before = es; in_call = refl; object = refl; fails = f }

    by : (b : Bool) → is_locked e.found ≡ b → (d : Bool) → is_look_lock e.kind ≡ d →
        Causes (if b then Locked e.place else if d then Newer e.place else Changed e.place) t l (e ∷ es)
    by true p d q = (here, p)
    by false p true q = (here, p, q)
    by false p false q = (here, p, q)

-- a later event leaves the cause
cause_stays : (again : TlAgain) (t : Table) (l : LocalState) (es : List Event) (e : Event) → Causes again t l es →
    Causes again t l (e ∷ es)
cause_stays again t l es e = by again
  where
    more : {o : _} → Found t l es o → Found t l (e ∷ es) o
    more f = record {
      event = f.event;
      later = e ∷ f.later;
      before = f.before;
      in_call = ap (λ (xs : List Event). e ∷ xs) f.in_call;
      object = f.object;
      fails = f.fails;
    }

    by : (again : TlAgain) → Causes again t l es → Causes again t l (e ∷ es)
    by (Locked o) c = (more c.0, c.1)
    by (Newer o) c = (more c.0, c.1, c.2)
    by (Changed o) c = (more c.0, c.1, c.2)

-- WHAT A CALL ANSWERS HAS ITS CAUSE among the events of the call.
pub causes_of : (t : Table) (l : LocalState) (es : List Event) (again : TlAgain) → answer_of t l es ≡ Some again →
    Causes again t l es
causes_of t l [] again h = absurd (cc)
causes_of t l (e ∷ es) again h = by (causes_of t l es again) (cases_Bool (fails e.kind (state_after t l es) e))
  where
    by : (answer_of t l es ≡ Some again → Causes again t l es) →
        (fails e.kind (state_after t l es) e ≡ true) ⊎ (fails e.kind (state_after t l es) e ≡ false) →
        Causes again t l (e ∷ es)
    by ih (inl q) =
        let same : Some (cause e) ≡ Some again = rw q at h in
        let is : cause e ≡ again = cc in
        subst (λ a. Causes a t l (e ∷ es)) is (cause_is t l es e q)
    by ih (inr q) = cause_stays again t l es e (ih (rw q at h))

-- what a call answers, its events answer with those before it
pub answers_since : (t : Table) (l : LocalState) (es before : List Event) (again : TlAgain) →
    answer_of t (state_after t l before) es ≡ Some again → answer_of t l (es ++ before) ≡ Some again
answers_since t l [] before again h = absurd (cc)
answers_since t l (e ∷ es) before again h =
    by (answers_since t l es before again) (cases_Bool (fails e.kind (state_after t (state_after t l before) es) e))
  where
    same : fails e.kind (state_after t l (es ++ before)) e ≡ fails e.kind (state_after t (state_after t l before) es) e
    same = ap (λ (m : LocalState). fails e.kind m e) (state_both tl2 t l es before)

    by : (answer_of t (state_after t l before) es ≡ Some again → answer_of t l (es ++ before) ≡ Some again) →
        (fails e.kind (state_after t (state_after t l before) es) e ≡ true)
        ⊎ (fails e.kind (state_after t (state_after t l before) es) e ≡ false) →
        answer_of t l (e ∷ (es ++ before)) ≡ Some again
    by ih (inl q) = rw (same ∙ q) (rw q at h)
    by ih (inr q) = rw (same ∙ q) (ih (rw q at h))

-- the event that has ended an attempt, among the events of a call
pub record Ended (t : Table) (l : LocalState) (es : List Event) : Type 0 where
  pub event : Event
  pub later : List Event
  pub before : List Event
  pub in_call : es ≡ later ++ event ∷ before
  pub fails : fails event.kind (state_after t l before) event ≡ true

ended_here : {t : Table} {l : LocalState} {es : List Event} {o : _} → Found t l es o → Ended t l es
ended_here f = record {
  event = f.event;
  later = f.later;
  before = f.before;
  in_call = f.in_call;
  fails = f.fails;
}

pub ended_by : (t : Table) (l : LocalState) (es : List Event) (again : TlAgain) → answer_of t l es ≡ Some again →
    Ended t l es
ended_by t l es again h = by again (causes_of t l es again h)
  where
    by : (again : TlAgain) → Causes again t l es → Ended t l es
    by (Locked o) c = ended_here c.0
    by (Newer o) c = ended_here c.0
    by (Changed o) c = ended_here c.0
