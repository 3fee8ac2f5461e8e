-- Calls add up.
use Rattle.std.proofs.Common.{Bool, true, ◌≡◌, ◌∙◌, ◌++◌, ◌∷◌, List, [], ap, append_assoc, append-nil, refl, subst, sym}
use Rattle.std.specs.Prelude.{Option}
use Rattle.dstm_engine.proofs.Base.{Again, AreMade, ByCalls, Call, Event, IsCall, Lcg, LocalState, Shape, Task, Val, effort_of, events_in, events_of, first, generator_by, local, state_after, state_by}
use Rattle.dstm_progress.proofs.OwnEvents.{after_own, whole_state}
use Rattle.dstm_progress.proofs.Own.{state_both}
use Rattle.dstm_engine.specs.Callers.{Called, shape_of, state}
use Rattle.dstm_engine.specs.Calls.{Performs}
use Rattle.dstm_engine.specs.Makes.{Makes}
use Rattle.dstm_engine.specs.Lives.{CallsAddUp}

pub events_both : (cs ds : List Call) → events_in (cs ++ ds) ≡ events_in cs ++ events_in ds
events_both [] ds = refl
events_both (c ∷ cs) ds =
    ap (λ es. c.events ++ es) (events_both cs ds) ∙ sym (append_assoc c.events (events_in cs) (events_in ds))

module _ (s : Shape) (l : LocalState) (g : Lcg) where
  pub states_both : (cs ds : List Call) → state_by s (state_by s l g ds) (generator_by s l g ds) cs ≡ state_by s l g (cs ++ ds)
  states_both cs ds =
      sym (state_both s l (events_in cs) (events_in ds)) ∙ sym (ap (state_after s l) (events_both cs ds))

  pub generators_both : (cs ds : List Call) →
      generator_by s (state_by s l g ds) (generator_by s l g ds) cs ≡ generator_by s l g (cs ++ ds)
  generators_both [] ds = refl
  generators_both (c ∷ cs) ds =
      ap (λ (m : LocalState). (effort_of s m (generator_by s (state_by s l g ds) (generator_by s l g ds) cs) c.events).generator)
      (states_both cs ds)
      ∙ ap (λ (h : Lcg). (effort_of s (state_by s l g (cs ++ ds)) h c.events).generator) (generators_both cs ds)

  pub made_both : (May : LocalState → Task → Type 0) (cs ds : List Call) → AreMade s l g May ds →
      AreMade s (state_by s l g ds) (generator_by s l g ds) May cs → AreMade s l g May (cs ++ ds)
  made_both May [] ds old new = old
  made_both May (c ∷ cs) ds old new = (
    made_both May cs ds old new.0,
    subst (λ (m : LocalState). May m c.task) (states_both cs ds) new.1,
    subst (λ (h : Lcg). IsCall c.task s (state_by s l g (cs ++ ds)) h c.events) (generators_both cs ds)
        (subst (λ (m : LocalState). IsCall c.task s m (generator_by s (state_by s l g ds) (generator_by s l g ds) cs) c.events)
        (states_both cs ds) new.2),
  )

module _ {L : Type 0} (May : LocalState → Task → Type 0) where
  pub makes_none : (k : Called L) → Makes May k k
  makes_none k = record { calls = []; own = refl; made = tt; generator = refl; same = (refl, refl) }

  pub makes_one : (holds : L → List Val → Type 0) (task : Task) (k n : Called L) (again : Option Again) →
      May (state k) task → Performs holds task k n again → Makes May k n
  makes_one holds task k n again may p = record {
    calls = record { task = task; events = p.events } ∷ [];
    own =
        ap (λ c. events_of c n.log) p.same.1 ∙ p.own
        ∙ ap (λ es. es ++ events_of k.number k.log) (sym (append-nil p.events));
    made = (tt, may, p.call);
    generator = p.generator;
    same = p.same;
  }

  -- the state that they leave
  pub makes_state : {k n : Called L} (m : Makes May k n) → state n ≡ state_by (shape_of k) (state k) k.generator m.calls
  makes_state {k = k} {n = n} m =
      ap (λ h. local h.terms.shape n.log n.number) m.same.0
      ∙ ap (local (shape_of k) n.log) m.same.1
      ∙ after_own (shape_of k) k.number n.log k.log (events_in m.calls) (ap (λ c. events_of c n.log) (sym m.same.1) ∙ m.own)

  pub makes_both : (k n m : Called L) → Makes May k n → Makes May n m → Makes May k m
  makes_both k n m a b =
      let s = shape_of k in
      let shape : shape_of n ≡ s = ap (λ h. h.terms.shape) a.same.0 in
      let made : AreMade s (state_by s (state k) k.generator a.calls) (generator_by s (state k) k.generator a.calls) May b.calls =
      rw (← makes_state a, ← a.generator, ← shape) b.made in
      record {
        calls = b.calls ++ a.calls;
        own =
            b.own ∙ ap (λ es. events_in b.calls ++ es) a.own
            ∙ sym (append_assoc (events_in b.calls) (events_in a.calls) (events_of k.number k.log))
            ∙ ap (λ es. es ++ events_of k.number k.log) (sym (events_both b.calls a.calls));
        made = made_both s (state k) k.generator May b.calls a.calls a.made made;
        generator =
            b.generator
            ∙ rw (makes_state a, shape, a.generator) (generators_both s (state k) k.generator b.calls a.calls);
        same = (b.same.0 ∙ a.same.0, b.same.1 ∙ a.same.1);
      }

  pub makes_all : (k n : Called L) (log : List Event) → events_of k.number k.log ≡ [] → Makes May k n →
      events_of n.number log ≡ events_of n.number n.log → ByCalls May (shape_of k) k.generator log n.number
  makes_all k n log none m known = record {
    calls = m.calls;
    own = known ∙ m.own ∙ ap (λ es. events_in m.calls ++ es) none ∙ append-nil (events_in m.calls);
    made =
        subst (λ (l : LocalState). AreMade (shape_of k) l k.generator May m.calls)
        (whole_state (shape_of k) k.number k.log ∙ ap (state_after (shape_of k) first) none) m.made;
  }

pub calls_add_up : {L : Type 0} (holds : L → List Val → Type 0) (may : (state : LocalState) (task : Task) → Bool) →
    CallsAddUp L holds may
calls_add_up holds may =
    let May : LocalState → Task → Type 0 = λ state task. may state task ≡ true in record {
      none = makes_none May;
      one = makes_one May holds;
      both = makes_both May;
      all = makes_all May;
    }
