-- The calls of an attempt.
use Rattle.std.proofs.Common.{◌≡◌, ◌∙◌, ◌++◌, ◌∷◌, List, [], None, true, ap, refl, subst, sym}
use Rattle.std.specs.Prelude.{Option}
use Rattle.dstm_engine.proofs.Base.{Again, AreCalls, AreMade, Beginning, Call, Doing, IsCall, Lcg, LocalState, Made, Shape, Val, all_events, effort_of, events_in, generator_after, generator_by, is_new, state_after, state_by}
use Rattle.dstm_engine.specs.Callers.{Called, begun_log, shape_of, state}
use Rattle.dstm_engine.specs.Calls.{IsTold, begun_state}
use Rattle.dstm_engine.specs.Endings.{Attempts}
use Rattle.dstm_engine.specs.Makes.{Makes}
use Rattle.dstm_progress.specs.Lives.{TriesByShape}
use Rattle.dstm_progress.specs.Oldest.{OpensToWrite}
use Rattle.dstm_engine.proofs.AddingUp.{makes_both, makes_one}

-- the calls on an attempt, as calls
abbrev pub doing : List Made → List Call
doing [] = []
doing (m ∷ ms) = record { task = Doing m.work; events = m.events } ∷ doing ms

doing_events : (ms : List Made) → events_in (doing ms) ≡ all_events ms
doing_events [] = refl
doing_events (m ∷ ms) = ap (λ es. m.events ++ es) (doing_events ms)

module _ (s : Shape) (l : LocalState) (g : Lcg) where
  doing_state : (ms : List Made) → state_after s l (all_events ms) ≡ state_by s l g (doing ms)
  doing_state ms = ap (state_after s l) (sym (doing_events ms))

  doing_generator : (ms : List Made) → generator_after s l g ms ≡ generator_by s l g (doing ms)
  doing_generator [] = refl
  doing_generator (m ∷ ms) =
      ap (λ (n : LocalState). (effort_of s n (generator_after s l g ms) m.events).generator) (doing_state ms)
      ∙ ap (λ (h : Lcg). (effort_of s (state_by s l g (doing ms)) h m.events).generator) (doing_generator ms)

  doing_made : (ms : List Made) → AreCalls s l g ms → (s.all_write ≡ true → OpensToWrite ms) →
      AreMade s l g (TriesByShape s) (doing ms)
  doing_made [] are writes = tt
  doing_made (m ∷ ms) are writes = (
    doing_made ms are.0 (λ all. (writes all).1),
    record { again = tt; opens = λ all. (writes all).0 },
    subst (λ (h : Lcg). IsCall (Doing m.work) s (state_by s l g (doing ms)) h m.events) (doing_generator ms)
        (subst (λ (n : LocalState). IsCall (Doing m.work) s n (generator_after s l g ms) m.events) (doing_state ms) are.1),
  )

-- from the Begin on
module _ {L : Type 0} (began n : Called L) (home : n.home ≡ began.home) (number : n.number ≡ began.number)
    (at_begin : began.log ≡ begun_log n.number n.log) (generator : began.generator ≡ n.began) (t : IsTold n) where
  same_shape : shape_of n ≡ shape_of began
  same_shape = ap (λ h. h.terms.shape) home

  same_state : begun_state n ≡ state began
  same_state = rw (same_shape, ← at_begin, number) refl

  told_by_shape : Makes (TriesByShape (shape_of began)) began n
  told_by_shape = record {
    calls = doing t.calls;
    own = t.own ∙ rw (doing_events t.calls, at_begin, ← number) refl;
    made =
        doing_made (shape_of began) (state began) began.generator t.calls
        (rw (← same_state, ← same_shape, generator) t.are_calls)
        (λ all. t.writes (ap (λ (s : Shape). s.all_write) same_shape ∙ all));
    generator =
        t.generator
        ∙ rw (same_state, same_shape, ← generator)
        (doing_generator (shape_of began) (state began) began.generator t.calls);
    same = (home, number);
  }

  -- of the table that this is
  pub told_makes : (s : Shape) → shape_of began ≡ s → Makes (TriesByShape s) began n
  told_makes s is = subst (λ (s : Shape). Makes (TriesByShape s) began n) is told_by_shape

pub attempt_makes : {L : Type 0} (holds : L → List Val → Type 0) (k n : Called L) (again : Option Again) →
    k.fresh ≡ is_new (state k) → Attempts holds k n again → Makes (TriesByShape (shape_of k)) k n
attempt_makes holds k n again fresh a =
    makes_both (TriesByShape (shape_of k)) k a.began n
    (makes_one (TriesByShape (shape_of k)) holds (Beginning k.fresh) k a.began None (record { again = fresh; opens = λ all. tt })
    a.begins)
    (told_makes a.began n (a.same.0 ∙ sym a.begins.same.0) (a.same.1 ∙ sym a.begins.same.1) a.at_begin a.generator
    a.ended.told (shape_of k) (ap (λ h. h.terms.shape) a.begins.same.0))
