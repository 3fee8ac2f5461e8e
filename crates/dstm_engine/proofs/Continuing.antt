-- One call more on an attempt.
use Rattle.std.proofs.Common.{◌++◌, ◌+◌, ◌<◌, ◌≤◌, ◌==◌, ◌||◌, ◌∙◌, ◌∷◌, ◌≡◌, ◌≢◌, List, None, Option, Some, [], ap, append_assoc, arith, false, inl, inr, length, refl, subst, sym, true, ℕ}
use Rattle.std.specs.Prelude.{if◌then◌else◌}
use Rattle.std.proofs.lemmas.Bool.{cases_Bool, cond_both, eqb-true}
use Rattle.std.proofs.lemmas.List.Elements.{All-cons}
use Rattle.dstm_engine.proofs.Base.{Again, AreCalls, Begin, Committing, Core, Doing, Done, Due, Effort, Event, IsCall, IsDue, IsNoReading, Kind, Lcg, LocalState, MAX_MISSED, Made, Obeys, Outside, Phase, Quit, Reading, Rechecking, Release, Releasing, Shape, Step, Val, Work, Writing, after, all_events, answer, answer_of, at_first, due, due_after, effort_after, effort_of, events_of, generator_after, is_begin, is_outside, is_release, just, last_answer, local, newest_of, no_effort, state_after}
use Rattle.dstm_machines.proofs.Own.{own_later}
use Rattle.dstm_core.proofs.Underway.{not_begin}
use Rattle.dstm_progress.proofs.OwnEvents.{after_own}
use Rattle.dstm_progress.proofs.Own.{own_state}
use Rattle.dstm_progress.specs.Alone.{is_open}
use Rattle.dstm_engine.specs.Callers.{Called, begun_log, is_live, shape_of, state}
use Rattle.dstm_engine.specs.Calls.{IsTold, Performs, begun_state, kept_reads, newest_answer}

-- ---- a call on a live attempt makes a step

first_due : (work : Work) (l : LocalState) → at_first work l ≢ Done
first_due (Reading o) l h = cc
first_due (Writing o) l h = cc
first_due (Releasing o) l h = cc
first_due Rechecking l h = cc
first_due (Committing v) l h =
    cond_both (l.written == length l.writes) _ _ (λ (d : Due). d ≢ Done) (λ _ q. cc) (λ _.
    cond_both l.high_put _ _ (λ (d : Due). d ≢ Done) (λ _ q. cc) (λ _ q. cc)) h

outside_is : (p : Phase) → is_outside p ≡ true → p ≡ Outside
outside_is Outside h = refl
outside_is p h = absurd (cc)

makes_step : (work : Work) (s : Shape) (l : LocalState) (g : Lcg) (es : List Event) → l.phase ≢ Outside →
    IsCall (Doing work) s l g es → 0 < length es
makes_step work s l g [] live call =
    absurd (cond_both (is_outside l.phase) _ _ (λ (d : Due). d ≢ Done) (λ out. absurd (live (outside_is l.phase out)))
    (λ _. cond_both (l.stale || (0 == MAX_MISSED)) (just Quit) (at_first work l) (λ (d : Due). d ≢ Done) (λ _ q. cc)
    (λ _. first_due work l)) call.done)
makes_step work s l g (e ∷ es) live call = omega arith

-- ---- a release of an attempt that is current is one event, and answers nothing

module _ (o : ℕ) (s : Shape) (l : LocalState) (g : Lcg) (live : l.phase ≢ Outside) (agreed : l.stale ≡ false) where
  inside : is_outside l.phase ≡ false
  inside = elim (cases_Bool (is_outside l.phase)) [
    | inl q ↦ absurd (live (outside_is l.phase q))
    | inr q ↦ q
  ]

  release_due : due_after (Doing (Releasing o)) s l g [] ≡ Step Release o
  release_due = rw (inside, agreed) refl

  nothing_then : (e : Event) → e.kind ≡ Release → due_after (Doing (Releasing o)) s l g (e ∷ []) ≡ Done
  nothing_then e is = rw is (rw (inside, agreed) refl)

  one_release : (e : Event) (es : List Event) → Obeys (Doing (Releasing o)) s l g (e ∷ es) →
      (es ≡ []) × (e.kind ≡ Release)
  one_release e [] h = (refl, (subst (λ (d : Due). IsDue d e) release_due h.1).0)
  one_release e (x ∷ xs) h =
      let first = one_release x xs h.0 in
      let due : IsDue (due_after (Doing (Releasing o)) s l g (x ∷ [])) e =
      subst (λ ys. IsDue (due_after (Doing (Releasing o)) s l g (x ∷ ys)) e) first.0 h.1 in
      absurd (subst (λ (d : Due). IsDue d e) (nothing_then x first.1) due)

  pub release_answers : (es : List Event) → Obeys (Doing (Releasing o)) s l g es →
      answer_of (Doing (Releasing o)) s l g es ≡ None
  release_answers [] h = rw inside refl
  release_answers (e ∷ es) h =
      let first = one_release e es h in
      ap (λ ys. answer_of (Doing (Releasing o)) s l g (e ∷ ys)) first.0
      ∙ subst (λ (k : Kind). answer (Doing (Releasing o)) (Some e) (after k s l e)
      (effort_after k s.manager l (no_effort g) e) ≡ None) (sym first.1) (rw inside refl)

-- ---- the reads that a live attempt keeps

pub kept_most : {L : Type 0} (k : Called L) → kept_reads k ≤ length (state k).reads
kept_most k =
    cond_both (is_live k) (length (state k).reads) 0 (λ n. n ≤ length (state k).reads) (λ _. omega arith)
    (λ _. omega arith)

pub kept_live : {L : Type 0} (k : Called L) → is_live k ≡ true → kept_reads k ≡ length (state k).reads
kept_live k live = ap (λ b. if b then length (state k).reads else 0) live

pub kept_over : {L : Type 0} (k : Called L) → is_live k ≡ false → kept_reads k ≡ 0
kept_over k over = ap (λ b. if b then length (state k).reads else 0) over

-- ---- the calls on an attempt

module _ {L : Type 0} {k : Called L} (t : IsTold k) where
  -- the state of a caller after the calls on its attempt
  pub told_state : state_after (shape_of k) (begun_state k) (all_events t.calls) ≡ state k
  told_state = sym (after_own (shape_of k) k.number k.log (begun_log k.number k.log) (all_events t.calls) t.own)

  module _ {holds : L → List Val → Type 0} {work : Work} {n : Called L} {again : Option Again}
      (p : Performs holds (Doing work) k n again) where
    -- the calls on it, and one more
    abbrev pub one_more : Made
    one_more = record { work = work; events = p.events }

    pub more_calls : AreCalls (shape_of k) (begun_state k) k.began (one_more ∷ t.calls)
    more_calls = (
      t.are_calls,
      subst (λ (g : Lcg). IsCall (Doing work) (shape_of k)
          (state_after (shape_of k) (begun_state k) (all_events t.calls)) g p.events) t.generator
          (subst (λ (l : LocalState). IsCall (Doing work) (shape_of k) l k.generator p.events) (sym told_state) p.call),
    )

    pub more_answer : again ≡ last_answer (shape_of k) (begun_state k) k.began one_more t.calls
    more_answer = p.answers ∙ rw (← told_state, t.generator) refl

    pub told_more : (state k).phase ≢ Outside → begun_log n.number n.log ≡ begun_log k.number k.log →
        n.began ≡ k.began → n.left ≡ again → ((shape_of k).all_write ≡ true → IsNoReading work) →
        is_release work + kept_reads n ≤ is_open work + kept_reads k → IsTold n
    told_more live same_begin same_generator left writes few =
        let s = shape_of k in
        let call = one_more in
        let shape : shape_of n ≡ s = ap (λ h. h.terms.shape) p.same.0 in
        let began : begun_state n ≡ begun_state k = ap (λ s. local s (begun_log n.number n.log) n.number) shape
        ∙ ap (λ xs. local s xs n.number) same_begin
        ∙ ap (local s (begun_log k.number k.log)) p.same.1 in
        record {
          calls = call ∷ t.calls;
          own =
              ap (λ c. events_of c n.log) p.same.1 ∙ p.own ∙ ap (λ xs. p.events ++ xs) t.own
              ∙ sym (append_assoc p.events (all_events t.calls) (events_of k.number (begun_log k.number k.log)))
              ∙ ap (λ xs. (p.events ++ all_events t.calls) ++ events_of k.number xs) (sym same_begin)
              ∙ ap (λ c. (p.events ++ all_events t.calls) ++ events_of c (begun_log n.number n.log)) (sym p.same.1);
          are_calls =
              subst (λ s. AreCalls s (begun_state n) n.began (call ∷ t.calls)) (sym shape)
              (subst (λ (l : LocalState). AreCalls s l n.began (call ∷ t.calls)) (sym began)
              (subst (λ (g : Lcg). AreCalls s (begun_state k) g (call ∷ t.calls)) (sym same_generator) more_calls));
          each = All-cons (λ (call : Made). 0 < length call.events) call t.calls
              (makes_step work s (state k) k.generator p.events live p.call) t.each;
          generator =
              p.generator
              ∙ ap (λ (l : LocalState). (effort_of s l k.generator p.events).generator) (sym told_state)
              ∙ ap (λ (g : Lcg). (effort_of s (state_after s (begun_state k) (all_events t.calls)) g p.events).generator)
              t.generator
              ∙ sym (ap (λ s. generator_after s (begun_state n) n.began (call ∷ t.calls)) shape
              ∙ ap (λ (l : LocalState). generator_after s l n.began (call ∷ t.calls)) began
              ∙ ap (λ (g : Lcg). generator_after s (begun_state k) g (call ∷ t.calls)) same_generator);
          left =
              left ∙ more_answer
              ∙ sym (ap (λ s. newest_answer s (begun_state n) n.began (call ∷ t.calls)) shape
              ∙ ap (λ (l : LocalState). newest_answer s l n.began (call ∷ t.calls)) began
              ∙ ap (λ (g : Lcg). newest_answer s (begun_state k) g (call ∷ t.calls)) same_generator);
          writes = λ w. let every : s.all_write ≡ true = ap (λ (x : Shape). x.all_write) (sym shape) ∙ w in
              (writes every, t.writes every);
          releases = let all = t.releases in omega arith;
        }

-- ---- a call on an attempt begins none

not_due : (work : Work) (s : Shape) (o : Option Event) (l : LocalState) (f : Effort) (e : Event) → l.phase ≡ Outside →
    IsDue (due (Doing work) s o l f) e → ⊥
not_due work s o l f e out h = let z : IsDue Done e = rw out at h in z

is_not_begin : (k : Kind) → k ≢ Begin → is_begin k ≡ false
is_not_begin Begin h = absurd (h refl)
is_not_begin k h = cc

doing_more : (s : Shape) (work : Work) (gen : Lcg) (c : ℕ) (later before : List Event) → Core s (later ++ before) →
    Obeys (Doing work) s (local s before c) gen (events_of c later) → begun_log c (later ++ before) ≡ begun_log c before
doing_more s work gen c [] before run h = refl
doing_more s work gen c (e ∷ later) before run h =
    let ih = doing_more s work gen c later before run.0 in
    elim (cases_Bool (e.caller == c)) [
      | inl q ↦
          let none : is_begin e.kind ≡ false = is_not_begin e.kind (not_begin s (later ++ before) e run (under q)) in
          rw (q, none) (ih (own q).0)
      | inr q ↦ rw q (ih (subst (λ b. Told (if b then e ∷ events_of c later else events_of c later)) q h))
    ]
  where
    Told : List Event → Type 0
    Told es = Obeys (Doing work) s (local s before c) gen es

    own : e.caller == c ≡ true → Told (e ∷ events_of c later)
    own q = subst (λ b. Told (if b then e ∷ events_of c later else events_of c later)) q h

    under : e.caller == c ≡ true → (local s (later ++ before) e.caller).phase ≢ Outside
    under q out =
        not_due work s (newest_of (events_of c later)) (state_after s (local s before c) (events_of c later))
        (effort_of s (local s before c) gen (events_of c later)) e
        (ap (λ (l : LocalState). l.phase) (sym (own_state s c later before)
        ∙ ap (local s (later ++ before)) (sym (eqb-true e.caller c q))) ∙ out) (own q).1

-- so the last Begin stays
pub doing_keeps : {L : Type 0} {holds : L → List Val → Type 0} {work : Work} {k n : Called L} {again : Option Again} →
    Performs holds (Doing work) k n again → begun_log n.number n.log ≡ begun_log k.number k.log
doing_keeps {work = work} {k = k} {n = n} p =
    let events : events_of k.number p.seen.later ≡ p.events = own_later k.number k.log n.log p.events p.seen p.own in
    ap (λ c. begun_log c n.log) p.same.1
    ∙ subst (λ xs. begun_log k.number xs ≡ begun_log k.number k.log) p.seen.whole
    (doing_more (shape_of k) work k.generator k.number p.seen.later k.log
    (subst (Core (shape_of k)) (sym p.seen.whole) p.run.run.core)
    (subst (Obeys (Doing work) (shape_of k) (state k) k.generator) (sym events) p.call.obeys))
