-- What calls on an attempt that began as the oldest answer.
use Rattle.std.proofs.Common.{◌++◌, ◌==◌, ◌&&◌, ◌||◌, ◌∙◌, ◌∷◌, ◌≡◌, ◌≢◌, ◌⊎◌, List, Option, None, Some, [], ap, false, if◌then◌else◌, inl, inr, not, refl, subst, sym, true, ℕ}
use Rattle.dstm_core.proofs.Base.{AllowedAs, Core, Event, LocalState, StatusWord, after, at, cases_Bool, events_of, given, is_outside, local, or_cases, own_attempt, place}
use Rattle.dstm_core.proofs.Pasts.{core_past}
use Rattle.dstm_order.proofs.Base.{Begin, Doing, Effort, Greedy, IsCall, IsDue, Kind, Lcg, Outside, Paused, Quit, Shape, Work, answer, answer_of, cause, due, effort_after, effort_of, has_quit, is_quit, newest_of, next_or_first, no_effort, stale_object, state_after}
use Rattle.dstm_order.specs.declared.again.Again.{Again}
use Rattle.dstm_order.specs.declared.again.Again.TheVariants.{Killed, Lost, Stale, Waited}
use Rattle.dstm_progress.specs.Alone.{AreCalls, Made, all_events, generator_after}
use Rattle.dstm_progress.specs.Oldest.{IsOldest, OldestAnswers}
use Rattle.dstm_progress.proofs.Calls.{append_assoc_events, inside_phase, left_by, newest_no_quit, nothing_due, quit_not_due}
use Rattle.dstm_progress.proofs.Oldest.{Safe, stays_safe}
use Rattle.dstm_progress.proofs.Own.{AreAllowed, allowed_split, call_begun, calls_begun, newest_own, own_allowed, own_state, state_both}
use Rattle.dstm_core.proofs.Underway.{is_outside_now}
use Rattle.dstm_progress.proofs.Writers.{never_stale}

-- ---- the answer of a call, by its newest event

-- a call after whose events the attempt is under way, or has committed, answers nothing
pub none_inside : (w : Work) (n : Option Event) (l : LocalState) (f : Effort) (a : Again) → l.phase ≢ Outside →
    answer (Doing w) n l f ≡ Some a → ⊥
none_inside w n l f a i q = let x : None ≡ Some a = rw (inside_phase l.phase i) at q in cc

pub none_committed : (w : Work) (n : Option Event) (l : LocalState) (f : Effort) (a : Again) →
    l.committed ≡ true → answer (Doing w) n l f ≡ Some a → ⊥
none_committed w n l f a c q = elim (cases_Bool (is_outside l.phase)) [
  | inl o ↦ let x : None ≡ Some a = rw (o, c) at q in cc
  | inr o ↦ let x : None ≡ Some a = rw o at q in cc
]

pub some_cause : (w : Work) (n : Option Event) (l : LocalState) (f : Effort) (a : Again) →
    answer (Doing w) n l f ≡ Some a → cause n l f ≡ a
some_cause w n l f a q = elim (cases_Bool (is_outside l.phase && not l.committed)) [
  | inl o ↦ let x : Some (cause n l f) ≡ Some a = rw o at q in cc
  | inr o ↦ absurd (let x : None ≡ Some a = rw o at q in cc)
]

pub quit_is : {k : Kind} → k ≡ Quit → is_quit k ≡ true
quit_is {k = Quit} h = refl
quit_is h = absurd (cc)

-- an attempt that quit, where a read was found stale or too many exchanges failed
quit_cause : (e : Event) (l : LocalState) (f : Effort) {a : Again} → e.kind ≡ Quit →
    (l.stale ≡ true) ⊎ (f.missed == 64 ≡ true) → cause (Some e) l f ≡ a → (a ≢ Killed) × (a ≢ Waited)
quit_cause e l f {a = a} k h q = go (cases_Bool l.stale) h
  where
    now : (if l.stale then Stale (stale_object l) else if f.missed == 64 then Lost else Waited) ≡ a
    now = rw (quit_is k) at q

    go : (l.stale ≡ true) ⊎ (l.stale ≡ false) → (l.stale ≡ true) ⊎ (f.missed == 64 ≡ true) → (a ≢ Killed) × (a ≢ Waited)
    go (inl y) h = let x : Stale (stale_object l) ≡ a = rw y at now in ((λ z. cc), (λ z. cc))
    go (inr y) (inl z) = absurd (cc)
    go (inr y) (inr z) = let x : Lost ≡ a = rw (y, z) at now in ((λ z. cc), (λ z. cc))

pub quit_keeps : (s : Shape) (l : LocalState) (e : Event) {k : Kind} → k ≡ Quit → (after k s l e).stale ≡ l.stale
quit_keeps s l e {k = Quit} q = refl
quit_keeps s l e q = absurd (cc)

pub quit_effort : (s : Shape) (l : LocalState) (f : Effort) (e : Event) {k : Kind} → k ≡ Quit →
    effort_after k s.manager l f e ≡ f
quit_effort s l f e {k = Quit} q = refl
quit_effort s l f e q = absurd (cc)

-- why a Quit is due
quit_why : (s : Shape) (w : Work) (n : Option Event) (l : LocalState) (f : Effort) (e : Event) → l.phase ≢ Outside →
    l.phase ≢ Paused → IsDue (due (Doing w) s n l f) e → e.kind ≡ Quit → (l.stale ≡ true) ⊎ (f.missed == 64 ≡ true)
quit_why s w n l f e i np d k = elim (cases_Bool (l.stale || (f.missed == 64))) [
  | inl q ↦ or_cases l.stale (f.missed == 64) q
  | inr q ↦
      absurd (quit_not_due (next_or_first n w s.manager l f) e (newest_no_quit n w s.manager l f np)
      (rw (inside_phase l.phase i, q) at d) k)
]

-- a call's newest event, where the attempt is untouched before it
newest_answer : (s : Shape) (w : Work) (n : Option Event) (l : LocalState) (f : Effort) (e : Event)
    (a : Again) → AllowedAs e.kind s l e → l.phase ≢ Outside → l.phase ≢ Paused →
    (e.place ≡ place s (StatusWord (own_attempt s l)) → e.found ≡ given l.phase) → IsDue (due (Doing w) s n l f) e →
    answer (Doing w) (Some e) (after e.kind s l e) (effort_after e.kind s.manager l f e) ≡ Some a →
    (a ≢ Killed) × (a ≢ Waited)
newest_answer s w n l f e a al i np own d q = elim (is_outside_now (after e.kind s l e).phase) [
  | inl o ↦ left (left_by s l e e.kind al own i o)
  | inr x ↦ absurd (none_inside w (Some e) m h a x q)
]
  where
    m : LocalState
    m = after e.kind s l e

    h : Effort
    h = effort_after e.kind s.manager l f e

    quits : e.kind ≡ Quit → (l.stale ≡ true) ⊎ (f.missed == 64 ≡ true) → (a ≢ Killed) × (a ≢ Waited)
    quits k (inl x) = quit_cause e m h k (inl (quit_keeps s l e k ∙ x)) (some_cause w (Some e) m h a q)
    quits k (inr x) = quit_cause e m h k
        (inr (ap (λ (f : Effort). f.missed == 64) (quit_effort s l f e k)
        ∙ x)) (some_cause w (Some e) m h a q)

    left : (e.kind ≡ Quit) ⊎ ((after e.kind s l e).committed ≡ true) → (a ≢ Killed) × (a ≢ Waited)
    left (inl k) = quits k (quit_why s w n l f e i np d k)
    left (inr c) = absurd (none_committed w (Some e) m h a c q)

-- ---- a call on an attempt that began as the oldest

oldest_newest : {s : Shape} (w : Work) (n : Option Event) (f : Effort) (e : Event) (a : Again) {c : ℕ}
    {es : List Event} → e.caller ≡ c → Core s (e ∷ es) → (local s es c).phase ≢ Outside → Safe s es c →
    IsDue (due (Doing w) s n (local s es c) f) e →
    answer (Doing w) (Some e) (after e.kind s (local s es c) e) (effort_after e.kind s.manager
    (local s es c) f e) ≡ Some a → (a ≢ Killed) × (a ≢ Waited)
oldest_newest {s = s} w n f e a {c = c} {es = es} q core i safe d z =
    newest_answer s w n (local s es c) f e a (subst (λ c. AllowedAs e.kind s
    (local s es c) e) q core.1.allowed) i safe.awake (λ p. core.1.linked ∙ ap (at es) p ∙ safe.status) d z

oldest_events : {s : Shape} (g : Lcg) {w : Work} {events : List Event} (calls : List Made) (later : List Event)
    (begin : Event) (before : List Event) (a : Again) → Core s (later ++ begin ∷ before) → s.manager ≡ Greedy →
    begin.kind ≡ Begin → IsOldest s (begin ∷ before) begin.caller →
    events_of begin.caller later ≡ events ++ all_events calls →
    AreCalls s (local s (begin ∷ before) begin.caller) g calls →
    IsCall (Doing w) s (state_after s (local s (begin ∷ before) begin.caller) (all_events calls))
    (generator_after s (local s (begin ∷ before) begin.caller) g calls) events →
    (state_after s (local s (begin ∷ before) begin.caller) (all_events calls)).phase ≢ Outside →
    answer_of (Doing w) s (state_after s (local s (begin ∷ before) begin.caller) (all_events calls))
    (generator_after s (local s (begin ∷ before) begin.caller) g calls) events ≡ Some a → (a ≢ Killed) × (a ≢ Waited)
oldest_events {s = s} g {w = w} {events = []} calls later begin before a core gm k o own made call live q =
    absurd (none_inside w None (state_after s (local s (begin ∷ before) begin.caller) (all_events calls))
    (no_effort (generator_after s (local s (begin ∷ before) begin.caller) g calls)) a live q)
oldest_events {s = s} g {w = w} {events = (e ∷ rest)} calls later begin before a core gm k o own made call live q =
    let c = begin.caller in
    let first = local s (begin ∷ before) c in
    let st = state_after s first (all_events calls) in
    let g' = generator_after s first g calls in
    let f = effort_of s st g' rest in
    let n = newest_own c later e (rest ++ all_events calls) own in
    let es = n.before ++ begin ∷ before in
    let core' : Core s (e ∷ es) = core_past s n.later (e ∷ es)
    (subst (Core s) (append_assoc_events n.later (e ∷ n.before) (begin ∷ before))
    (subst (λ log. Core s (log ++ begin ∷ before)) n.run core)) in
    let same : local s es c ≡ state_after s st rest = own_state s c n.before (begin ∷ before)
    ∙ ap (state_after s first) n.rest ∙ state_both s first rest (all_events calls) in
    let d : IsDue (due (Doing w) s (newest_of rest) (local s es c) f) e =
    subst (λ m. IsDue (due (Doing w) s (newest_of rest) m f) e) (sym same) call.obeys.1 in
    let i : (local s es c).phase ≢ Outside = λ z. nothing_due w s (newest_of rest) (local s es c) f e z d in
    let allowed = allowed_split s first rest (all_events calls)
    (subst (AreAllowed s first) n.rest (own_allowed s c n.before (begin ∷ before) core'.0)) in
    let begun : (local s es c).begun ≡ first.begun = ap (λ (l : LocalState). l.begun) same
    ∙ call_begun s w st g' rest allowed.0 call.obeys.0 ∙ calls_begun s first g calls allowed.1 made in
    oldest_newest w (newest_of rest) f e a n.own core' i (stays_safe n.before begin before gm core'.0 k o begun i) d
    (subst (λ m. answer (Doing w) (Some e) (after e.kind s m e) (effort_after e.kind s.manager m f e) ≡ Some a)
    (sym same) q)

-- a call of an attempt that is not stale answers no Stale
stale_cause : (n : Option Event) (l : LocalState) (f : Effort) {a : Again} → l.stale ≡ false → cause n l f ≡ a →
    a ≢ Killed → a ≢ Waited → a ≡ Lost
stale_cause n l f {a = a} st q nk nw = go (cases_Bool (has_quit n)) (cases_Bool (f.missed == 64))
  where
    go : (has_quit n ≡ true) ⊎ (has_quit n ≡ false) → (f.missed == 64 ≡ true) ⊎ (f.missed == 64 ≡ false) → a ≡ Lost
    go (inr x) y = absurd (let z : Killed ≡ a = rw x at q in nk (sym z))
    go (inl x) (inl y) = let z : Lost ≡ a = rw (x, st, y) at q in sym z
    go (inl x) (inr y) = absurd (let z : Waited ≡ a = rw (x, st, y) at q in nw (sym z))

pub oldest_answers : OldestAnswers
oldest_answers = λ s g call calls later begin before a core gm k o m q.
    let x = oldest_events g calls later begin before a core gm k o m.own m.made.0 m.made.1 m.live q in
    let first = local s (begin ∷ before) begin.caller in
    let st = state_after s first (all_events calls) in
    let g' = generator_after s first g calls in
    record {
      not_killed = x.0;
      not_waited = x.1;
      writing = λ h. stale_cause (newest_of call.events) (state_after s st call.events)
          (effort_of s st g' call.events)
          (ap (λ (l : LocalState). l.stale) (sym (state_both s first call.events (all_events calls)))
          ∙ never_stale s g (call ∷ calls) later begin before core k m.own m.made h)
          (some_cause call.work (newest_of call.events) (state_after s st call.events)
          (effort_of s st g' call.events) a q) x.0 x.1;
    }
