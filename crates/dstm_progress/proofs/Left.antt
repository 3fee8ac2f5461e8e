-- An attempt that is alone answers only that it gave way for too long.
use Rattle.std.proofs.Common.{◌++◌, ◌∙◌, ◌∷◌, ◌≡◌, ◌≢◌, ◌⊎◌, List, None, Some, [], ap, false, inl, inr, refl, subst, sym, true, ℕ}
use Rattle.dstm_core.proofs.Base.{Core, Event, LocalState, after, local}
use Rattle.dstm_core.proofs.Pasts.{core_past}
use Rattle.dstm_order.proofs.Base.{Doing, Effort, IsDue, Lcg, Obeys, Outside, Quit, Shape, Work, answer, answer_of, cause, due, effort_after, effort_of, newest_of, no_effort, state_after}
use Rattle.dstm_order.specs.declared.again.Again.{Again}
use Rattle.dstm_order.specs.declared.again.Again.TheVariants.{Waited}
use Rattle.dstm_progress.specs.Alone.{AloneAnswers, AreCalls, AreOf, Made, all_events, generator_after}
use Rattle.dstm_progress.proofs.Alone.{Undisturbed, install_succeeds, kill_succeeds, undisturbed_step}
use Rattle.dstm_progress.proofs.Answers.{none_committed, none_inside, quit_effort, quit_is, quit_keeps, some_cause}
use Rattle.dstm_progress.proofs.Calls.{append_assoc_events, are_of_split, begins_undisturbed, left_by, local_after, missed_after, nothing_due, own_status_found}
use Rattle.dstm_core.proofs.Underway.{is_outside_now}

-- an event of an attempt that is alone, where it goes on
inside_step : {s : Shape} {es : List Event} (e : Event) {c : ℕ} (f : Effort) → e.caller ≡ c → Core s (e ∷ es) →
    (local s (e ∷ es) c).phase ≢ Outside → Undisturbed s es c → f.missed ≡ 0 →
    Undisturbed s (e ∷ es) c × ((effort_after e.kind s.manager (local s es c) f e).missed ≡ 0)
inside_step {s = s} {es = es} e {c = c} f q core i u m =
    subst (λ c. (local s (e ∷ es) c).phase ≢ Outside → Undisturbed s es c →
    Undisturbed s (e ∷ es) c × ((effort_after e.kind s.manager (local s es c) f e).missed ≡ 0)) q (λ i u. (
      undisturbed_step e core i u,
      missed_after e.kind s.manager (local s es e.caller) f e (install_succeeds e core u)
          (kill_succeeds e core u) ∙ m,
    )) i u

-- what is known in a call while the attempt is under way
call_inside : {s : Shape} {c : ℕ} (w : Work) (g : Lcg) (events : List Event) {es : List Event} → AreOf c events →
    Core s (events ++ es) → Obeys (Doing w) s (local s es c) g events → Undisturbed s es c →
    (local s (events ++ es) c).phase ≢ Outside →
    Undisturbed s (events ++ es) c × ((effort_of s (local s es c) g events).missed ≡ 0)
call_inside w g [] h core o u i = (u, refl)
call_inside {s = s} {c = c} w g (e ∷ events) {es = es} h core o u i =
    let l = local_after s c events es h.1 in
    let f = effort_of s (local s es c) g events in
    let before = call_inside w g events h.1 core.0 o.0 u
    (λ z. nothing_due w s (newest_of events) (local s (events ++ es) c) f e z
    (subst (λ m. IsDue (due (Doing w) s (newest_of events) m f) e) (sym l) o.1)) in
    subst (λ m. Undisturbed s (e ∷ (events ++ es)) c × ((effort_after e.kind s.manager m f e).missed ≡ 0)) l
    (inside_step e f h.0 core i before.0 before.1)

-- a call after which the attempt is under way began so
call_began : (s : Shape) (w : Work) (l : LocalState) (g : Lcg) (events : List Event) →
    Obeys (Doing w) s l g events → (state_after s l events).phase ≢ Outside → l.phase ≢ Outside
call_began s w l g [] o i = i
call_began s w l g (e ∷ events) o i = call_began s w l g events o.0
    (λ z. nothing_due w s (newest_of events) (state_after s l events) (effort_of s l g events) e z o.1)

calls_inside : {s : Shape} {c : ℕ} (g : Lcg) (calls : List Made) {es : List Event} → AreOf c (all_events calls) →
    Core s (all_events calls ++ es) → AreCalls s (local s es c) g calls → Undisturbed s es c →
    (local s (all_events calls ++ es) c).phase ≢ Outside → Undisturbed s (all_events calls ++ es) c
calls_inside g [] h core o u i = u
calls_inside {s = s} {c = c} g (x ∷ calls) {es = es} h core o u i =
    let parts = are_of_split c x.events (all_events calls) h in
    let whole : (x.events ++ all_events calls) ++ es ≡ x.events ++ (all_events calls ++ es) =
    append_assoc_events x.events (all_events calls) es in
    let log = all_events calls ++ es in
    let core' = subst (Core s) whole core in
    let here = local_after s c (all_events calls) es parts.1 in
    let g' = generator_after s (local s es c) g calls in
    let obeys = subst (λ m. Obeys (Doing x.work) s m g' x.events) (sym here) o.1.obeys in
    let i' = subst (λ xs. (local s xs c).phase ≢ Outside) whole i in
    let began = call_began s x.work (local s log c) g' x.events obeys
    (subst (λ (m : LocalState). m.phase ≢ Outside) (local_after s c x.events log parts.0) i') in
    let before = calls_inside g calls parts.1 (core_past s x.events log core') o.0 u began in
    subst (λ xs. Undisturbed s xs c) (sym whole) (call_inside x.work g' x.events parts.0 core' obeys before i').0

-- an attempt that quits, where nothing was found stale and no exchange failed
quit_waited : (e : Event) (l : LocalState) (f : Effort) {a : Again} → e.kind ≡ Quit → l.stale ≡ false →
    f.missed ≡ 0 → cause (Some e) l f ≡ a → a ≡ Waited
quit_waited e l f {a = a} k st m q = let x : Waited ≡ a = rw (quit_is k, st, m) at q in sym x

last_event : {s : Shape} {es : List Event} (e : Event) {c : ℕ} (w : Work) (f : Effort) (a : Again) →
    e.caller ≡ c → Core s (e ∷ es) → Undisturbed s es c → f.missed ≡ 0 →
    answer (Doing w) (Some e) (after e.kind s (local s es c) e) (effort_after e.kind s.manager
    (local s es c) f e) ≡ Some a → a ≡ Waited
last_event {s = s} {es = es} e {c = c} w f a q core u m z =
    subst (λ c. Undisturbed s es c →
    answer (Doing w) (Some e) (after e.kind s (local s es c) e) (effort_after e.kind s.manager
    (local s es c) f e) ≡ Some a → a ≡ Waited) q own u z
  where
    own : Undisturbed s es e.caller →
        answer (Doing w) (Some e) (after e.kind s (local s es e.caller) e)
        (effort_after e.kind s.manager (local s es e.caller) f e) ≡ Some a → a ≡ Waited
    own u z = elim (is_outside_now (after e.kind s (local s es e.caller) e).phase) [
      | inl o ↦
          left (left_by s (local s es e.caller) e e.kind core.1.allowed
          (own_status_found e core u) u.inside o)
      | inr i ↦ absurd (none_inside w (Some e) l h a i z)
    ]
      where
        l : LocalState
        l = after e.kind s (local s es e.caller) e

        h : Effort
        h = effort_after e.kind s.manager (local s es e.caller) f e

        left : (e.kind ≡ Quit) ⊎ ((after e.kind s (local s es e.caller) e).committed ≡ true) → a ≡ Waited
        left (inl k) = quit_waited e l h k (quit_keeps s (local s es e.caller) e k ∙ u.agreed)
            (ap (λ (f : Effort). f.missed) (quit_effort s (local s es e.caller) f e k) ∙ m)
            (some_cause w (Some e) l h a z)
        left (inr c) = absurd (none_committed w (Some e) l h a c z)

-- a call of an attempt that is alone
last_call : {s : Shape} {c : ℕ} (w : Work) (g : Lcg) (events : List Event) {es : List Event} (a : Again) →
    AreOf c events → Core s (events ++ es) → Obeys (Doing w) s (local s es c) g events → Undisturbed s es c →
    answer_of (Doing w) s (local s es c) g events ≡ Some a → a ≡ Waited
last_call {s = s} {c = c} w g [] {es = es} a h core o u z =
    absurd (none_inside w None (local s es c) (no_effort g) a u.inside z)
last_call {s = s} {c = c} w g (e ∷ events) {es = es} a h core o u z =
    let l = local_after s c events es h.1 in
    let f = effort_of s (local s es c) g events in
    let before = call_inside w g events h.1 core.0 o.0 u
    (λ z. nothing_due w s (newest_of events) (local s (events ++ es) c) f e z
    (subst (λ m. IsDue (due (Doing w) s (newest_of events) m f) e) (sym l) o.1)) in
    last_event e w f a h.0 core before.0 before.1
    (subst (λ m. answer (Doing w) (Some e) (after e.kind s m e) (effort_after e.kind s.manager m f e) ≡ Some a)
    (sym l) z)

pub alone_answers : AloneAnswers
alone_answers = λ s g call calls begin before a h live z.
    let c = begin.caller in
    let es = begin ∷ before in
    let parts = are_of_split c call.events (all_events calls) h.alone in
    let core' = subst (Core s) (append_assoc_events call.events (all_events calls) es) h.core in
    let core = core_past s call.events (all_events calls ++ es) core' in
    let here = local_after s c (all_events calls) es parts.1 in
    let g' = generator_after s (local s es c) g calls in
    let u = calls_inside g calls parts.1 core h.made.0
    (begins_undisturbed s before begin (core_past s (all_events calls) es core) h.begins)
    (subst (λ (m : LocalState). m.phase ≢ Outside) (sym here) live) in
    last_call call.work g' call.events a parts.0 core'
    (subst (λ m. Obeys (Doing call.work) s m g' call.events) (sym here) h.made.1.obeys) u
    (subst (λ m. answer_of (Doing call.work) s m g' call.events ≡ Some a) (sym here) z)
