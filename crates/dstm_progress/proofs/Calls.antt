-- A call on an attempt that is alone leaves it only by its commit.
use Rattle.std.proofs.Common.{◌++◌, ◌-◌, ◌/◌, ◌<◌, ◌==◌, ◌∙◌, ◌∷◌, ◌≡◌, ◌≢◌, ◌⊎◌, List, Option, None, Some, [], ap, arith, false, inl, inr, is_some, length, refl, subst, sym, true, ℕ}
use Rattle.dstm_core.proofs.Base.{AllowedAs, Core, Event, LocalState, StatusWord, after, at, cond_both, eq-eqb, given, is_live, is_outside, local, or_unresolved, or_zero, own_attempt, place, res, word}
use Rattle.dstm_core.proofs.Basic.{Names, OwnerIs, basic, res_known}
use Rattle.dstm_core.proofs.Places.{put_at}
use Rattle.dstm_core.proofs.Static.{has_owner, local_own, local_other}
use Rattle.dstm_core.proofs.Pasts.{core_past}
use Rattle.dstm_core.proofs.Statuses.{begin_put}
use Rattle.dstm_opacity.proofs.Versions.{owner_of, status_of}
use Rattle.dstm_order.proofs.Base.{Begin, Commit, Doing, Done, Draw, Due, Effort, Greedy, Install, IsDue, Kill, Kind, Lcg, LookObj, LookSelf, LookStatus, Manager, Obeys, Outside, Pause, Paused, Phase, PutHigh, PutNew, Putting, Quit, Resume, Running, Shape, Step, ToValidating, Validating, Work, due, effort_after, effort_of, is_paused, newest_of, next_or_first, state_after, when_resolved}
use Rattle.dstm_progress.specs.Alone.{AloneCommits, AreCalls, AreOf, IsAlone, IsUnmet, Made, all_events, generator_after}
use Rattle.dstm_progress.proofs.Alone.{ResNow, Undisturbed, awake_step, install_succeeds, kill_succeeds, now_res, undisturbed_step}
use Rattle.dstm_order.proofs.Rows.{EachStep, is_step, is_test, resolved_by, resolves, resolves_by, resolving_by, table_by}
use Rattle.dstm_core.proofs.Underway.{is_outside_now, live_under_way}
use Rattle.dstm_opacity.proofs.Found.{live_below}
use Rattle.dstm_order.proofs.Misses.{turn_missed}

-- ---- what the table never asks of an attempt that is alone

-- no Quit is due
abbrev pub NoQuit : Due → Type 0
NoQuit (Step k n) = k ≢ Quit
NoQuit Done = Unit {0}

pub quit_not_due : (d : Due) (e : Event) → NoQuit d → IsDue d e → e.kind ≢ Quit
quit_not_due (Step k n) e h q z = h (sym q.0 ∙ z)
quit_not_due Done e h q z = absurd q

pub not_paused : (p : Phase) → p ≢ Paused → is_paused p ≡ false
not_paused Paused h = absurd (h refl)
not_paused p h = refl

pub newest_no_quit : (e : Option Event) (w : Work) (m : Manager) (l : LocalState) (c : Effort) →
    l.phase ≢ Paused → NoQuit (next_or_first e w m l c)
newest_no_quit e w m l c np = table_by NoQuit e w m l c steps
    (resolving_by NoQuit m l c (when_resolved w) (resolves_by NoQuit (λ k q z. let x = ap resolves z in cc)) (λ q. absurd (np q))
    (resolved_by NoQuit w steps)) (λ k q z. let x = ap is_test z in cc)
  where
    steps : EachStep NoQuit w
    steps = record { done = tt; step = λ k n q z. let x = ap is_step z in cc; release = λ o q z. cc }

pub inside_phase : (p : Phase) → p ≢ Outside → is_outside p ≡ false
inside_phase Outside h = absurd (h refl)
inside_phase p h = refl

-- what is due in a call on a live attempt that is not stale, where no exchange has failed
pub due_next : (w : Work) (s : Shape) (e : Option Event) (l : LocalState) (c : Effort) → l.phase ≢ Outside →
    l.stale ≡ false → c.missed ≡ 0 → due (Doing w) s e l c ≡ next_or_first e w s.manager l c
due_next w s e l c i st m = rw (inside_phase l.phase i, st, m) refl

pub no_quit_due : (w : Work) (s : Shape) (n : Option Event) (l : LocalState) (c : Effort) (e : Event) →
    l.phase ≢ Outside → l.phase ≢ Paused → l.stale ≡ false → c.missed ≡ 0 → IsDue (due (Doing w) s n l c) e →
    e.kind ≢ Quit
no_quit_due w s n l c e i np st m q =
    quit_not_due (next_or_first n w s.manager l c) e (newest_no_quit n w s.manager l c np)
    (subst (λ d. IsDue d e) (due_next w s n l c i st m) q)

-- nothing is due once the attempt is left
pub nothing_due : (w : Work) (s : Shape) (n : Option Event) (l : LocalState) (c : Effort) (e : Event) →
    l.phase ≡ Outside → IsDue (due (Doing w) s n l c) e → ⊥
nothing_due w s n l c e o q = let x : IsDue Done e = rw o at q in x

-- ---- how it is left

pub left_by : (s : Shape) (l : LocalState) (e : Event) (k : Kind) → AllowedAs k s l e →
    (e.place ≡ place s (StatusWord (own_attempt s l)) → e.found ≡ given l.phase) → l.phase ≢ Outside →
    (after k s l e).phase ≡ Outside → (k ≡ Quit) ⊎ ((after k s l e).committed ≡ true)
left_by s l e Quit a f i o = inl refl
left_by s l e Commit a f i o = inr (eq-eqb e.found 3 (f a.0 ∙ ap given a.2.0))
left_by s l e Begin a f i o = absurd (cc)
left_by s l e PutHigh a f i o = absurd (cc)
left_by s l e PutNew a f i o = absurd (cc)
left_by s l e Draw a f i o = absurd (cc)
left_by s l e Install a f i o = absurd (i
    (cond_both (e.found == e.expected) _ _ (λ (m : LocalState). m.phase ≡ Outside → l.phase ≡ Outside) (λ _ q. q)
    (λ _ q. q) o))
left_by s l e LookSelf a f i o = absurd (i (rw (eq-eqb e.found (given l.phase) (f a.0)) at o))
left_by s l e ToValidating a f i o = absurd (go a.2.0)
  where
    go : ((l.phase ≡ Running) × (l.writes ≡ [])) ⊎ ((l.phase ≡ Putting) × (l.written ≡ length l.writes)) → ⊥
    go (inl z) = let x : Validating ≡ Outside = rw (eq-eqb e.found 1 (f a.0 ∙ ap given z.0)) at o in cc
    go (inr z) = let x : Validating ≡ Outside = rw (eq-eqb e.found 1 (f a.0 ∙ ap given z.0)) at o in cc
left_by s l e Pause a f i o =
    absurd (let x : Paused ≡ Outside = rw (eq-eqb e.found 1 (f a.0 ∙ ap given a.2.0)) at o in cc)
left_by s l e Resume a f i o =
    absurd (let x : Running ≡ Outside = rw (eq-eqb e.found 2 (f a.0 ∙ ap given a.2.0)) at o in cc)
left_by s l e k a f i o = absurd (i o)

-- ---- no exchange counts as failed

pub missed_after : (k : Kind) (m : Manager) (l : LocalState) (c : Effort) (e : Event) →
    (k ≡ Install → e.found ≡ e.expected) → (k ≡ Kill → e.found ≡ e.expected) →
    (effort_after k m l c e).missed ≡ c.missed
missed_after LookObj m l c e f g = refl
missed_after LookStatus m l c e f g =
    cond_both (is_some (res l).status) _ _ (λ (x : Effort). x.missed ≡ c.missed) (λ _. turn_missed l.phase m l c)
    (λ _. refl)
missed_after Install m l c e f g = rw (eq-eqb e.found e.expected (f refl)) refl
missed_after Kill m l c e f g = rw (eq-eqb e.found e.expected (g refl)) refl
missed_after Pause m l c e f g = refl
missed_after Resume m l c e f g = refl
missed_after k m l c e f g = refl

-- ---- it has no enemy to which it would give way

pause_of : (s : Shape) (l : LocalState) (e : Event) {k : Kind} → k ≡ Pause → AllowedAs k s l e →
    (s.manager ≡ Greedy) × (is_some (res l).owner ≡ true) × (is_live (or_zero (res l).status) ≡ true)
pause_of s l e {k = Pause} q a = (a.2.2, a.2.3, a.2.6)
pause_of s l e q a = absurd (cc)

-- a caller without events is outside
no_events : (s : Shape) (es : List Event) (c d : ℕ) → AreOf c es → c ≢ d → (local s es d).phase ≡ Outside
no_events s [] c d h n = refl
no_events s (e ∷ es) c d h n =
    ap (λ (l : LocalState). l.phase) (local_other s es e d (λ z. n (sym h.0 ∙ z))) ∙ no_events s es c d h.1 n

status_some : (o : Option ℕ) → is_live (or_zero o) ≡ true → o ≡ Some (or_zero o)
status_some None h = absurd (cc)
status_some (Some n) h = refl

pub no_pause_due : {s : Shape} {es : List Event} (e : Event) → Core s (e ∷ es) → IsUnmet s e.caller es →
    Undisturbed s es e.caller → e.kind ≢ Pause
no_pause_due {s = s} {es = es} e core (inl g) u k = g (pause_of s (local s es e.caller) e k core.1.allowed).0
no_pause_due {s = s} {es = es} e core (inr h) u k = go may now r.0
  where
    l : LocalState
    l = local s es e.caller

    may : (s.manager ≡ Greedy) × (is_some (res (local s es e.caller)).owner ≡ true)
        × (is_live (or_zero (res (local s es e.caller)).status) ≡ true)
    may = pause_of s (local s es e.caller) e k core.1.allowed

    now : ResNow s es (own_attempt s (local s es e.caller)) (Some (or_unresolved (local s es e.caller).resolution))
    now = now_res s es (own_attempt s (local s es e.caller)) (local s es e.caller).resolution
        (has_owner (local s es e.caller).resolution may.1) u.resolution

    r : Names s es (res (local s es e.caller)).word
        × OwnerIs s es (res (local s es e.caller)).word (res (local s es e.caller)).owner
    r = res_known s es (local s es e.caller).resolution ((basic s es core.0).res e.caller)

    go : (s.manager ≡ Greedy) × (is_some (res (local s es e.caller)).owner ≡ true)
        × (is_live (or_zero (res (local s es e.caller)).status) ≡ true) →
        ResNow s es (own_attempt s (local s es e.caller)) (Some (or_unresolved (local s es e.caller).resolution)) →
        Names s es (res (local s es e.caller)).word → ⊥
    go may now n = at_name st n
      where
        st : (0 < (res (local s es e.caller)).word)
            × (status_of s es (res (local s es e.caller)).word ≡ or_zero (res (local s es e.caller)).status)
        st = now.2 (or_zero (res (local s es e.caller)).status) (status_some (res
            (local s es e.caller)).status may.2)

        at_name : (0 < (res (local s es e.caller)).word)
            × (status_of s es (res (local s es e.caller)).word ≡ or_zero (res (local s es e.caller)).status) →
            Names s es (res (local s es e.caller)).word → ⊥
        at_name st (inl z) = let x = st.0 in omega arith
        at_name st (inr z) =
            let x = (res (local s es e.caller)).word in
            let owner = (basic s es core.0).owner (x - 1) z.1 in
            let less = live_below (or_zero (res (local s es e.caller)).status) may.2 in
            let live : status_of s es x < 4 = let y = st.1 in omega arith in
            let way = live_under_way core.0 owner.begun live in
            way.0 (no_events s es e.caller (owner_of s es x / s.attempts) h
            (λ q. now.1 st.0 (sym way.1 ∙ ap (λ c. own_attempt s (local s es c)) (sym q))))

-- ---- a step of a call

-- the attempt goes on undisturbed and does not wait, or it has committed
abbrev pub GoesOn : Shape → List Event → ℕ → Type 0
GoesOn s es c =
    (Undisturbed s es c × ((local s es c).phase ≢ Paused))
    ⊎ (((local s es c).phase ≡ Outside) × ((local s es c).committed ≡ true))

pub own_status_found : {s : Shape} {es : List Event} (e : Event) → Core s (e ∷ es) → Undisturbed s es e.caller →
    e.place ≡ place s (StatusWord (own_attempt s (local s es e.caller))) → e.found ≡ given (local s es e.caller).phase
own_status_found {es = es} e core u q = core.1.linked ∙ ap (at es) q ∙ u.status

pub goes_on_step : {s : Shape} {es : List Event} (e : Event) → Core s (e ∷ es) → IsUnmet s e.caller es →
    Undisturbed s es e.caller → (local s es e.caller).phase ≢ Paused → e.kind ≢ Quit → GoesOn s (e ∷ es) e.caller
goes_on_step {s = s} {es = es} e core un u aw nq = go (is_outside_now (local s (e ∷ es) e.caller).phase)
  where
    now : local s (e ∷ es) e.caller ≡ after e.kind s (local s es e.caller) e
    now = local_own s es e

    left : (e.kind ≡ Quit) ⊎ ((after e.kind s (local s es e.caller) e).committed ≡ true) →
        (local s (e ∷ es) e.caller).committed ≡ true
    left (inl q) = absurd (nq q)
    left (inr c) = ap (λ (l : LocalState). l.committed) now ∙ c

    go : ((local s (e ∷ es) e.caller).phase ≡ Outside) ⊎ ((local s (e ∷ es) e.caller).phase ≢ Outside) →
        GoesOn s (e ∷ es) e.caller
    go (inl o) = inr (
      o,
      left (left_by s (local s es e.caller) e e.kind core.1.allowed (own_status_found e core u)
          u.inside (ap (λ (l : LocalState). l.phase) (sym now) ∙ o)),
    )
    go (inr i) = inl (
      undisturbed_step e core i u,
      awake_step s es e core
          (no_pause_due e core un u) aw,
    )

-- ---- a call

-- the state after events of a caller
pub local_after : (s : Shape) (c : ℕ) (events es : List Event) → AreOf c events →
    local s (events ++ es) c ≡ state_after s (local s es c) events
local_after s c [] es h = refl
local_after s c (e ∷ events) es h =
    ap (local s (e ∷ (events ++ es))) (sym h.0) ∙ local_own s (events ++ es) e
    ∙ ap (λ d. after e.kind s (local s (events ++ es) d) e) h.0
    ∙ ap (λ l. after e.kind s l e) (local_after s c events es h.1)

pub are_of_both : (c : ℕ) (events es : List Event) → AreOf c events → AreOf c es → AreOf c (events ++ es)
are_of_both c [] es h k = k
are_of_both c (e ∷ events) es h k = (h.0, are_of_both c events es h.1 k)

pub unmet_more : (s : Shape) (c : ℕ) (events es : List Event) → AreOf c events → IsUnmet s c es →
    IsUnmet s c (events ++ es)
unmet_more s c events es h (inl g) = inl g
unmet_more s c events es h (inr k) = inr (are_of_both c events es h k)

-- a call goes on so far: no exchange has failed while the attempt is under way
abbrev pub GoesSoFar : Shape → List Event → ℕ → Effort → Type 0
GoesSoFar s es c effort =
    (Undisturbed s es c × (effort.missed ≡ 0) × ((local s es c).phase ≢ Paused))
    ⊎ (((local s es c).phase ≡ Outside) × ((local s es c).committed ≡ true))

call_step : (s : Shape) (es : List Event) (e : Event) (c : ℕ) (w : Work) (n : Option Event) (f : Effort) →
    e.caller ≡ c → Core s (e ∷ es) → IsUnmet s c es → IsDue (due (Doing w) s n (local s es c) f) e →
    GoesSoFar s es c f → GoesSoFar s (e ∷ es) c (effort_after e.kind s.manager (local s es c) f e)
call_step s es e c w n f q core un d (inr x) = absurd (nothing_due w s n (local s es c) f e x.0 d)
call_step s es e c w n f q core un d (inl x) =
    subst (λ c. IsUnmet s c es → IsDue (due (Doing w) s n (local s es c) f) e → Undisturbed s es c →
    (local s es c).phase ≢ Paused → GoesSoFar s (e ∷ es) c (effort_after e.kind s.manager (local s es c) f e)) q
    (λ un d u aw. go u (goes_on_step e core un u aw
    (no_quit_due w s n (local s es e.caller) f e u.inside aw u.agreed x.1 d))) un d x.0 x.2
  where
    go : Undisturbed s es e.caller → GoesOn s (e ∷ es) e.caller →
        GoesSoFar s (e ∷ es) e.caller (effort_after e.kind s.manager (local s es e.caller) f e)
    go u (inl y) = inl (
      y.0,
      missed_after e.kind s.manager (local s es e.caller) f e (install_succeeds e core u)
          (kill_succeeds e core u) ∙ x.1,
      y.1,
    )
    go u (inr y) = inr y

pub call_goes : (s : Shape) (c : ℕ) (w : Work) (g : Lcg) (events es : List Event) → AreOf c events →
    Core s (events ++ es) → IsUnmet s c es → Obeys (Doing w) s (local s es c) g events → GoesOn s es c →
    GoesSoFar s (events ++ es) c (effort_of s (local s es c) g events)
call_goes s c w g [] es h core un o (inl u) = inl (u.0, refl, u.1)
call_goes s c w g [] es h core un o (inr x) = inr x
call_goes s c w g (e ∷ events) es h core un o u =
    let l = local_after s c events es h.1 in
    let f = effort_of s (local s es c) g events in
    subst (λ m. GoesSoFar s (e ∷ (events ++ es)) c (effort_after e.kind s.manager m f e)) l
    (call_step s (events ++ es) e c w (newest_of events) f h.0 core (unmet_more s c events es h.1 un)
    (subst (λ m. IsDue (due (Doing w) s (newest_of events) m f) e) (sym l) o.1)
    (call_goes s c w g events es h.1 core.0 un o.0 u))

pub so_far : (s : Shape) (es : List Event) (c : ℕ) (f : Effort) → GoesSoFar s es c f → GoesOn s es c
so_far s es c f (inl x) = inl (x.0, x.2)
so_far s es c f (inr x) = inr x

-- ---- all calls

pub append_assoc_events : (xs ys zs : List Event) → (xs ++ ys) ++ zs ≡ xs ++ (ys ++ zs)
append_assoc_events [] ys zs = refl
append_assoc_events (x ∷ xs) ys zs = ap (λ ws. x ∷ ws) (append_assoc_events xs ys zs)

pub are_of_split : (c : ℕ) (xs ys : List Event) → AreOf c (xs ++ ys) → AreOf c xs × AreOf c ys
are_of_split c [] ys h = (tt, h)
are_of_split c (x ∷ xs) ys h = let r = are_of_split c xs ys h.1 in ((h.0, r.0), r.1)

-- the state after a Begin
pub record IsFresh (l : LocalState) : Type 0 where
  pub phase : l.phase ≡ Running
  pub agreed : l.stale ≡ false
  pub reads : l.reads ≡ []
  pub writes : l.writes ≡ []
  pub written : (l.written ≡ 0) × (l.high_put ≡ false)
  pub resolution : l.resolution ≡ None
  pub last : l.last_pass ≡ None
  pub pass : l.pass ≡ None

pub fresh_begin : (s : Shape) (l : LocalState) (e : Event) {k : Kind} → k ≡ Begin → IsFresh (after k s l e)
fresh_begin s l e {k = Begin} q = record {
  phase = refl;
  agreed = refl;
  reads = refl;
  writes = refl;
  written = (refl, refl);
  resolution = refl;
  last = refl;
  pass = refl;
}
fresh_begin s l e q = absurd (cc)

-- the attempt as it begins
pub begins_undisturbed : (s : Shape) (es : List Event) (e : Event) → Core s (e ∷ es) → e.kind ≡ Begin →
    Undisturbed s (e ∷ es) e.caller
begins_undisturbed s es e core k =
    let now = local_own s es e in
    let new = fresh_begin s (local s es e.caller) e k in
    let put = begin_put s (local s es e.caller) e k core.1.allowed in
    let here : (local s (e ∷ es) e.caller).phase ≡ Running = ap (λ (m : LocalState). m.phase) now ∙ new.phase in
    record {
      inside = λ q. let x = here in cc;
      status = ap (λ (m : LocalState). word s (e ∷ es) (StatusWord (own_attempt s m))) now
          ∙ ap (λ a. word s (e ∷ es) (StatusWord a)) put.3 ∙ put_at es e _ put.0 ∙ put.1 ∙ sym (ap given here);
      agreed = ap (λ (m : LocalState). m.stale) now ∙ new.agreed;
      reads = rw (now, new.reads) tt;
      resolution = rw (now, new.resolution) tt;
      numbers = record {
        last = λ n d q. absurd (let x : None ≡ Some n = sym (ap (λ (m : LocalState). m.last_pass) now
            ∙ new.last) ∙ q in cc);
        pass = λ n d q. absurd (let x : None ≡ Some n = sym (ap (λ (m : LocalState). m.pass) now ∙ new.pass)
            ∙ q in cc);
        drawn = λ n d q. absurd (let x : None ≡ Some n = sym (ap (λ (m : LocalState). m.last_pass) now
            ∙ new.last) ∙ q in cc);
      };
    }

pub calls_go : (s : Shape) (c : ℕ) (g : Lcg) (calls : List Made) (es : List Event) → AreOf c (all_events calls) →
    Core s (all_events calls ++ es) → IsUnmet s c es → AreCalls s (local s es c) g calls → GoesOn s es c →
    GoesOn s (all_events calls ++ es) c
calls_go s c g [] es h core un o u = u
calls_go s c g (x ∷ calls) es h core un o u =
    let parts = are_of_split c x.events (all_events calls) h in
    let whole : (x.events ++ all_events calls) ++ es ≡ x.events ++ (all_events calls ++ es) =
    append_assoc_events x.events (all_events calls) es in
    let core' = subst (Core s) whole core in
    let before = calls_go s c g calls es parts.1 (core_past s x.events (all_events calls ++ es) core') un o.0 u in
    let here = local_after s c (all_events calls) es parts.1 in
    let g' = generator_after s (local s es c) g calls in
    subst (λ xs. GoesOn s xs c) (sym whole) (so_far s (x.events ++ (all_events calls ++ es)) c (effort_of s (local s
    (all_events calls ++ es) c) g' x.events)
    (call_goes s c x.work g' x.events (all_events calls ++ es) parts.0 core' (unmet_more s c
    (all_events calls) es parts.1 un) (subst (λ m. Obeys (Doing x.work) s m g' x.events) (sym here) o.1.obeys) before))

-- it does not wait as it begins
pub begins_awake : (s : Shape) (es : List Event) (e : Event) → e.kind ≡ Begin →
    (local s (e ∷ es) e.caller).phase ≢ Paused
begins_awake s es e k q =
    let x = ap (λ (m : LocalState). m.phase) (local_own s es e)
    ∙ (fresh_begin s (local s es e.caller) e k).phase in
    cc

-- an attempt that is alone goes on undisturbed, or has committed
pub alone_goes : {s : Shape} {g : Lcg} {calls : List Made} {begin : Event} {before : List Event} →
    IsAlone s g calls begin before → IsUnmet s begin.caller before →
    GoesOn s (all_events calls ++ begin ∷ before) begin.caller
alone_goes {s = s} {g = g} {calls = calls} {begin = begin} {before = before} h un =
    calls_go s begin.caller g calls (begin ∷ before) h.alone h.core (unmet un) h.made (inl (
      begins_undisturbed s before begin (core_past s (all_events calls) (begin ∷ before) h.core) h.begins,
      begins_awake s before begin h.begins,
    ))
  where
    unmet : IsUnmet s begin.caller before → IsUnmet s begin.caller (begin ∷ before)
    unmet (inl g) = inl g
    unmet (inr k) = inr (refl, k)

pub alone_is_committed : AloneCommits
alone_is_committed = λ s g calls begin before h un o. go s calls begin before o
    (alone_goes h un)
  where
    go : (s : Shape) (calls : List Made) (begin : Event) (before : List Event) →
        (local s (all_events calls ++ begin ∷ before) begin.caller).phase ≡ Outside →
        GoesOn s (all_events calls ++ begin ∷ before) begin.caller →
        (local s (all_events calls ++ begin ∷ before) begin.caller).committed ≡ true
    go s calls begin before o (inl u) = absurd (u.0.inside o)
    go s calls begin before o (inr x) = x.1
