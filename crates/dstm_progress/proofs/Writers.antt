-- An attempt on which no object is opened for reading reads nothing, so it never becomes stale.
use Rattle.std.proofs.Common.{◌++◌, ◌==◌, ◌||◌, ◌∙◌, ◌∷◌, ◌≡◌, ◌≢◌, ◌⊎◌, Bool, List, Option, None, Some, [], ap, arith, false, inl, inr, is_some, length, refl, subst, sym, true, ℕ}
use Rattle.dstm_core.proofs.Base.{AllowedAs, Core, Event, LocalState, Val, after, cases_Bool, cond_both, drop_read, events_of, is_one_of, keep_resolved, local, nat_tests, or_right, res}
use Rattle.dstm_core.proofs.Static.{local_own}
use Rattle.dstm_core.proofs.Pasts.{core_past}
use Rattle.dstm_order.proofs.Base.{Begin, Check, Commit, Committing, Doing, Done, Draw, Due, Effort, Enrol, Install, IsCall, IsDue, Kind, Lcg, LookNumber, LookObj, LookSelf, Manager, Obeys, Outside, PutHigh, PutNew, PutOld, PutOwner, Quit, Rank, Reading, Rechecking, Release, Releasing, Shape, Stamp, Step, ToValidating, Work, Writing, at_first, due, effort_of, in_putting, in_resolving, is_open, just, newest_of, next, next_or_first, state_after, when_resolved}
use Rattle.dstm_progress.specs.Alone.{AreCalls, Made, all_events}
use Rattle.dstm_progress.specs.Oldest.{IsNoReading, OpensToWrite}
use Rattle.dstm_progress.proofs.Bound.{IsStep}
use Rattle.dstm_progress.proofs.Calls.{inside_phase, nothing_due}
use Rattle.dstm_progress.proofs.Own.{AreAllowed, allowed_split, own_allowed, state_both}
use Rattle.dstm_order.proofs.Rows.{is_resolving, next_resolving, resolves, resolves_by, checking_by, checks_by, giving_way_by, pass_by, passed_by, put_by, putting_by, resolving_by}
use Rattle.dstm_core.proofs.Untouched.{reads_stay, unlooked}
use Rattle.dstm_core.proofs.Enrolment.{number_kept}

-- ---- which events are due while an object is resolved

-- events before which the resolution is dropped, where nothing is read
abbrev pub is_calm : Kind → Bool
is_calm = is_one_of (LookNumber ∷ LookSelf ∷ Rank ∷ PutHigh ∷ PutNew ∷ ToValidating ∷ Draw ∷ Commit ∷ [])

abbrev pub NotCalm : Due → Type 0
NotCalm (Step k o) = is_calm k ≡ false
NotCalm Done = Unit {0}

not_calm : (d : Due) (e : Event) → NotCalm d → IsDue d e → is_calm e.kind ≡ true → ⊥
not_calm (Step k o) e h i q = let x : is_calm e.kind ≡ is_calm k = ap is_calm i.0 in cc
not_calm Done e h i q = i

resolves_busy : (k : Kind) → resolves k ≡ true → is_calm k ≡ false
resolves_busy LookNumber q = absurd (cc)
resolves_busy k q = cc

resolved_busy : (w : Work) → ((o : ℕ) → w ≢ Reading o) → NotCalm (when_resolved w)
resolved_busy (Reading o) h = absurd (h o refl)
resolved_busy (Writing o) h = refl
resolved_busy (Releasing o) h = tt
resolved_busy Rechecking h = tt
resolved_busy (Committing v) h = tt

resolving_busy : (m : Manager) (l : LocalState) (f : Effort) (d : Due) → NotCalm d → NotCalm (in_resolving m l f d)
resolving_busy m l f d h =
    resolving_by NotCalm m l f d (resolves_by NotCalm resolves_busy) (λ _. giving_way_by NotCalm l f refl refl refl) h

-- after these the object is being resolved, or installed
abbrev pub is_busy : Kind → Bool
is_busy k = is_resolving k || is_one_of (PutOwner ∷ PutOld ∷ []) k

busy_next : (k : Kind) (e : Event) (w : Work) (m : Manager) (l : LocalState) (f : Effort) → ((o : ℕ) →
    w ≢ Reading o) → is_busy k ≡ true → NotCalm (next k e w m l f)
busy_next PutOwner e w m l f h q = refl
busy_next PutOld e w m l f h q = refl
busy_next k e w m l f h q =
    subst NotCalm (sym (next_resolving k e w m l f (cc))) (resolving_busy m l f (when_resolved w) (resolved_busy w h))

abbrev pub is_busy_now : Option Event → Bool
is_busy_now None = false
is_busy_now (Some e) = is_busy e.kind

-- ---- where an open begins

abbrev pub OpensBusy : Work → Due → Type 0
OpensBusy w (Step k o) = is_busy k ≡ true → is_open w ≡ true
OpensBusy w Done = Unit {0}

opens_busy : (w : Work) (d : Due) (e : Event) → OpensBusy w d → IsDue d e → is_busy e.kind ≡ true → is_open w ≡ true
opens_busy w (Step k o) e h i q = h (ap is_busy (sym i.0) ∙ q)
opens_busy w Done e h i q = absurd i

putting_busy : (w : Work) (v : ℕ → Val) (l : LocalState) → OpensBusy w (in_putting v l)
putting_busy w v l = putting_by (OpensBusy w) v l (λ q. absurd (cc)) (λ n q. absurd (cc)) (λ n q. absurd (cc))

first_busy : (w : Work) (l : LocalState) → OpensBusy w (at_first w l)
first_busy (Reading o) l = λ q. refl
first_busy (Writing o) l = λ q. refl
first_busy (Releasing o) l = λ q. absurd (cc)
first_busy Rechecking l = λ q. absurd (cc)
first_busy (Committing v) l = putting_busy (Committing v) v l

-- after an event at which no object is being resolved
calm_next : (k : Kind) (e : Event) (w : Work) (m : Manager) (l : LocalState) (f : Effort) → is_busy k ≡ false →
    OpensBusy w (next k e w m l f)
calm_next Install e w m l f h =
    cond_both (e.found == e.expected) _ _ (OpensBusy w) (λ _ q. absurd (cc)) (λ _. first_busy w l)
calm_next LookNumber e w m l f h = pass_by (OpensBusy w) l (λ q. absurd (cc)) (λ q. absurd (cc))
calm_next Check e w m l f h = checks_by (OpensBusy w) l.phase l (λ q. absurd (cc)) (λ q. absurd (cc)) (λ q. absurd (cc))
calm_next LookSelf e w m l f h = passed_by (OpensBusy w) w m l tt (λ n q. absurd (cc))
calm_next PutHigh e w m l f h = put_by (OpensBusy w) w l tt (λ q. absurd (cc)) (λ n q. absurd (cc)) (λ n q. absurd (cc))
calm_next PutNew e w m l f h = put_by (OpensBusy w) w l tt (λ q. absurd (cc)) (λ n q. absurd (cc)) (λ n q. absurd (cc))
calm_next ToValidating e w m l f h = λ q. absurd (cc)
calm_next Draw e w m l f h = checking_by (OpensBusy w) l (λ q. absurd (cc)) (λ q. absurd (cc))
calm_next k e w m l f h = first_of (assumption tt, cc)

-- ---- an attempt that reads nothing

-- nothing is read, and nothing is resolved while no object is being resolved, as it is in an open alone
pub record ReadsNothing (w : Work) (n : Option Event) (l : LocalState) : Type 0 where
  pub reads : l.reads ≡ []
  pub agreed : l.stale ≡ false
  pub number : is_some l.number ≡ true
  pub clear : is_busy_now n ≡ false → l.phase ≢ Outside → l.resolution ≡ None
  pub opening : is_busy_now n ≡ true → is_open w ≡ true

due_table : (w : Work) (s : Shape) (n : Option Event) (l : LocalState) (f : Effort) → l.phase ≢ Outside →
    l.stale ≡ false → f.missed == 64 ≡ false → due (Doing w) s n l f ≡ next_or_first n w s.manager l f
due_table w s n l f i st q = rw (inside_phase l.phase i, st, q) refl

due_quit : (w : Work) (s : Shape) (n : Option Event) (l : LocalState) (f : Effort) → l.phase ≢ Outside →
    f.missed == 64 ≡ true → due (Doing w) s n l f ≡ just Quit
due_quit w s n l f i q = rw (inside_phase l.phase i, or_right l.stale (f.missed == 64) q) refl

-- what is due next, where nothing is stale: a Quit, or what the table says
due_or_quit : (s : Shape) (w : Work) (n : Option Event) (l : LocalState) (f : Effort) (e : Event) → l.phase ≢ Outside →
    l.stale ≡ false → IsDue (due (Doing w) s n l f) e → (e.kind ≡ Quit) ⊎ IsDue (next_or_first n w s.manager l f) e
due_or_quit s w n l f e i st d = elim (cases_Bool (f.missed == 64)) [
  | inl q ↦ let x : IsDue (just Quit) e = subst (λ d. IsDue d e) (due_quit w s n l f i q) d in inl x.0
  | inr q ↦ inr (subst (λ d. IsDue d e) (due_table w s n l f i st q) d)
]

-- a calm event is due only where nothing is resolved
calm_clear : {w : Work} {n : Option Event} (m : Manager) {l : LocalState} (f : Effort) (e : Event) →
    ((o : ℕ) → w ≢ Reading o) → l.phase ≢ Outside → ReadsNothing w n l →
    IsDue (next_or_first n w m l f) e → is_calm e.kind ≡ true → l.resolution ≡ None
calm_clear {n = None} m f e h i r d q = r.clear refl i
calm_clear {w = w} {n = (Some x)} m {l = l} f e h i r d q = elim (cases_Bool (is_busy x.kind)) [
  | inl b ↦ absurd (not_calm (next x.kind x w m l f) e (busy_next x.kind x w m l f h b) d q)
  | inr b ↦ r.clear b i
]

-- an object is resolved in an open alone
busy_opens : {w : Work} {n : Option Event} (m : Manager) {l : LocalState} (f : Effort) (e : Event) →
    ReadsNothing w n l → IsDue (next_or_first n w m l f) e → is_busy e.kind ≡ true → is_open w ≡ true
busy_opens {w = w} {n = None} m {l = l} f e r d q = opens_busy w (at_first w l) e (first_busy w l) d q
busy_opens {w = w} {n = (Some x)} m {l = l} f e r d q = elim (cases_Bool (is_busy x.kind)) [
  | inl b ↦ r.opening b
  | inr b ↦ opens_busy w (next x.kind x w m l f) e (calm_next x.kind x w m l f b) d q
]

calm_not_quit : {k : Kind} → k ≡ Quit → is_calm k ≡ true → ⊥
calm_not_quit {k = Quit} q h = cc
calm_not_quit q h = cc

busy_not_quit : {k : Kind} → k ≡ Quit → is_busy k ≡ true → ⊥
busy_not_quit {k = Quit} q h = cc
busy_not_quit q h = cc

reads_after : (s : Shape) (l : LocalState) (e : Event) (k : Kind) → (is_calm k ≡ true → l.resolution ≡ None) →
    l.reads ≡ [] → (after k s l e).reads ≡ []
reads_after s l e Begin c h = refl
reads_after s l e Install c h =
    cond_both (e.found == e.expected) _ _ (λ (m : LocalState). m.reads ≡ [])
    (λ _. ap (drop_read (res l).object) h) (λ _. h)
reads_after s l e LookNumber c h = rw (c refl) h
reads_after s l e Release c h = ap (drop_read e.place) h
reads_after s l e k c h = reads_stay s l e k refl ∙ h

agreed_after : (s : Shape) (l : LocalState) (e : Event) (k : Kind) → AllowedAs k s l e → l.reads ≡ [] →
    l.stale ≡ false → (after k s l e).stale ≡ false
agreed_after s l e Begin a r h = refl
agreed_after s l e LookObj a r h = rw r refl
agreed_after s l e Check a r h = absurd (let x = a.2.2 in let y = ap length r in omega arith)
agreed_after s l e k a r h = grind (arith, nat_tests)

number_after : (s : Shape) (l : LocalState) (e : Event) (k : Kind) → is_some l.number ≡ true →
    is_some (after k s l e).number ≡ true
number_after s l e Enrol h = refl
number_after s l e k h = ap is_some (number_kept s l e k (λ q. cc)) ∙ h

clear_after : (s : Shape) (l : LocalState) (e : Event) (k : Kind) → AllowedAs k s l e → l.reads ≡ [] →
    is_some l.number ≡ true → (is_calm k ≡ true → l.resolution ≡ None) → is_busy k ≡ false →
    (after k s l e).phase ≢ Outside → (after k s l e).resolution ≡ None
clear_after s l e Enrol a r n c b i = absurd (let x = ap is_some a.2 in cc)
clear_after s l e Stamp a r n c b i = absurd (i a.2.0)
clear_after s l e Begin a r n c b i = refl
clear_after s l e Quit a r n c b i = absurd (i refl)
clear_after s l e Check a r n c b i = absurd (let x = a.2.2 in let y = ap length r in omega arith)
clear_after s l e Release a r n c b i = refl
clear_after s l e Install a r n c b i = grind (arith, nat_tests)
clear_after s l e LookNumber a r n c b i = ap keep_resolved (c refl)
clear_after s l e LookSelf a r n c b i = unlooked (λ o. o ≡ None) s l e LookSelf refl refl (c refl)
clear_after s l e ToValidating a r n c b i = unlooked (λ o. o ≡ None) s l e ToValidating refl refl (c refl)
clear_after s l e Rank a r n c b i = c refl
clear_after s l e PutHigh a r n c b i = c refl
clear_after s l e PutNew a r n c b i = c refl
clear_after s l e Draw a r n c b i = c refl
clear_after s l e Commit a r n c b i = absurd (i refl)
clear_after s l e k a r n c b i = absurd (cc)

reads_step : (s : Shape) {w : Work} {n : Option Event} {l : LocalState} (f : Effort) (e : Event) →
    ((o : ℕ) → w ≢ Reading o) → AllowedAs e.kind s l e → ReadsNothing w n l →
    IsDue (due (Doing w) s n l f) e → ReadsNothing w (Some e) (after e.kind s l e)
reads_step s {w = w} {n = n} {l = l} f e h a r d = go (due_or_quit s w n l f e i r.agreed d)
  where
    i : l.phase ≢ Outside
    i = λ z. nothing_due w s n l f e z d

    by : (is_calm e.kind ≡ true → l.resolution ≡ None) → (is_busy e.kind ≡ true → is_open w ≡ true) →
        ReadsNothing w (Some e) (after e.kind s l e)
    by c b = record {
      reads = reads_after s l e e.kind c r.reads;
      agreed = agreed_after s l e e.kind a r.reads r.agreed;
      number = number_after s l e e.kind r.number;
      clear = clear_after s l e e.kind a r.reads r.number c;
      opening = b;
    }

    go : (e.kind ≡ Quit) ⊎ IsDue (next_or_first n w s.manager l f) e → ReadsNothing w (Some e) (after e.kind s l e)
    go (inl q) = by (λ c. absurd (calm_not_quit q c)) (λ b. absurd (busy_not_quit q b))
    go (inr x) = by (calm_clear s.manager f e h i r x) (busy_opens s.manager f e r x)

pub call_reads : (s : Shape) {w : Work} {l : LocalState} (g : Lcg) (events : List Event) → ((o : ℕ) →
    w ≢ Reading o) → AreAllowed s l events → Obeys (Doing w) s l g events → ReadsNothing w None l →
    ReadsNothing w (newest_of events) (state_after s l events)
call_reads s g [] h a o r = r
call_reads s {l = l} g (e ∷ events) h a o r =
    reads_step s (effort_of s l g events) e h a.1 (call_reads s g events h a.0 o.0 r) o.1

-- ---- a call ends with nothing resolved

writes_or_not : (w : Work) → ((o : ℕ) → w ≢ Reading o) → is_open w ≡ true → (when_resolved w ≡ just PutOwner)
writes_or_not (Reading o) h q = absurd (h o refl)
writes_or_not (Writing o) h q = refl
writes_or_not (Releasing o) h q = absurd (cc)
writes_or_not Rechecking h q = absurd (cc)
writes_or_not (Committing v) h q = absurd (cc)

resolving_due : (m : Manager) (l : LocalState) (f : Effort) (d : Due) → IsStep d → IsStep (in_resolving m l f d)
resolving_due m l f d h =
    resolving_by IsStep m l f d (resolves_by IsStep (λ k _ q. cc)) (λ _. giving_way_by IsStep l f (λ q. cc) (λ q. cc) (λ q. cc)) h

busy_due : (k : Kind) (e : Event) (w : Work) (m : Manager) (l : LocalState) (f : Effort) →
    when_resolved w ≡ just PutOwner → is_busy k ≡ true → next k e w m l f ≢ Done
busy_due PutOwner e w m l f h q = λ z. cc
busy_due PutOld e w m l f h q = λ z. cc
busy_due k e w m l f h q =
    subst IsStep (sym (next_resolving k e w m l f (cc)))
    (resolving_due m l f (when_resolved w) (λ z. let x = sym h ∙ z in cc))

-- at its end no object is being resolved
end_clear : (s : Shape) {w : Work} {n : Option Event} {l : LocalState} (f : Effort) → ((o : ℕ) →
    w ≢ Reading o) → ReadsNothing w n l → due (Doing w) s n l f ≡ Done → l.phase ≢ Outside → l.resolution ≡ None
end_clear s {n = None} f h r d i = r.clear refl i
end_clear s {w = w} {n = (Some e)} {l = l} f h r d i = go (cases_Bool (is_busy e.kind))
  where
    table : (f.missed == 64 ≡ true) ⊎ (f.missed == 64 ≡ false) → next e.kind e w s.manager l f ≡ Done
    table (inl q) = absurd (let x : just Quit ≡ Done = sym (due_quit w s (Some e) l f i q) ∙ d in cc)
    table (inr q) = sym (due_table w s (Some e) l f i r.agreed q) ∙ d

    go : (is_busy e.kind ≡ true) ⊎ (is_busy e.kind ≡ false) → l.resolution ≡ None
    go (inl b) = absurd (busy_due e.kind e w s.manager l f (writes_or_not w h (r.opening b)) b
        (table (cases_Bool (f.missed == 64))))
    go (inr b) = r.clear b i

pub no_reading : (w : Work) → IsNoReading w → (o : ℕ) → w ≢ Reading o
no_reading (Reading p) h o q = h
no_reading (Writing p) h o q = cc
no_reading (Releasing p) h o q = cc
no_reading Rechecking h o q = cc
no_reading (Committing v) h o q = cc

-- between calls
pub record Nothing (l : LocalState) : Type 0 where
  pub reads : l.reads ≡ []
  pub agreed : l.stale ≡ false
  pub number : is_some l.number ≡ true
  pub clear : l.phase ≢ Outside → l.resolution ≡ None

-- so a call begins
pub begins_call : {w : Work} {l : LocalState} → Nothing l → ReadsNothing w None l
begins_call n =
    record { reads = n.reads; agreed = n.agreed; number = n.number; clear = λ _. n.clear; opening = λ q. absurd (cc) }

pub call_nothing : {s : Shape} {w : Work} {l : LocalState} {g : Lcg} {events : List Event} → IsNoReading w →
    AreAllowed s l events → IsCall (Doing w) s l g events → Nothing l → Nothing (state_after s l events)
call_nothing {s = s} {w = w} {l = l} {g = g} {events = events} h a call n =
    let r = call_reads s g events (no_reading w h) a call.obeys (begins_call n) in
    record {
      reads = r.reads;
      agreed = r.agreed;
      number = r.number;
      clear = end_clear s (effort_of s l g events)
          (no_reading w h) r call.done;
    }

pub calls_nothing : (s : Shape) {l : LocalState} (g : Lcg) (calls : List Made) → OpensToWrite calls →
    AreAllowed s l (all_events calls) → AreCalls s l g calls → Nothing l → Nothing (state_after s l (all_events calls))
calls_nothing s g [] h a o n = n
calls_nothing s {l = l} g (x ∷ calls) h a o n =
    let parts = allowed_split s l x.events (all_events calls) a in
    subst Nothing (sym (state_both s l x.events (all_events calls))) (call_nothing h.0 parts.0 o.1
    (calls_nothing s g calls h.1 parts.1 o.0 n))

pub begins_nothing : (s : Shape) (l : LocalState) (e : Event) {k : Kind} → k ≡ Begin → AllowedAs k s l e →
    Nothing (after k s l e)
begins_nothing s l e {k = Begin} q a = record { reads = refl; agreed = refl; number = a.2.1; clear = λ _. refl }
begins_nothing s l e q a = absurd (cc)

-- an attempt on which no object is opened for reading never becomes stale
pub never_stale : (s : Shape) (g : Lcg) (calls : List Made) (later : List Event) (begin : Event)
    (before : List Event) → Core s (later ++ begin ∷ before) → begin.kind ≡ Begin →
    events_of begin.caller later ≡ all_events calls → AreCalls s (local s (begin ∷ before) begin.caller) g calls →
    OpensToWrite calls → (state_after s (local s (begin ∷ before) begin.caller) (all_events calls)).stale ≡ false
never_stale s g calls later begin before core k own made h =
    (calls_nothing s g calls h (subst (AreAllowed s (local s (begin ∷ before) begin.caller)) own
    (own_allowed s begin.caller later (begin ∷ before) core)) made (subst Nothing (sym (local_own s before begin))
    (begins_nothing s (local s before begin.caller) begin k
    (core_past s later (begin ∷ before) core).1.allowed))).agreed
