-- The steps of an attempt that is alone are at most the prices of its calls, and four.
use Rattle.std.proofs.Common.{◌++◌, ◌+◌, ◌∙◌, ◌∷◌, ◌≡◌, ◌≢◌, ◌≤◌, ◌⊎◌, List, Option, None, Some, [], ap, arith, false, inl, inr, is_some, length, length-append, refl, subst, sym, true, ℕ}
use Rattle.dstm_core.proofs.Base.{Core, Event, LocalState, Val, after, local}
use Rattle.dstm_core.proofs.Static.{local_own, static}
use Rattle.dstm_core.proofs.Pasts.{core_past}
use Rattle.dstm_order.proofs.Base.{Committing, Doing, Done, Due, Effort, IsCall, IsDue, Lcg, Manager, Obeys, Outside, Paused, Reading, Rechecking, Releasing, Running, Shape, Work, Writing, at_first, due, due_after, effort_after, effort_of, in_resolving, is_open, newest_of, next_or_first, no_effort, state_after, when_passed, when_resolved}
use Rattle.dstm_progress.specs.Alone.{AloneBound, AloneEnds, AreCalls, AreOf, IsUnmet, Made, all_events, generator_after, price, prices}
use Rattle.dstm_progress.proofs.Alone.{Undisturbed, install_succeeds, kill_succeeds}
use Rattle.dstm_progress.proofs.Calls.{GoesOn, IsFresh, append_assoc_events, are_of_split, begins_awake, begins_undisturbed, calls_go, due_next, fresh_begin, goes_on_step, local_after, missed_after, no_pause_due, no_quit_due, nothing_due, own_status_found, unmet_more}
use Rattle.dstm_progress.proofs.Room.{Blank, Stage, Still, base, closes, drawing, ended, installing, numbering, opening, owning, passed, passing, puts_left, putting, releasing, resolving, tail, validating}
use Rattle.dstm_order.proofs.Rows.{checking_by, pass_by, putting_by, resolves_by, resolving_by}
use Rattle.dstm_order.proofs.EnemyRanks.{found_is_rank}
use Rattle.dstm_progress.proofs.Stages.{Facts, stage_step}

-- ---- a call begins and ends at rest

-- between calls
pub record AtRest (l : LocalState) : Type 0 where
  pub still : Still l
  pub blank : Blank l

-- what a call may cost: three steps more for a commit
abbrev pub cost : Manager → Work → ℕ
cost m (Committing value) = 3
cost m w = price m w

first_stage : (s : Shape) (w : Work) {l : LocalState} (f : Effort) → AtRest l →
    Stage s w l f (at_first w l) (cost s.manager w)
first_stage s (Reading o) f r = opening refl o refl r.still (λ q. (r.blank q).0) (omega arith)
first_stage s (Writing o) f r = opening refl o refl r.still (λ q. (r.blank q).0) (omega arith)
first_stage s (Releasing o) f r = releasing refl o refl r.still r.blank (omega arith)
first_stage s Rechecking f r = numbering refl refl r.still r.blank (omega arith)
first_stage s (Committing v) f r = putting refl v refl refl (λ q. (r.blank q).0) (omega arith)

-- an event is due
abbrev pub IsStep : Due → Type 0
IsStep d = d ≢ Done

resolved_due : (w : Work) → is_open w ≡ true → IsStep (when_resolved w)
resolved_due (Reading o) h q = cc
resolved_due (Writing o) h q = cc
resolved_due (Releasing o) h q = cc
resolved_due Rechecking h q = cc
resolved_due (Committing v) h q = cc

resolving_due : (m : Manager) (w : Work) (l : LocalState) (f : Effort) → is_open w ≡ true → l.phase ≡ Running →
    IsStep (in_resolving m l f (when_resolved w))
resolving_due m w l f op ph =
    resolving_by IsStep m l f (when_resolved w) (resolves_by IsStep (λ k _ q. cc)) (λ q. absurd (cc)) (resolved_due w op)

some_not_none : {o : Option ℕ} → is_some o ≡ true → o ≡ None → ⊥
some_not_none {o = None} h q = cc
some_not_none {o = (Some n)} h q = cc

stage_done : {s : Shape} {w : Work} {l : LocalState} {f : Effort} {d : Due} {n : ℕ} → Stage s w l f d n →
    d ≡ Done → AtRest l × (closes w ≡ false)
stage_done (opening op o h st un rm) z = absurd (cc)
stage_done {s = s} {w = w} {l = l} {f = f} (resolving op h st un rm) z =
    absurd (resolving_due s.manager w l f op st.phase (sym h
    ∙ z))
stage_done (owning op h st un rm) z = absurd (cc)
stage_done (installing op h st un rm) z = absurd (cc)
stage_done (numbering cl h st bl rm) z = absurd (cc)
stage_done {l = l} (passing cl h st ps rm) z = absurd (pass_by IsStep l (λ q. cc) (λ q. cc) (sym h ∙ z))
stage_done (passed cl h st lp rm) z = (record { still = st; blank = λ q. absurd (some_not_none lp q) }, cl)
stage_done (releasing cl o h st bl rm) z = absurd (cc)
stage_done (ended cl h st bl) z = (record { still = st; blank = bl }, cl)
stage_done {l = l} {n = n} (putting cl v wv h un rm) z =
    absurd (putting_by IsStep v l (λ q. cc) (λ n q. cc) (λ n q. cc) (sym h ∙ z))
stage_done (validating cl h un rm) z = absurd (cc)
stage_done {l = l} (drawing cl h un ck ph rm) z = absurd (checking_by IsStep l (λ q. cc) (λ q. cc) (sym h ∙ z))

-- a stage at which an event is due has room for it
passed_some : (w : Work) (m : Manager) (l : LocalState) (e : Event) → IsDue (when_passed w m l) e → 1 ≤ tail w
passed_some (Reading o) m l e i = omega arith
passed_some (Writing o) m l e i = omega arith
passed_some (Releasing o) m l e i = omega arith
passed_some (Committing v) m l e i = omega arith
passed_some Rechecking m l e i = absurd i

opens_base : (w : Work) → is_open w ≡ true → 1 ≤ base w
opens_base (Reading o) h = omega arith
opens_base (Writing o) h = omega arith
opens_base (Releasing o) h = absurd (cc)
opens_base Rechecking h = absurd (cc)
opens_base (Committing v) h = absurd (cc)

done_due : {d : Due} (e : Event) → d ≡ Done → IsDue d e → ⊥
done_due {d = d} e h i = let x : IsDue Done e = subst (λ d. IsDue d e) h i in x

stage_some : {s : Shape} {w : Work} {l : LocalState} {f : Effort} {d : Due} {n : ℕ} (e : Event) →
    Stage s w l f d n → IsDue d e → 1 ≤ n
stage_some e (opening op o h st un rm) i = omega arith
stage_some {w = w} e (resolving op h st un rm) i = let x = opens_base w op in omega arith
stage_some e (owning op h st un rm) i = omega arith
stage_some e (installing op h st un rm) i = omega arith
stage_some e (numbering cl h st bl rm) i = omega arith
stage_some e (passing cl h st ps rm) i = omega arith
stage_some {s = s} {w = w} {l = l} {d = d} e (passed cl h st lp rm) i =
    let x = passed_some w s.manager l e (subst (λ d. IsDue d e) h i) in omega arith
stage_some e (releasing cl o h st bl rm) i = omega arith
stage_some e (ended cl h st bl) i = absurd (done_due e h i)
stage_some e (putting cl v wv h un rm) i = omega arith
stage_some e (validating cl h un rm) i = omega arith
stage_some e (drawing cl h un ck ph rm) i = omega arith

-- ---- the steps of a call

-- so many of a call's steps were made, and those that are left are enough with them
pub record Spends (s : Shape) (w : Work) (l : LocalState) (f : Effort) (newest : Option Event)
    (most made : ℕ) : Type 0 where
  pub room : ℕ
  pub stage : Stage s w l f (next_or_first newest w s.manager l f) room
  pub enough : room + made + puts_left l ≤ most

facts : {s : Shape} {es : List Event} (e : Event) → Core s (e ∷ es) → IsUnmet s e.caller es →
    Undisturbed s es e.caller → Undisturbed s (e ∷ es) e.caller → Facts s (local s es e.caller) e
facts {s = s} {es = es} e core un u v = record {
  allowed = core.1.allowed;
  inside = λ q. v.inside (ap (λ (l : LocalState). l.phase) (local_own s es e) ∙ q);
  awake = no_pause_due e core un u;
  installs = install_succeeds e core u;
  kills = kill_succeeds e core u;
  own = own_status_found e core u;
  pass = λ n m p q r. u.numbers.last n p q ∙ sym (u.numbers.pass m p r);
  drawn = u.numbers.drawn;
  rank = found_is_rank s es core.0 e.caller;
  written = (static s es core.0 e.caller).written;
}

spend_step : {s : Shape} {es : List Event} (e : Event) {w : Work} {n : Option Event} {f : Effort}
    {most made : ℕ} → Core s (e ∷ es) → IsUnmet s e.caller es → IsDue (due (Doing w) s n (local s es e.caller) f) e →
    Undisturbed s es e.caller → f.missed ≡ 0 → Spends s w (local s es e.caller) f n most made →
    Undisturbed s (e ∷ es) e.caller →
    Spends s w (local s (e ∷ es) e.caller) (effort_after e.kind s.manager (local s es e.caller) f e)
    (Some e) most (made + 1)
spend_step {s = s} {es = es} e {w = w} {n = n} {f = f} {most = most} {made = made} core un i u m sp v =
    let l = local s es e.caller in
    let j = subst (λ d. IsDue d e) (due_next w s n l f u.inside u.agreed m) i in
    let x = stage_step (facts e core un u v) sp.stage j in
    let y : Spends s w (after e.kind s l e) (effort_after e.kind s.manager l f e) (Some e) most (made + 1) =
    record { room = x.room; stage = x.stage; enough = let a = x.falls in let b = sp.enough in omega arith } in
    subst (λ m. Spends s w m (effort_after e.kind s.manager l f e) (Some e) most (made + 1)) (sym (local_own s es e)) y

-- the last step of all
last_step : {s : Shape} {es : List Event} (e : Event) {w : Work} {n : Option Event} {f : Effort}
    {most made : ℕ} → IsDue (due (Doing w) s n (local s es e.caller) f) e → Undisturbed s es e.caller → f.missed ≡ 0 →
    Spends s w (local s es e.caller) f n most made → made + 1 ≤ most
last_step {s = s} {es = es} e {w = w} {n = n} {f = f} i u m sp =
    let l = local s es e.caller in
    let j = subst (λ d. IsDue d e) (due_next w s n l f u.inside u.agreed m) i in
    let x = stage_some e sp.stage j in
    let y = sp.enough in omega arith

-- a call so far: its attempt is under way, or it has committed
abbrev pub CallSpends : Shape → List Event → ℕ → Work → Option Event → Effort → (most made : ℕ) → Type 0
CallSpends s es c w n f most made =
    (Undisturbed s es c × (f.missed ≡ 0) × Spends s w (local s es c) f n most made
    × ((local s es c).phase ≢ Paused))
    ⊎ (((local s es c).phase ≡ Outside) × ((local s es c).committed ≡ true) × (made ≤ most))

call_spend_step : (s : Shape) (es : List Event) (e : Event) (c : ℕ) (w : Work) (n : Option Event) (f : Effort)
    (most made : ℕ) → e.caller ≡ c → Core s (e ∷ es) → IsUnmet s c es →
    IsDue (due (Doing w) s n (local s es c) f) e → CallSpends s es c w n f most made →
    CallSpends s (e ∷ es) c w (Some e) (effort_after e.kind s.manager (local s es c) f e) most (made + 1)
call_spend_step s es e c w n f most made q core un i (inr x) = absurd (nothing_due w s n (local s es c) f e x.0 i)
call_spend_step s es e c w n f most made q core un i (inl x) =
    subst (λ c. IsUnmet s c es → IsDue (due (Doing w) s n (local s es c) f) e → Undisturbed s es c →
    Spends s w (local s es c) f n most made → (local s es c).phase ≢ Paused →
    CallSpends s (e ∷ es) c w (Some e) (effort_after e.kind s.manager (local s es c) f e) most (made + 1)) q
    (λ un i u sp aw. go un i u sp (goes_on_step e core un u aw
    (no_quit_due w s n (local s es e.caller) f e u.inside aw u.agreed x.1 i))) un i x.0 x.2 x.3
  where
    go : IsUnmet s e.caller es → IsDue (due (Doing w) s n (local s es e.caller) f) e →
        Undisturbed s es e.caller → Spends s w (local s es e.caller) f n most made → GoesOn s (e ∷ es) e.caller →
        CallSpends s (e ∷ es) e.caller w (Some e) (effort_after e.kind s.manager (local s es e.caller) f e) most
        (made + 1)
    go un i u sp (inl v) = inl (
      v.0,
      missed_after e.kind s.manager (local s es e.caller) f e (install_succeeds e core u)
          (kill_succeeds e core u) ∙ x.1,
      spend_step e core un i u x.1 sp v.0,
      v.1,
    )
    go un i u sp (inr y) = inr (y.0, y.1, last_step e i u x.1 sp)

call_spends : {s : Shape} {c : ℕ} (w : Work) (g : Lcg) (events : List Event) {es : List Event} → AreOf c events →
    Core s (events ++ es) → IsUnmet s c es → Obeys (Doing w) s (local s es c) g events → Undisturbed s es c →
    AtRest (local s es c) → (local s es c).phase ≢ Paused →
    CallSpends s (events ++ es) c w (newest_of events) (effort_of s (local s es c) g events)
    (cost s.manager w + puts_left (local s es c)) (length events)
call_spends {s = s} w g [] h core un o u r aw = inl (
  u,
  refl,
  record {
    room = cost s.manager w;
    stage = first_stage s w (no_effort g) r;
    enough = omega arith;
  },
  aw,
)
call_spends {s = s} {c = c} w g (e ∷ events) {es = es} h core un o u r aw =
    let l = local_after s c events es h.1 in
    let f = effort_of s (local s es c) g events in
    let most = cost s.manager w + puts_left (local s es c) in
    let before = call_spends w g events h.1 core.0 un o.0 u r aw in
    let x = call_spend_step s (events ++ es) e c w (newest_of events) f most (length events) h.0 core
    (unmet_more s c events es h.1 un) (subst (λ m. IsDue (due (Doing w) s (newest_of events) m f) e)
    (sym l) o.1) before in
    let one : length events + 1 ≡ length (e ∷ events) = omega arith in
    subst (λ k. CallSpends s (e ∷ (events ++ es)) c w (Some e) (effort_after e.kind s.manager (state_after s
    (local s es c) events) f e) most k) one
    (subst (λ m. CallSpends s (e ∷ (events ++ es)) c w (Some e) (effort_after e.kind s.manager m f e) most
    (length events + 1)) l x)

-- ---- the steps of all calls

outside_empty : (s : Shape) (w : Work) (l : LocalState) (g : Lcg) (events : List Event) → l.phase ≡ Outside →
    Obeys (Doing w) s l g events → events ≡ []
outside_empty s w l g [] o h = refl
outside_empty s w l g (e ∷ events) o h = absurd (go events (outside_empty s w l g events o h.0) h.1)
  where
    go : (events : List Event) → events ≡ [] → IsDue (due_after (Doing w) s l g events) e → ⊥
    go [] q i = nothing_due w s None l (no_effort g) e o i
    go (x ∷ xs) q i = cc

cost_price : (m : Manager) (w : Work) → cost m w ≤ price m w + 3
cost_price m (Reading o) = omega arith
cost_price m (Writing o) = omega arith
cost_price m (Releasing o) = omega arith
cost_price m Rechecking = omega arith
cost_price m (Committing v) = omega arith

cost_open : (m : Manager) (w : Work) → closes w ≡ false → cost m w ≡ price m w
cost_open m (Reading o) h = refl
cost_open m (Writing o) h = refl
cost_open m (Releasing o) h = refl
cost_open m Rechecking h = refl
cost_open m (Committing v) h = absurd (cc)

length_both : (xs ys : List Event) → length (xs ++ ys) ≡ length xs + length ys
length_both xs ys = length-append {A = Event} xs ys

-- all calls so far: the attempt is under way between two calls, or it has committed
abbrev pub AllSpend : Shape → List Event → ℕ → (most made : ℕ) → Type 0
AllSpend s es c most made =
    (Undisturbed s es c × AtRest (local s es c) × (made + puts_left (local s es c) ≤ most))
    ⊎ (((local s es c).phase ≡ Outside) × (made ≤ most + 3))

-- behind a call nothing is due
call_done : {s : Shape} (c : ℕ) {w : Work} {g : Lcg} {events : List Event} (es : List Event) → AreOf c events →
    IsCall (Doing w) s (local s es c) g events →
    due (Doing w) s (newest_of events) (local s (events ++ es) c) (effort_of s (local s es c) g events) ≡ Done
call_done {s = s} c {w = w} {g = g} {events = events} es h call =
    ap (λ m. due (Doing w) s (newest_of events) m (effort_of s (local s es c) g events)) (local_after s c events es h)
    ∙ call.done

-- one call more
more_spend : {s : Shape} (c : ℕ) {w : Work} {g : Lcg} {events : List Event} (es : List Event) (most : ℕ)
    (made : List Event) →
    AreOf c events → Core s (events ++ es) → IsUnmet s c es → IsCall (Doing w) s (local s es c) g events →
    AllSpend s es c most (length made) → (all : ℕ) → all ≡ price s.manager w + most →
    AllSpend s (events ++ es) c all (length (events ++ made))
more_spend {s = s} c {w = w} {g = g} {events = events} es most made h core un call (inl x) all q =
    go (call_spends w g events h core un call.obeys x.0 x.1 (λ q. let y = x.1.still.phase in cc))
  where
    both : length (events ++ made) ≡ length events + length made
    both = length_both events made

    go : CallSpends s (events ++ es) c w (newest_of events) (effort_of s (local s es c) g events)
        (cost s.manager w + puts_left (local s es c)) (length events) →
        AllSpend s (events ++ es) c all (length (events ++ made))
    go (inl y) =
        let z = sym (due_next w s (newest_of events) (local s (events ++ es) c) (effort_of s (local s es c) g events)
        y.0.inside y.0.agreed y.1) ∙ call_done c es h call in
        let end = stage_done y.2.stage z in
        let price = cost_open s.manager w end.1 in
        let a = y.2.enough in let b = x.2 in let d = both in
        inl (y.0, end.0, omega arith)
    go (inr y) =
        let price = cost_price s.manager w in
        let a = y.2 in let b = x.2 in let d = both in
        inr (y.0, omega arith)
more_spend {s = s} c {w = w} {g = g} {events = events} es most made h core un call (inr x) all q =
    let none = outside_empty s w (local s es c) g events x.0 call.obeys in
    let b = x.1 in
    let d : length (events ++ made) ≡ length made = ap (λ xs. length (xs ++ made)) none in
    inr (ap (λ xs. (local s (xs ++ es) c).phase) none ∙ x.0, omega arith)

all_spend : {s : Shape} {c : ℕ} (g : Lcg) (calls : List Made) {es : List Event} → AreOf c (all_events calls) →
    Core s (all_events calls ++ es) → IsUnmet s c es → AreCalls s (local s es c) g calls → Undisturbed s es c →
    AtRest (local s es c) →
    AllSpend s (all_events calls ++ es) c (prices s.manager calls + puts_left (local s es c)) (length
    (all_events calls))
all_spend g [] h core un o u r = inl (u, r, omega arith)
all_spend {s = s} {c = c} g (x ∷ calls) {es = es} h core un o u r =
    let parts = are_of_split c x.events (all_events calls) h in
    let whole : (x.events ++ all_events calls) ++ es ≡ x.events ++ (all_events calls ++ es) =
    append_assoc_events x.events (all_events calls) es in
    let core' = subst (Core s) whole core in
    let here = local_after s c (all_events calls) es parts.1 in
    let g' = generator_after s (local s es c) g calls in
    subst (λ xs. AllSpend s xs c (price s.manager x.work + prices s.manager calls + puts_left (local s es c))
    (length (x.events ++ all_events calls))) (sym whole)
    (more_spend c (all_events calls ++ es) (prices s.manager calls + puts_left (local s es c))
    (all_events calls) parts.0 core' (unmet_more s c (all_events calls) es parts.1 un)
    (subst (λ m. IsCall (Doing x.work) s m g' x.events) (sym here) o.1)
    (all_spend g calls parts.1 (core_past s x.events (all_events calls ++ es) core') un o.0 u r)
    (price s.manager x.work + prices s.manager calls + puts_left (local s es c)) (omega arith))

-- the state after a Begin is at rest, and has nothing to put
begins_at_rest : {l : LocalState} → IsFresh l → AtRest l × (puts_left l ≡ 0)
begins_at_rest f = (
  record {
    still = record { phase = f.phase; written = f.written.0; high = f.written.1 };
    blank = λ q. (f.reads, f.resolution);
  },
  rw (f.writes, f.written.0, f.written.1) refl,
)

pub alone_is_bounded : AloneBound
alone_is_bounded = λ s g calls begin before h un.
    let es = begin ∷ before in
    let core = core_past s (all_events calls) es h.core in
    let fresh : IsFresh (local s es begin.caller) = subst IsFresh (sym (local_own s before begin))
    (fresh_begin s (local s before begin.caller) begin h.begins) in
    let rest = begins_at_rest fresh in
    let x = all_spend g calls h.alone h.core (unmet s begin before un) h.made
    (begins_undisturbed s before begin core h.begins) rest.0 in
    go s calls begin before rest.1 x
  where
    unmet : (s : Shape) (begin : Event) (before : List Event) → IsUnmet s begin.caller before →
        IsUnmet s begin.caller (begin ∷ before)
    unmet s begin before (inl g) = inl g
    unmet s begin before (inr k) = inr (refl, k)

    go : (s : Shape) (calls : List Made) (begin : Event) (before : List Event) →
        puts_left (local s (begin ∷ before) begin.caller) ≡ 0 →
        AllSpend s (all_events calls ++ begin ∷ before) begin.caller
        (prices s.manager calls + puts_left (local s (begin ∷ before) begin.caller)) (length (all_events calls)) →
        1 + length (all_events calls) ≤ prices s.manager calls + 4
    go s calls begin before z (inl x) = let y = x.2 in omega arith
    go s calls begin before z (inr x) = let y = x.1 in omega arith

-- ---- a commit ends an attempt that is alone

closes_commit : {w : Work} (v : ℕ → Val) → w ≡ Committing v → closes w ≡ false → ⊥
closes_commit {w = w} v q h = let x : closes (Committing v) ≡ false = subst (λ w. closes w ≡ false) q h in cc

commit_ends : {s : Shape} {c : ℕ} {w : Work} (v : ℕ → Val) {g : Lcg} {events es : List Event} → w ≡ Committing v →
    AreOf c events → Core s (events ++ es) → IsUnmet s c es → IsCall (Doing w) s (local s es c) g events →
    Undisturbed s es c → AtRest (local s es c) → (local s (events ++ es) c).committed ≡ true
commit_ends {s = s} {c = c} {w = w} v {g = g} {events = events} {es = es} wv h core un call u r =
    go (call_spends w g events h core un call.obeys u r (λ q. let y = r.still.phase in cc))
  where
    go : CallSpends s (events ++ es) c w (newest_of events) (effort_of s (local s es c) g events)
        (cost s.manager w + puts_left (local s es c)) (length events) → (local s (events ++ es) c).committed ≡ true
    go (inl y) =
        let z = sym (due_next w s (newest_of events) (local s (events ++ es) c) (effort_of s (local s es c) g events)
        y.0.inside y.0.agreed y.1) ∙ call_done c es h call in
        absurd (closes_commit v wv (stage_done y.2.stage z).1)
    go (inr y) = y.1

pub alone_ends : AloneEnds
alone_ends = λ s g call calls begin before v h un wv.
    let c = begin.caller in
    let es = begin ∷ before in
    let log = all_events calls ++ es in
    let parts = are_of_split c call.events (all_events calls) h.alone in
    let whole = append_assoc_events call.events (all_events calls) es in
    let core' = subst (Core s) whole h.core in
    let core = core_past s call.events log core' in
    let first = core_past s (all_events calls) es core in
    let un' = unmet s begin before un in
    let here = local_after s c (all_events calls) es parts.1 in
    let g' = generator_after s (local s es c) g calls in
    let fresh : IsFresh (local s es c) =
    subst IsFresh (sym (local_own s before begin)) (fresh_begin s (local s before c) begin h.begins) in
    let rest = begins_at_rest fresh in
    let begins = begins_undisturbed s before begin first h.begins in
    let made = subst (λ m. IsCall (Doing call.work) s m g' call.events) (sym here) h.made.1 in
    subst (λ xs. (local s xs c).committed ≡ true) (sym whole)
    (go s c call.work v g' call.events log wv parts.0 core' (unmet_more s c (all_events calls) es parts.1 un') made
    (calls_go s c g calls es parts.1 core un' h.made.0 (inl (begins, begins_awake s before begin h.begins)))
    (all_spend g calls parts.1 core un' h.made.0 begins rest.0))
  where
    unmet : (s : Shape) (begin : Event) (before : List Event) → IsUnmet s begin.caller before →
        IsUnmet s begin.caller (begin ∷ before)
    unmet s begin before (inl g) = inl g
    unmet s begin before (inr k) = inr (refl, k)

    go : (s : Shape) (c : ℕ) (w : Work) (v : ℕ → Val) (g : Lcg) (events es : List Event) → w ≡ Committing v →
        AreOf c events → Core s (events ++ es) → IsUnmet s c es → IsCall (Doing w) s (local s es c) g events →
        GoesOn s es c → {most made : ℕ} → AllSpend s es c most made → (local s (events ++ es) c).committed ≡ true
    go s c w v g events es wv h core un call (inl x) (inl y) = commit_ends v wv h core un call y.0 y.1
    go s c w v g events es wv h core un call (inl x) (inr y) = absurd (x.0.inside y.0)
    go s c w v g events es wv h core un call (inr x) y =
        ap (λ xs. (local s (xs ++ es) c).committed) (outside_empty s w (local s es c) g events x.0 call.obeys)
        ∙ x.1
