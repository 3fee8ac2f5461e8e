-- Each step of a call on an attempt that is alone leads from one stage of the call to the next.
use Rattle.std.proofs.Common.{◌+◌, ◌-◌, ◌<◌, ◌==◌, ◌&&◌, ◌||◌, ◌∙◌, ◌≡◌, ◌≢◌, ◌≤◌, ◌⊎◌, List, Option, None, Some, [], ap, arith, false, if◌then◌else◌, inl, inr, is_none, is_some, length, nat_lt, refl, subst, sym, true, ℕ}
use Rattle.dstm_core.proofs.Base.{AllowedAs, Event, LocalState, StatusWord, Val, after, and_right, cases_Bool, cond_both, drop_read, eq-eqb, given, install, is_live, is_resolved, ltb-false, ltb-true, nat_tests, next_locator, next_write, or_parts, or_right, or_zero, own_attempt, place, record_resolved, res, version, version_by}
use Rattle.dstm_order.proofs.Base.{Check, Choice, Commit, Committing, Done, Draw, Drawn, Due, Effort, Install, IsDue, IsRank, Kill, Kind, LookHigh, LookNew, LookNumber, LookObj, LookOld, LookOwner, LookRank, LookSelf, LookStatus, Outside, Pause, PutHigh, PutNew, PutOld, Putting, Rank, Read, Reading, Rechecking, Release, Releasing, Resolution, Running, Shape, Step, ToValidating, Validating, Work, Writing, chosen, effort_after, has_ranks, in_checking, in_checks, in_conflict, in_pass, in_putting, in_resolving, is_open, is_same, just, most_turns, next, on_choice, rises, turn_of_conflict, when_passed, when_put, when_resolved}
use Rattle.dstm_managers.specs.declared.decider.Choice.TheVariants.{Kill as ToKill, Wait, GiveWay}
use Rattle.dstm_progress.proofs.Calls.{not_paused}
use Rattle.dstm_progress.proofs.Room.{Blank, NextStage, Stage, Still, Unread, base, closes, conflict_falls, drawing, ended, installing, left_of, looking, looking_done, looking_finished, looking_high, looking_new, looking_owned, looking_ranked, looking_seen, looking_versioned, numbering, one_if, opening, owning, passed, passing, puts_left, putting, releasing, resolving, tail, turns_whole, unchecked, validating}
use Rattle.dstm_core.proofs.Static.{length-snoc}
use Rattle.dstm_core.proofs.Absent.{known_some}

-- what is known of an event of a call on an attempt that is alone
pub record Facts (s : Shape) (l : LocalState) (e : Event) : Type 0 where
  pub allowed : AllowedAs e.kind s l e
  pub inside : (after e.kind s l e).phase ≢ Outside
  pub awake : e.kind ≢ Pause
  pub installs : e.kind ≡ Install → e.found ≡ e.expected
  pub kills : e.kind ≡ Kill → e.found ≡ e.expected
  pub own : e.place ≡ place s (StatusWord (own_attempt s l)) → e.found ≡ given l.phase
  pub pass : (n m : ℕ) → l.phase ≢ Drawn → l.last_pass ≡ Some n → l.pass ≡ Some m → n ≡ m
  pub drawn : (n : ℕ) → l.phase ≡ Drawn → l.last_pass ≡ Some n → l.drawn ≡ Some n
  pub rank : IsRank s.manager (or_zero (res l).rank)
  pub written : l.written ≤ length l.writes

none_some : (o : Option ℕ) → is_none o ≡ true → is_some o ≡ false
none_some None h = refl
none_some (Some n) h = absurd (cc)

-- the due kind
due_kind : {d : Due} (k : Kind) (o : ℕ) (e : Event) → d ≡ Step k o → IsDue d e → e.kind ≡ k
due_kind {d = d} k o e h i = let x : IsDue (Step k o) e = subst (λ d. IsDue d e) h i in x.0

none_due : {d : Due} (e : Event) → d ≡ Done → IsDue d e → ⊥
none_due {d = d} e h i = let x : IsDue Done e = subst (λ d. IsDue d e) h i in x

still_at : {l : LocalState} (m : LocalState) → m.phase ≡ l.phase → m.written ≡ l.written → m.high_put ≡ l.high_put →
    Still l → Still m
still_at m p w h st = record { phase = p ∙ st.phase; written = w ∙ st.written; high = h ∙ st.high }

-- ---- resolving

version_old : (word : ℕ) (st : Option ℕ) (v : ℕ) → or_zero st ≡ 5 → is_none (version_by word st (Some v)) ≡ false
version_old word st v h =
    cond_both (word == 0) _ _ (λ (o : Option ℕ). is_none o ≡ false) (λ _. refl) (λ _.
    cond_both (or_zero st == 4) _ _ (λ (o : Option ℕ). is_none o ≡ false) (λ _. refl)
    (λ _. rw (eq-eqb (or_zero st) 5 h) refl))

value_resolved : (v : Option ℕ) → is_none v ≡ false → (if or_zero v == 0 then is_some v else true) ≡ true
value_resolved None h = absurd (cc)
value_resolved (Some n) h = cond_both (or_zero (Some n) == 0) _ _ (λ b. b ≡ true) (λ _. refl) (λ _. refl)

kill_put : (found expected put : ℕ) → put ≡ (if found == expected then 5 else found) → found ≡ expected → put ≡ 5
kill_put found expected put h q = grind (arith, nat_tests)

-- the reads after the LookNumber of an open
recorded_few : (o : Option Resolution) → length (record_resolved o []) ≤ 1
recorded_few None = omega arith
recorded_few (Some r) =
    cond_both (is_resolved r && true) _ [] (λ (rs : List Read). length rs ≤ 1) (λ _. omega arith) (λ _. omega arith)

unchecked_few : (l : LocalState) (e : Event) (s : Shape) → Unread l → unchecked (after LookNumber s l e) ≤ 1
unchecked_few l e s u = go l.last_pass refl
  where
    go : (o : Option ℕ) → l.last_pass ≡ o → unchecked (after LookNumber s l e) ≤ 1
    go None q = let x = recorded_few l.resolution in
        let y : length (record_resolved l.resolution l.reads) ≡ length (record_resolved l.resolution []) =
        ap (λ rs. length (record_resolved l.resolution rs)) (u q) in rw q (omega arith)
    go (Some n) q = rw q (omega arith)

unchecked_none : (l : LocalState) (e : Event) (s : Shape) → Blank l → unchecked (after LookNumber s l e) ≡ 0
unchecked_none l e s u = go l.last_pass refl
  where
    go : (o : Option ℕ) → l.last_pass ≡ o → unchecked (after LookNumber s l e) ≡ 0
    go None q = rw (q, (u q).0, (u q).1) refl
    go (Some n) q = rw q refl

resolved_step : {s : Shape} (w : Work) {l : LocalState} (f : Effort) (n : ℕ) {e : Event} → Facts s l e →
    is_open w ≡ true → Still l → Unread l → base w ≤ n → IsDue (when_resolved w) e → NextStage s w e l f n e.kind
resolved_step {s = s} (Reading o) {l = l} f n {e = e} fa op st un rm i =
    subst (NextStage s (Reading o) e l f n) (sym i.0) (record {
      room = 2 + unchecked (after LookNumber s l e);
      stage = passing refl refl (still_at _ refl refl refl st) refl (omega arith);
      falls = let x = unchecked_few l e s un in omega arith;
    })
resolved_step {s = s} (Writing o) {l = l} f n {e = e} fa op st un rm i =
    subst (NextStage s (Writing o) e l f n) (sym i.0) (record {
      room = 7;
      stage = owning refl refl (still_at _ refl refl refl st) un (omega arith);
      falls = omega arith;
    })
resolved_step (Releasing o) f n fa op st un rm i = absurd i
resolved_step Rechecking f n fa op st un rm i = absurd i
resolved_step (Committing v) f n fa op st un rm i = absurd i

-- it goes on to resolve its object
more_looks : {s : Shape} {w : Work} {l : LocalState} {f : Effort} {n : ℕ} {e : Event} (k : Kind) → e.kind ≡ k →
    is_open w ≡ true → next k e w s.manager (after k s l e) (effort_after k s.manager l f e)
    ≡ in_resolving s.manager (after k s l e) (effort_after k s.manager l f e) (when_resolved w) →
    Still (after k s l e) → Unread (after k s l e) →
    base w + looking s.manager (res (after k s l e)) (left_of s.manager (effort_after k s.manager l f e)) + 1
    + puts_left (after k s l e) ≤ n + puts_left l → NextStage s w e l f n e.kind
more_looks {s = s} {w = w} {l = l} {f = f} {n = n} {e = e} k is op row st un falls =
    subst (NextStage s w e l f n) (sym is) (record {
      room = base w + looking s.manager (res (after k s l e)) (left_of s.manager (effort_after k s.manager l f e));
      stage = resolving op row st un (omega arith);
      falls = falls;
    })

-- a turn of a conflict
turn_step : {s : Shape} (w : Work) {l : LocalState} (f : Effort) (n : ℕ) {e : Event} → Facts s l e →
    is_open w ≡ true → Still l → Unread l → is_none (res l).owner ≡ false → is_none (res l).status ≡ false →
    has_ranks s.manager && is_none (res l).rank ≡ false → base w + left_of s.manager f + 4 ≤ n →
    (0 < f.left) ⊎ ((f.left ≡ 0) × ((t : ℕ) × (chosen s.manager l f ≡ Wait t))) → e.kind ≡ LookStatus →
    NextStage s w e l f n e.kind
turn_step {s = s} w {l = l} f n {e = e} fa op st un ow ss rk rm t k =
    let same : effort_after LookStatus s.manager l f e ≡ turn_of_conflict s.manager l f =
    rw (known_some (res l).status ss, st.phase) refl in
    let less = conflict_falls s.manager l f fa.rank t in
    let now : left_of s.manager (effort_after LookStatus s.manager l f e) ≡ left_of s.manager
    (turn_of_conflict s.manager l f) = ap (left_of s.manager) same in
    more_looks LookStatus k op refl (still_at _ refl refl refl st) un
    (let x = looking_ranked s.manager (res (after LookStatus s l e)) (left_of s.manager
    (effort_after LookStatus s.manager l f e)) ow refl rk in omega arith)

conflict_step : {s : Shape} (w : Work) {l : LocalState} (f : Effort) (n : ℕ) {e : Event} → Facts s l e →
    is_open w ≡ true → Still l → Unread l → is_none (res l).owner ≡ false → is_none (res l).status ≡ false →
    base w + (if has_ranks s.manager && is_none
    (res l).rank then left_of s.manager f + 5 else left_of s.manager f + 4) ≤ n →
    IsDue (in_conflict s.manager l f) e → NextStage s w e l f n e.kind
conflict_step {s = s} w {l = l} f n {e = e} fa op st un ow ss rm i =
    elim (cases_Bool (has_ranks s.manager && is_none (res l).rank)) [
      | inl q ↦
          let j : IsDue (just LookRank) e = rw q at i in
          let rm' : base w + (left_of s.manager f + 5) ≤ n = rw q at rm in
          more_looks LookRank j.0 op refl (still_at _ refl refl refl st) un
          (let x = looking_ranked s.manager (res (after LookRank s l e)) (left_of s.manager f) ow ss (and_right
          (has_ranks s.manager) false refl) in omega arith)
      | inr q ↦
          let j : IsDue (if nat_lt 0 f.left then just LookStatus else on_choice (chosen s.manager l f)) e = rw q at i in
          let rm' : base w + (left_of s.manager f + 4) ≤ n = rw q at rm in
          at_left q (omega arith) (cases_Bool (nat_lt 0 f.left)) j
    ]
  where
    killed : base w + left_of s.manager f + 4 ≤ n → e.kind ≡ Kill → NextStage s w e l f n e.kind
    killed rm k =
        let a : AllowedAs Kill s l e = subst (λ k. AllowedAs k s l e) k fa.allowed in
        let five : e.put ≡ 5 = kill_put e.found (or_zero (res l).status) e.put a.1.1 (fa.kills k ∙ a.1.0) in
        let same : effort_after Kill s.manager l f e ≡ f = rw (eq-eqb e.found e.expected (fa.kills k)) refl in
        let now : left_of s.manager (effort_after Kill s.manager l f e) ≡ left_of s.manager f =
        ap (left_of s.manager) same in
        more_looks Kill k op refl (still_at _ refl refl refl st) un
        (let x = looking_finished s.manager (res (after Kill s l e)) (left_of s.manager
        (effort_after Kill s.manager l f e)) ow refl (rw five refl) in omega arith)

    at_choice : (c : Choice) → chosen s.manager l f ≡ c → f.left ≡ 0 → base w + left_of s.manager f + 4 ≤ n →
        has_ranks s.manager && is_none (res l).rank ≡ false → IsDue (on_choice c) e → NextStage s w e l f n e.kind
    at_choice ToKill q z rm rk i = killed rm i.0
    at_choice (Wait t) q z rm rk i = turn_step w f n fa op st un ow ss rk rm (inr (z, (t, q))) i.0
    at_choice GiveWay q z rm rk i = absurd (fa.awake i.0)

    at_left : has_ranks s.manager && is_none (res l).rank ≡ false → base w + left_of s.manager f + 4 ≤ n →
        (nat_lt 0 f.left ≡ true) ⊎ (nat_lt 0 f.left ≡ false) →
        IsDue (if nat_lt 0 f.left then just LookStatus else on_choice (chosen s.manager l f)) e →
        NextStage s w e l f n e.kind
    at_left rk rm (inl q) i =
        let j : IsDue (just LookStatus) e = rw q at i in
        turn_step w f n fa op st un ow ss rk rm (inl (ltb-true 0 f.left q)) j.0
    at_left rk rm (inr q) i =
        let j : IsDue (on_choice (chosen s.manager l f)) e = rw q at i in
        at_choice (chosen s.manager l f) refl (let x = ltb-false 0 f.left q in omega arith) rm rk j

resolving_step : {s : Shape} (w : Work) {l : LocalState} (f : Effort) (n : ℕ) {e : Event} → Facts s l e →
    is_open w ≡ true → Still l → Unread l → base w + looking s.manager (res l) (left_of s.manager f) ≤ n →
    IsDue (in_resolving s.manager l f (when_resolved w)) e → NextStage s w e l f n e.kind
resolving_step {s = s} w {l = l} f n {e = e} fa op st un rm i = at_done (cases_Bool (is_resolved (res l)))
    (rw (not_paused l.phase (λ q. let x = st.phase in cc)) at i)
  where
    at_high : is_resolved (res l) ≡ false → is_none (res l).owner ≡ false → is_none (res l).status ≡ false →
        is_live (or_zero (res l).status) ≡ false → is_none (version (res l)) ≡ false →
        (is_none (res l).high ≡ true) ⊎ (is_none (res l).high ≡ false) →
        IsDue (if is_none (res l).high then just LookHigh else just LookNew) e → NextStage s w e l f n e.kind
    at_high a b c d v (inl h) i =
        let j : IsDue (just LookHigh) e = rw h at i in
        let was : looking s.manager (res l) (left_of s.manager f) ≡ 2 = rw (a, b, c, d, v, h) refl in
        more_looks LookHigh j.0 op refl (still_at _ refl refl refl st) un
        (let x = looking_high s.manager (res (after LookHigh s l e)) (left_of s.manager f) b c d v refl in omega arith)
    at_high a b c d v (inr h) i =
        let j : IsDue (just LookNew) e = rw h at i in
        let was : looking s.manager (res l) (left_of s.manager f) ≡ 1 = rw (a, b, c, d, v, h) refl in
        more_looks LookNew j.0 op refl (still_at _ refl refl refl st) un
        (let x = looking_done s.manager (res (after LookNew s l e)) (left_of s.manager f) (value_resolved (version
        (res l)) v) in omega arith)

    at_version : is_resolved (res l) ≡ false → is_none (res l).owner ≡ false → is_none (res l).status ≡ false →
        is_live (or_zero (res l).status) ≡ false →
        (is_none (version (res l)) ≡ true) ⊎ (is_none (version (res l)) ≡ false) →
        IsDue (if is_none (version (res l)) then just LookOld
        else if is_none (res l).high then just LookHigh else just LookNew) e → NextStage s w e l f n e.kind
    at_version a b c d (inl v) i =
        let j : IsDue (just LookOld) e = rw v at i in
        let al : AllowedAs LookOld s l e = subst (λ k. AllowedAs k s l e) j.0 fa.allowed in
        let was : looking s.manager (res l) (left_of s.manager f) ≡ 3 = rw (a, b, c, d, v) refl in
        more_looks LookOld j.0 op refl (still_at _ refl refl refl st) un
        (let x = looking_versioned s.manager (res (after LookOld s l e)) (left_of s.manager f) b c d (version_old
        (res l).word (res l).status e.found al.2.2) in omega arith)
    at_version a b c d (inr v) i = at_high a b c d v (cases_Bool (is_none (res l).high)) (rw v at i)

    at_live : is_resolved (res l) ≡ false → is_none (res l).owner ≡ false → is_none (res l).status ≡ false →
        (is_live (or_zero (res l).status) ≡ true) ⊎ (is_live (or_zero (res l).status) ≡ false) →
        IsDue (if is_live (or_zero (res l).status) then in_conflict s.manager l f
        else if is_none (version (res l)) then just LookOld
        else if is_none (res l).high then just LookHigh else just LookNew) e → NextStage s w e l f n e.kind
    at_live a b c (inl d) i =
        let was : looking s.manager (res l) (left_of s.manager f)
        ≡ (if has_ranks s.manager && is_none (res l).rank then left_of s.manager f + 5 else left_of s.manager f + 4) =
        rw (a, b, c, d) refl in
        conflict_step w f n fa op st un b c (subst (λ k. base w + k ≤ n) was rm) (rw d at i)
    at_live a b c (inr d) i = at_version a b c d (cases_Bool (is_none (version (res l)))) (rw d at i)

    at_status : is_resolved (res l) ≡ false → is_none (res l).owner ≡ false →
        (is_none (res l).status ≡ true) ⊎ (is_none (res l).status ≡ false) →
        IsDue (if is_none (res l).status then just LookStatus
        else if is_live (or_zero (res l).status) then in_conflict s.manager l f
        else if is_none (version (res l)) then just LookOld
        else if is_none (res l).high then just LookHigh else just LookNew) e → NextStage s w e l f n e.kind
    at_status a b (inl c) i =
        let j : IsDue (just LookStatus) e = rw c at i in
        let was : looking s.manager (res l) (left_of s.manager f) ≡ left_of s.manager f + 6 = rw (a, b, c) refl in
        let same : effort_after LookStatus s.manager l f e ≡ f = rw (none_some (res l).status c) refl in
        let now : left_of s.manager (effort_after LookStatus s.manager l f e) ≡ left_of s.manager f =
        ap (left_of s.manager) same in
        more_looks LookStatus j.0 op refl (still_at _ refl refl refl st) un
        (let x = looking_seen s.manager (res (after LookStatus s l e)) (left_of s.manager
        (effort_after LookStatus s.manager l f e)) b refl in omega arith)
    at_status a b (inr c) i = at_live a b c (cases_Bool (is_live (or_zero (res l).status))) (rw c at i)

    at_owner : is_resolved (res l) ≡ false → (is_none (res l).owner ≡ true) ⊎ (is_none (res l).owner ≡ false) →
        IsDue (if is_none (res l).owner then just LookOwner else if is_none (res l).status then just LookStatus
        else if is_live (or_zero (res l).status) then in_conflict s.manager l f
        else if is_none (version (res l)) then just LookOld
        else if is_none (res l).high then just LookHigh else just LookNew) e → NextStage s w e l f n e.kind
    at_owner a (inl b) i =
        let j : IsDue (just LookOwner) e = rw b at i in
        let was : looking s.manager (res l) (left_of s.manager f) ≡ left_of s.manager f + 7 = rw (a, b) refl in
        more_looks LookOwner j.0 op refl (still_at _ refl refl refl st) un
        (let x = looking_owned s.manager (res (after LookOwner s l e)) (left_of s.manager f) refl in omega arith)
    at_owner a (inr b) i = at_status a b (cases_Bool (is_none (res l).status)) (rw b at i)

    at_done : (is_resolved (res l) ≡ true) ⊎ (is_resolved (res l) ≡ false) →
        IsDue (if is_resolved (res l) then when_resolved w else if is_none (res l).owner then just LookOwner
        else if is_none (res l).status then just LookStatus
        else if is_live (or_zero (res l).status) then in_conflict s.manager l f
        else if is_none (version (res l)) then just LookOld
        else if is_none (res l).high then just LookHigh else just LookNew) e → NextStage s w e l f n e.kind
    at_done (inl a) i = resolved_step w f n fa op st un (omega arith) (rw a at i)
    at_done (inr a) i = at_owner a (cases_Bool (is_none (res l).owner)) (rw a at i)

-- ---- the other stages

opens_closes : (w : Work) → is_open w ≡ true → (closes w ≡ false) × (tail w ≡ 1)
opens_closes (Reading o) h = (refl, refl)
opens_closes (Writing o) h = (refl, refl)
opens_closes (Releasing o) h = absurd (cc)
opens_closes Rechecking h = absurd (cc)
opens_closes (Committing v) h = absurd (cc)

opening_step : (s : Shape) (w : Work) {l : LocalState} (f : Effort) (n : ℕ) (e : Event) → is_open w ≡ true →
    Still l → Unread l → base w + 8 + most_turns s.manager ≤ n → e.kind ≡ LookObj → NextStage s w e l f n e.kind
opening_step s w {l = l} f n e op st un rm k =
    let whole = turns_whole s.manager in
    more_looks LookObj k op refl (still_at _ refl refl refl st) un
    (let x = looking_new s.manager (res (after LookObj s l e)) (left_of s.manager
    (effort_after LookObj s.manager l f e)) in omega arith)

owning_step : (s : Shape) (w : Work) {l : LocalState} (f : Effort) (n : ℕ) (e : Event) → is_open w ≡ true →
    Still l → Unread l → 7 ≤ n → e.kind ≡ PutOld → NextStage s w e l f n e.kind
owning_step s w {l = l} f n e op st un rm k = subst (NextStage s w e l f n) (sym k) (record {
  room = 6;
  stage = installing op refl (still_at _ refl refl refl st) un (omega arith);
  falls = omega arith;
})

installing_step : (s : Shape) (w : Work) {l : LocalState} (f : Effort) (n : ℕ) (e : Event) → is_open w ≡ true →
    Still l → Unread l → 6 ≤ n → e.kind ≡ Install → e.found ≡ e.expected → NextStage s w e l f n e.kind
installing_step s w {l = l} f n e op st un rm k ok =
    let c = opens_closes w op in
    let now : after Install s l e ≡ install s l = rw (eq-eqb e.found e.expected ok) refl in
    subst (NextStage s w e l f n) (sym k) (record {
      room = 2 + tail w;
      stage = numbering c.0 (rw (eq-eqb e.found e.expected ok) refl)
          (subst Still (sym now) (still_at _ refl refl refl st))
          (subst Blank (sym now) (λ q. (ap (drop_read (res l).object) (un q), refl))) (omega arith);
      falls = subst (λ m. 2 + tail w + 1 + puts_left m ≤ n + puts_left l) (sym now) (more c.1);
    })
  where
    more : tail w ≡ 1 → 2 + tail w + 1 + puts_left (install s l) ≤ n + puts_left l
    more t =
        let x : length (install s l).writes ≡ length l.writes + 1 = length-snoc l.writes (record {
          object = (res l).object;
          locator = next_locator s l;
          old = or_zero (version (res l));
        }) in
        let y = st.written in let z = ap one_if st.high in omega arith

numbering_step : (s : Shape) (w : Work) {l : LocalState} (f : Effort) (n : ℕ) (e : Event) → closes w ≡ false →
    Still l → Blank l → 2 + tail w ≤ n → e.kind ≡ LookNumber → NextStage s w e l f n e.kind
numbering_step s w {l = l} f n e cl st bl rm k = subst (NextStage s w e l f n) (sym k) (record {
  room = 1 + tail w + unchecked (after LookNumber s l e);
  stage = passing cl refl (still_at _ refl refl refl st) refl (omega arith);
  falls = let x = unchecked_none l e s bl in omega arith;
})

is_same_some : (n m : ℕ) → n ≡ m → is_same (Some n) (Some m) ≡ true
is_same_some n m h = eq-eqb n m h

passing_step : {s : Shape} (w : Work) {l : LocalState} (f : Effort) (n : ℕ) {e : Event} → Facts s l e →
    closes w ≡ false → Still l → is_some l.pass ≡ true → 1 + tail w + unchecked l ≤ n → IsDue (in_pass l) e →
    NextStage s w e l f n e.kind
passing_step {s = s} w {l = l} f n {e = e} fa cl st ps rm i =
    elim (cases_Bool (l.checked == length l.reads || is_same l.last_pass l.pass)) [
      | inl q ↦ let j : IsDue (just LookSelf) e = rw q at i in look j.0
      | inr q ↦
          let j : IsDue (just Check) e = rw q at i in
          check (not_same l.last_pass l.pass refl refl (or_parts _ _ q).1) j.0
    ]
  where
    look : e.kind ≡ LookSelf → NextStage s w e l f n e.kind
    look k =
        let a : AllowedAs LookSelf s l e = subst (λ k. AllowedAs k s l e) k fa.allowed in
        let now : after LookSelf s l e ≡ record l { last_pass = l.pass; pass = None; checked = 0 } =
        rw (eq-eqb e.found (given l.phase) (fa.own a.0)) refl in
        subst (NextStage s w e l f n) (sym k) (record {
          room = tail w;
          stage = passed cl refl (subst Still (sym now) (still_at _ refl refl refl st))
              (subst (λ (m : LocalState). is_some m.last_pass ≡ true) (sym now) ps) (omega arith);
          falls = subst (λ m. tail w + 1 + puts_left m ≤ n + puts_left l) (sym now) (omega arith);
        })

    not_same : (o p : Option ℕ) → l.last_pass ≡ o → l.pass ≡ p → is_same o p ≡ false → is_none o ≡ true
    not_same None p q r z = refl
    not_same (Some a) None q r z = absurd (let x = ap is_some r in cc)
    not_same (Some a) (Some b) q r z = absurd
        (let x = is_same_some a b (fa.pass a b (λ y. let v = st.phase in cc) q r) in cc)

    check : is_none l.last_pass ≡ true → e.kind ≡ Check → NextStage s w e l f n e.kind
    check none k =
        let a : AllowedAs Check s l e = subst (λ k. AllowedAs k s l e) k fa.allowed in
        let was : unchecked l ≡ length l.reads - l.checked = rw none refl in
        let now : unchecked (after Check s l e) ≡ length l.reads - (l.checked + 1) = rw none refl in
        let less = a.2.2 in
        subst (NextStage s w e l f n) (sym k) (record {
          room = 1 + tail w + unchecked (after Check s l e);
          stage = passing cl (ap (λ p. in_checks p (after Check s l e)) st.phase)
              (still_at _ refl refl refl st) ps (omega arith);
          falls = omega arith;
        })

passed_step : (s : Shape) (w : Work) {l : LocalState} (f : Effort) (n : ℕ) (e : Event) → closes w ≡ false → Still l →
    is_some l.last_pass ≡ true → tail w ≤ n → IsDue (when_passed w s.manager l) e → NextStage s w e l f n e.kind
passed_step s w {l = l} f n e cl st lp rm i = go w rm i cl
  where
    at_rank : (w : Work) → closes w ≡ false → 1 ≤ n → e.kind ≡ Rank → NextStage s w e l f n e.kind
    at_rank w cl one k = subst (NextStage s w e l f n) (sym k) (record {
      room = 0;
      stage = ended cl refl (still_at _ refl refl refl st) (λ q. absurd (let x = ap is_some q in cc));
      falls = omega arith;
    })

    rank : (w : Work) → closes w ≡ false → 1 ≤ n → (o : ℕ) → (rises s.manager ≡ true) ⊎ (rises s.manager ≡ false) →
        IsDue (if rises s.manager then Step Rank o else Done) e → NextStage s w e l f n e.kind
    rank w cl one o (inl q) i = let j : IsDue (Step Rank o) e = rw q at i in at_rank w cl one j.0
    rank w cl one o (inr q) i = absurd (let j : IsDue Done e = rw q at i in j)

    go : (w : Work) → tail w ≤ n → IsDue (when_passed w s.manager l) e → closes w ≡ false → NextStage s w e l f n e.kind
    go (Reading o) rm i cl = rank (Reading o) cl rm _ (cases_Bool (rises s.manager)) i
    go (Writing o) rm i cl = rank (Writing o) cl rm _ (cases_Bool (rises s.manager)) i
    go (Releasing o) rm i cl = rank (Releasing o) cl rm _ (cases_Bool (rises s.manager)) i
    go (Committing v) rm i cl = absurd (cc)
    go Rechecking rm i cl = absurd i

releasing_step : (s : Shape) (w : Work) {l : LocalState} (f : Effort) (n : ℕ) (e : Event) → closes w ≡ false →
    Still l → Blank l → 1 ≤ n → e.kind ≡ Release → NextStage s w e l f n e.kind
releasing_step s w {l = l} f n e cl st bl rm k = subst (NextStage s w e l f n) (sym k) (record {
  room = 0;
  stage = ended cl refl (still_at _ refl refl refl st) (λ q. (ap (drop_read e.place) (bl q).0, refl));
  falls = omega arith;
})

putting_step : {s : Shape} {w : Work} {l : LocalState} (f : Effort) (n : ℕ) {e : Event} → Facts s l e →
    closes w ≡ true → (v : ℕ → Val) → w ≡ Committing v → Unread l → 3 ≤ n → IsDue (in_putting v l) e →
    NextStage s w e l f n e.kind
putting_step {s = s} {w = w} {l = l} f n {e = e} fa cl v wv un rm i =
    at_all (cases_Bool (l.written == length l.writes)) i
  where
    again : (m : LocalState) → when_put w m ≡ in_putting v m
    again m = ap (λ w. when_put w m) wv

    more_puts : (k : Kind) → e.kind ≡ k → next k e w s.manager (after k s l e) (effort_after k s.manager l f e)
        ≡ when_put w (after k s l e) → Unread (after k s l e) → 3 + 1 + puts_left (after k s l e) ≤ n + puts_left l →
        NextStage s w e l f n e.kind
    more_puts k is row un falls = subst (NextStage s w e l f n) (sym is) (record {
      room = 3;
      stage = putting cl v wv (row ∙ again (after k s l e)) un (omega arith);
      falls = falls;
    })

    at_high : (l.high_put ≡ true) ⊎ (l.high_put ≡ false) →
        IsDue (if l.high_put then Step PutNew (v (next_write l).object).low else Step PutHigh (v
        (next_write l).object).high) e → NextStage s w e l f n e.kind
    at_high (inl q) i =
        let j : IsDue (Step PutNew (v (next_write l).object).low) e = rw q at i in
        let a : AllowedAs PutNew s l e = subst (λ k. AllowedAs k s l e) j.0 fa.allowed in
        more_puts PutNew j.0 refl un (let less = a.2.2 in let h = ap one_if q in omega arith)
    at_high (inr q) i =
        let j : IsDue (Step PutHigh (v (next_write l).object).high) e = rw q at i in
        let a : AllowedAs PutHigh s l e = subst (λ k. AllowedAs k s l e) j.0 fa.allowed in
        more_puts PutHigh j.0 refl un (let less = a.2.2 in let h = ap one_if q in omega arith)

    active : ((l.phase ≡ Running) × (l.writes ≡ [])) ⊎ ((l.phase ≡ Putting) × (l.written ≡ length l.writes)) →
        given l.phase ≡ 1
    active (inl x) = ap given x.0
    active (inr x) = ap given x.0

    at_all : (l.written == length l.writes ≡ true) ⊎ (l.written == length l.writes ≡ false) →
        IsDue (in_putting v l) e → NextStage s w e l f n e.kind
    at_all (inl q) i =
        let j : IsDue (just ToValidating) e = rw q at i in
        let a : AllowedAs ToValidating s l e = subst (λ k. AllowedAs k s l e) j.0 fa.allowed in
        let now : after ToValidating s l e ≡ record l { phase = Validating } =
        rw (eq-eqb e.found 1 (fa.own a.0 ∙ active a.2.0)) refl in
        subst (NextStage s w e l f n) (sym j.0) (record {
          room = 2;
          stage = validating cl refl (subst Unread (sym now) un) (omega arith);
          falls = subst (λ m. 2 + 1 + puts_left m ≤ n + puts_left l) (sym now) (omega arith);
        })
    at_all (inr q) i = at_high (cases_Bool l.high_put) (rw q at i)

validating_step : (s : Shape) (w : Work) (l : LocalState) (f : Effort) (n : ℕ) (e : Event) → closes w ≡ true →
    Unread l → 2 ≤ n → e.kind ≡ Draw → NextStage s w e l f n e.kind
validating_step s w l f n e cl un rm k = subst (NextStage s w e l f n) (sym k) (record {
  room = 1;
  stage = drawing cl refl un refl refl (omega arith);
  falls = omega arith;
})

-- after the Draw the Commit is due
drawn_due : {s : Shape} {l : LocalState} {e : Event} → Facts s l e → Unread l → l.checked ≡ 0 →
    l.phase ≡ Drawn → in_checking l ≡ just Commit
drawn_due {l = l} fa un ck ph = go l.last_pass refl
  where
    go : (o : Option ℕ) → l.last_pass ≡ o → in_checking l ≡ just Commit
    go None q = rw (un q, ck) refl
    go (Some n) q =
        rw (or_right (l.checked == length l.reads) (is_same l.last_pass l.drawn)
        (rw (q, fa.drawn n ph q) (is_same_some n n refl))) refl

commit_leaves : (s : Shape) (l : LocalState) (e : Event) {k : Kind} → k ≡ Commit → (after k s l e).phase ≡ Outside
commit_leaves s l e {k = Commit} q = refl
commit_leaves s l e q = absurd (cc)

-- each step leads to the next stage
pub stage_step : {s : Shape} {w : Work} {l : LocalState} {f : Effort} {d : Due} {n : ℕ} {e : Event} →
    Facts s l e → Stage s w l f d n → IsDue d e → NextStage s w e l f n e.kind
stage_step {s = s} {w = w} {f = f} {n = n} {e = e} fa (opening op o h st un rm) i =
    opening_step s w f n e op st un rm (due_kind LookObj o e h i)
stage_step {w = w} {f = f} {d = d} {n = n} {e = e} fa (resolving op h st un rm) i =
    resolving_step w f n fa op st un rm (subst (λ d. IsDue d e) h i)
stage_step {s = s} {w = w} {f = f} {n = n} {e = e} fa (owning op h st un rm) i =
    owning_step s w f n e op st un rm (due_kind PutOld 0 e h i)
stage_step {s = s} {w = w} {f = f} {n = n} {e = e} fa (installing op h st un rm) i =
    let k = due_kind Install 0 e h i in installing_step s w f n e op st un rm k (fa.installs k)
stage_step {s = s} {w = w} {f = f} {n = n} {e = e} fa (numbering cl h st bl rm) i =
    numbering_step s w f n e cl st bl rm (due_kind LookNumber 0 e h i)
stage_step {w = w} {f = f} {d = d} {n = n} {e = e} fa (passing cl h st ps rm) i =
    passing_step w f n fa cl st ps rm (subst (λ d. IsDue d e) h i)
stage_step {s = s} {w = w} {f = f} {d = d} {n = n} {e = e} fa (passed cl h st lp rm) i =
    passed_step s w f n e cl st lp rm (subst (λ d. IsDue d e) h i)
stage_step {s = s} {w = w} {f = f} {n = n} {e = e} fa (releasing cl o h st bl rm) i =
    releasing_step s w f n e cl st bl rm (due_kind Release o e h i)
stage_step {e = e} fa (ended cl h st bl) i = absurd (none_due e h i)
stage_step {f = f} {d = d} {n = n} {e = e} fa (putting cl v wv h un rm) i =
    putting_step f n fa cl v wv un rm (subst (λ d. IsDue d e) h i)
stage_step {s = s} {w = w} {l = l} {f = f} {n = n} {e = e} fa (validating cl h un rm) i =
    validating_step s w l f n e cl un rm (due_kind Draw 0 e h i)
stage_step {s = s} {l = l} {e = e} fa (drawing cl h un ck ph rm) i = absurd (fa.inside
    (commit_leaves s l e (due_kind Commit 0 e (h ∙ drawn_due fa un ck ph) i)))
