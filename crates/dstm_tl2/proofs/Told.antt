-- Of each caller the history has exactly the attempts that its own events tell.
use Rattle.std.proofs.Common.{◌&&◌, ◌++◌, ◌==◌, ◌∙◌, ◌∷◌, ◌≡◌, ◌⊎◌, Bool, List, None, Option, Some, [], ap, arith, cond, false, inl, inr, is_some, not, refl, sym, subst, true, ℕ}
use Rattle.dstm_tl2.proofs.Base.{AllowedAs, Committed, Event, IsPastOf, Kind, LocalState, Run, Table, after, and_from, and_left, and_right, attempt_of, by_caller, cases_Bool, commits_at, committed, committed_in, cond-false, cond-true, done_by, entry_at, entry_of, eq-eqb, is_draw, is_sample, is_valid, is_validated, local, ne_eqb, not_from_true, or_zero, tl2, will_of, writes_of}
use Rattle.dstm_machines.proofs.Callers.{parts_are_done}
use Rattle.dstm_machines.proofs.Pasts.{past_more, past_past, past_self, run_before}
use Rattle.dstm_machines.proofs.Runs as runs
use Rattle.dstm_tl2.proofs.Clock.{NewDraw, Turn, clock_ok, clock_up, drawn_how, turn, unique}
use Rattle.dstm_tl2.proofs.Clock.Turn.{keeps, samples, drew}
use Rattle.dstm_tl2.proofs.Foretelling.{Fails, fails_more, or_none, shown, valid_will, will_more}
use Rattle.dstm_tl2.proofs.SinceDraw.{Checks, Rests, check_by}
use Rattle.dstm_tl2.proofs.Static.{Static, static}
use Rattle.dstm_tl2.proofs.Done.{done_mine, done_other, stays_valid, undrawn_invalid}

-- ---- the attempt under way

-- the attempt under way that has drawn and will commit, while it is not valid, if there is one
abbrev pub pending : (ℕ → Bool) → ℕ → LocalState → List Committed
pending will c l = cond (is_some l.drawn && (not (is_valid l) && will (or_zero l.drawn))) (attempt_of c l ∷ []) []

undrawn_pending : (will : ℕ → Bool) (c : ℕ) (l : LocalState) → l.drawn ≡ None → pending will c l ≡ []
undrawn_pending will c l q =
    cond-false (is_some l.drawn && (not (is_valid l) && will (or_zero l.drawn))) (attempt_of c l ∷ []) []
    (and_left (is_some l.drawn) (not (is_valid l) && will (or_zero l.drawn)) (ap is_some q))

valid_pending : (will : ℕ → Bool) (c : ℕ) (l : LocalState) → is_valid l ≡ true → pending will c l ≡ []
valid_pending will c l v =
    cond-false (is_some l.drawn && (not (is_valid l) && will (or_zero l.drawn))) (attempt_of c l ∷ []) []
    (and_right (is_some l.drawn) (not (is_valid l) && will (or_zero l.drawn))
    (and_left (not (is_valid l)) (will (or_zero l.drawn)) (not_from_true (is_valid l) v)))

dead_pending : (will : ℕ → Bool) (c : ℕ) (l : LocalState) → will (or_zero l.drawn) ≡ false → pending will c l ≡ []
dead_pending will c l w =
    cond-false (is_some l.drawn && (not (is_valid l) && will (or_zero l.drawn))) (attempt_of c l ∷ []) []
    (and_right (is_some l.drawn) (not (is_valid l) && will (or_zero l.drawn))
    (and_right (not (is_valid l)) (will (or_zero l.drawn)) w))

one_pending : (will : ℕ → Bool) (c : ℕ) (l : LocalState) → is_some l.drawn ≡ true → is_valid l ≡ false →
    will (or_zero l.drawn) ≡ true → pending will c l ≡ attempt_of c l ∷ []
one_pending will c l d v w =
    cond-true (is_some l.drawn && (not (is_valid l) && will (or_zero l.drawn))) (attempt_of c l ∷ []) []
    (and_from (is_some l.drawn) (not (is_valid l) && will (or_zero l.drawn)) d
    (and_from (not (is_valid l)) (will (or_zero l.drawn)) (ap not v) w))

-- none is pending where what is not valid does not commit
none_pending : (will : ℕ → Bool) (c : ℕ) (l : LocalState) →
    ((n : ℕ) → l.drawn ≡ Some n → is_valid l ≡ false → will n ≡ false) → pending will c l ≡ []
none_pending will c l dead = go l.drawn refl (cases_Bool (is_valid l))
  where
    go : (d : Option ℕ) → l.drawn ≡ d → (is_valid l ≡ true) ⊎ (is_valid l ≡ false) → pending will c l ≡ []
    go None q v = undrawn_pending will c l q
    go (Some n) q (inl v) = valid_pending will c l v
    go (Some n) q (inr v) = dead_pending will c l (ap (λ d. will (or_zero d)) q ∙ dead n q v)

-- ---- what an event of the caller does

-- what is committed with it
abbrev newly : ℕ → LocalState → LocalState → List Committed → List Committed
newly c l m ds = cond (is_valid m && not (is_valid l)) (attempt_of c m ∷ ds) ds

newly_none : (c : ℕ) (l m : LocalState) (ds : List Committed) →
    (is_valid m ≡ false) ⊎ (is_valid l ≡ true) → newly c l m ds ≡ ds
newly_none c l m ds (inl v) =
    cond-false (is_valid m && not (is_valid l)) (attempt_of c m ∷ ds) ds (and_left (is_valid m) (not (is_valid l)) v)
newly_none c l m ds (inr v) =
    cond-false (is_valid m && not (is_valid l)) (attempt_of c m ∷ ds) ds
    (and_right (is_valid m) (not (is_valid l)) (not_from_true (is_valid l) v))

newly_one : (c : ℕ) (l m : LocalState) (ds : List Committed) → is_valid m ≡ true → is_valid l ≡ false →
    newly c l m ds ≡ attempt_of c m ∷ ds
newly_one c l m ds v u =
    cond-true (is_valid m && not (is_valid l)) (attempt_of c m ∷ ds) ds
    (and_from (is_valid m) (not (is_valid l)) v (ap not u))

attempt_same : (c : ℕ) (l m : LocalState) → m.drawn ≡ l.drawn → m.reads ≡ l.reads → m.writes ≡ l.writes →
    attempt_of c m ≡ attempt_of c l
attempt_same c l m d r w = cc

pending_same : (will : ℕ → Bool) (c : ℕ) (l m : LocalState) → m.drawn ≡ l.drawn → is_valid m ≡ is_valid l →
    attempt_of c m ≡ attempt_of c l → pending will c m ≡ pending will c l
pending_same will c l m d v a =
    ap (λ d. cond (is_some d && (not (is_valid m) && will (or_zero d))) (attempt_of c m ∷ []) []) d
    ∙ ap (λ b. cond (is_some l.drawn && (not b && will (or_zero l.drawn))) (attempt_of c m ∷ []) []) v
    ∙ ap (λ x. cond (is_some l.drawn && (not (is_valid l) && will (or_zero l.drawn))) (x ∷ []) []) a

-- what is to be known of the attempts that commit
record Ends (will : ℕ → Bool) (l m : LocalState) (k : Kind) : Type 0 where
  valid : (n : ℕ) → m.drawn ≡ Some n → is_valid m ≡ true → will n ≡ true
  left : is_sample k ≡ true → (n : ℕ) → l.drawn ≡ Some n → is_valid l ≡ false → will n ≡ false

-- an event by which an attempt goes on that has not drawn
undrawn_step : (will : ℕ → Bool) (c : ℕ) (l m : LocalState) (ds : List Committed) → l.drawn ≡ None → m.drawn ≡ None →
    pending will c l ++ ds ≡ pending will c m ++ newly c l m ds
undrawn_step will c l m ds p q =
    ap (λ xs. xs ++ ds) (undrawn_pending will c l p ∙ sym (undrawn_pending will c m q))
    ∙ ap (λ xs. pending will c m ++ xs) (sym (newly_none c l m ds (inl (undrawn_invalid m q))))

-- and one by which an attempt goes on that has drawn
drawn_step : (will : ℕ → Bool) (c : ℕ) (l m : LocalState) (ds : List Committed) (n : ℕ) → l.drawn ≡ Some n →
    m.drawn ≡ l.drawn → attempt_of c m ≡ attempt_of c l → (is_valid l ≡ true → is_valid m ≡ true) →
    (is_valid m ≡ true → will n ≡ true) → pending will c l ++ ds ≡ pending will c m ++ newly c l m ds
drawn_step will c l m ds n p d a stays commits = go (cases_Bool (is_valid l)) (cases_Bool (is_valid m))
  where
    go : (is_valid l ≡ true) ⊎ (is_valid l ≡ false) → (is_valid m ≡ true) ⊎ (is_valid m ≡ false) →
        pending will c l ++ ds ≡ pending will c m ++ newly c l m ds
    go (inl u) v =
        ap (λ xs. xs ++ ds) (valid_pending will c l u ∙ sym (valid_pending will c m (stays u)))
        ∙ ap (λ xs. pending will c m ++ xs) (sym (newly_none c l m ds (inr u)))
    go (inr u) (inl v) =
        ap (λ xs. xs ++ ds) (one_pending will c l (ap is_some p) u (ap (λ d. will (or_zero d)) p ∙ commits v))
        ∙ ap (λ x. x ∷ ds) (sym a)
        ∙ sym (newly_one c l m ds v u)
        ∙ ap (λ xs. xs ++ newly c l m ds) (sym (valid_pending will c m v))
    go (inr u) (inr v) =
        ap (λ xs. xs ++ ds) (sym (pending_same will c l m d (v ∙ sym u) a))
        ∙ ap (λ xs. pending will c m ++ xs) (sym (newly_none c l m ds (inl v)))

-- A Draw makes an attempt pending or valid, the last good Check makes it valid, a Sample leaves it, and nothing else
-- changes this.
own_step : {t : Table} {will : ℕ → Bool} (c : ℕ) {l : LocalState} {e : Event} {k : Kind} {xs : List Committed}
    (ds : List Committed) →
    Static t l → AllowedAs k t l e → Turn t e k l (after k t l e) → Ends will l (after k t l e) k →
    xs ≡ pending will c l ++ ds →
    cond (is_draw k && will e.found) (record { caller = c; number = e.found; entry = entry_of l (writes_of k) } ∷ xs) xs
    ≡ pending will c (after k t l e) ++ newly c l (after k t l e) ds
own_step {t = t} {will = will} c {l = l} {e = e} {k = k} {xs = xs} ds s a (keeps x) z h =
    cond-false (is_draw k && will e.found)
    (record { caller = c; number = e.found; entry = entry_of l (writes_of k) } ∷ xs) xs
    (and_left (is_draw k) (will e.found) x.no_draw)
    ∙ h ∙ go l.drawn refl
  where
    go : (d : Option ℕ) → l.drawn ≡ d →
        pending will c l ++ ds ≡ pending will c (after k t l e) ++ newly c l (after k t l e) ds
    go None q = undrawn_step will c l (after k t l e) ds q (x.drawn ∙ q)
    go (Some n) q =
        drawn_step will c l (after k t l e) ds n q x.drawn (by (check_by t l e k n s a q (x.drawn ∙ q)))
        (λ v. (stays_valid t c l e k s a x.no_sample v).0) (λ v. z.valid n (x.drawn ∙ q) v)
      where
        by : Rests l (after k t l e) ⊎ Checks t e l (after k t l e) → attempt_of c (after k t l e) ≡ attempt_of c l
        by (inl r) = attempt_same c l (after k t l e) x.drawn r.reads r.writes
        by (inr r) = attempt_same c l (after k t l e) x.drawn r.reads r.writes
own_step {t = t} {will = will} c {l = l} {e = e} {k = k} {xs = xs} ds s a (samples x) z h =
    cond-false (is_draw k && will e.found)
    (record { caller = c; number = e.found; entry = entry_of l (writes_of k) } ∷ xs) xs
    (and_left (is_draw k) (will e.found) x.no_draw)
    ∙ h
    ∙ ap (λ ys. ys ++ ds) (none_pending will c l (λ n q v. z.left x.is_sample n q v)
    ∙ sym (undrawn_pending will c (after k t l e) x.drawn))
    ∙ ap (λ ys. pending will c (after k t l e) ++ ys)
    (sym (newly_none c l (after k t l e) ds (inl (undrawn_invalid (after k t l e) x.drawn))))
own_step {t = t} {will = will} c {l = l} {e = e} {k = k} {xs = xs} ds s a (drew x) z h =
    ap (λ b. cond (b && will e.found) (drawn ∷ xs) xs) x.is_draw
    ∙ ap (λ ys. cond (will e.found) (drawn ∷ ys) ys) none
    ∙ ap (λ y. cond (will e.found) (y ∷ ds) ds) (sym is)
    ∙ go (cases_Bool (is_valid (after k t l e))) (cases_Bool (will e.found))
  where
    drawn : Committed
    drawn = record { caller = c; number = e.found; entry = entry_of l (writes_of k) }

    none : xs ≡ ds
    none = h ∙ ap (λ ys. ys ++ ds) (undrawn_pending will c l x.undrawn)

    is : attempt_of c (after k t l e) ≡ drawn
    is = attempt_is (after k t l e) x.drawn x.reads x.writes
      where
        attempt_is : (m : LocalState) → m.drawn ≡ Some e.found → m.reads ≡ l.reads → m.writes ≡ Some (writes_of k) →
            attempt_of c m ≡ drawn
        attempt_is m d r w = cc

    go : (is_valid (after k t l e) ≡ true) ⊎ (is_valid (after k t l e) ≡ false) →
        (will e.found ≡ true) ⊎ (will e.found ≡ false) → cond (will e.found) (attempt_of c (after k t l e) ∷ ds) ds
        ≡ pending will c (after k t l e) ++ newly c l (after k t l e) ds
    go (inl v) w =
        ap (λ b. cond b (attempt_of c (after k t l e) ∷ ds) ds) (z.valid e.found x.drawn v)
        ∙ sym (newly_one c l (after k t l e) ds v (undrawn_invalid l x.undrawn))
        ∙ ap (λ ys. ys ++ newly c l (after k t l e) ds) (sym (valid_pending will c (after k t l e) v))
    go (inr v) (inl w) =
        ap (λ b. cond b (attempt_of c (after k t l e) ∷ ds) ds) w
        ∙ ap (λ ys. ys ++ ds)
        (sym (one_pending will c (after k t l e) (ap is_some x.drawn) v (ap (λ d. will (or_zero d)) x.drawn ∙ w)))
        ∙ ap (λ ys. pending will c (after k t l e) ++ ys) (sym (newly_none c l (after k t l e) ds (inl v)))
    go (inr v) (inr w) =
        ap (λ b. cond b (attempt_of c (after k t l e) ∷ ds) ds) w
        ∙ ap (λ ys. ys ++ ds) (sym (dead_pending will c (after k t l e) (ap (λ d. will (or_zero d)) x.drawn ∙ w)))
        ∙ ap (λ ys. pending will c (after k t l e) ++ ys) (sym (newly_none c l (after k t l e) ds (inl v)))

-- ---- how attempts end

-- what is not valid is no attempt that commits so far
invalid_not_yet : (t : Table) (es : List Event) (c n : ℕ) → Run t es → (local t es c).drawn ≡ Some n →
    is_valid (local t es c) ≡ false → will_of t es n ≡ false
invalid_not_yet t es c n run d v =
    elim (cases_Bool (will_of t es n)) [ inl w ↦ let is = (shown t es n run w).valid c d in absurd (cc) | inr w ↦ w ]

not_both : {d : Option ℕ} (n : ℕ) → d ≡ None → d ≡ Some n → ⊥
not_both n p q = cc

-- an attempt that is left before it is valid never commits
left_fails : (t : Table) (es : List Event) (e : Event) (n : ℕ) → Run t (e ∷ es) → is_sample e.kind ≡ true →
    (local t es e.caller).drawn ≡ Some n → is_valid (local t es e.caller) ≡ false → Fails t (e ∷ es) n
left_fails t es e n run s d v = record {
  none = or_none (is_validated (local t (e ∷ es) e.caller) n) (will_of t es n)
      (and_left (is_valid (local t (e ∷ es) e.caller)) (or_zero (local t (e ∷ es) e.caller).drawn == n)
      (undrawn_invalid (local t (e ∷ es) e.caller) now)) (invalid_not_yet t es e.caller n run.0 d v);
  old = let a = ((clock_ok t es run.0 e.caller).drawn n d).0 in let b = clock_up t es e run.1 in omega arith;
  bad = λ c q. absurd (gone c q (drawn_how t es e run c n q));
}
  where
    now : (local t (e ∷ es) e.caller).drawn ≡ None
    now = ap (λ (l : LocalState). l.drawn) (runs.local_own tl2 t es e) ∙ by (turn t es e run.1)
      where
        by : Turn t e e.kind (local t es e.caller) (after e.kind t (local t es e.caller) e) →
            (after e.kind t (local t es e.caller) e).drawn ≡ None
        by (keeps x) = absurd (let y = x.no_sample in cc)
        by (samples x) = x.drawn
        by (drew x) = absurd (let y = x.no_sample in cc)

    gone : (c : ℕ) → (local t (e ∷ es) c).drawn ≡ Some n → ((local t es c).drawn ≡ Some n) ⊎ NewDraw t es e c n → ⊥
    gone c q (inl x) =
        not_both n now (subst (λ c. (local t (e ∷ es) c).drawn ≡ Some n) (unique t es run.0 c e.caller n x d) q)
    gone c q (inr x) =
        let a = ((clock_ok t es run.0 e.caller).drawn n d).0 in
        let b = x.number in let f = x.found in absurd (omega arith)

ends : (t : Table) {run : List Event} (es : List Event) (e : Event) → IsPastOf (e ∷ es) run → Run t run →
    Ends (will_of t run) (local t es e.caller) (after e.kind t (local t es e.caller) e) e.kind
ends t {run = run} es e p r = record {
  valid = λ n d v.
      subst (λ run. will_of t run n ≡ true) p.whole (will_more t p.later (e ∷ es) n
      (valid_will t (e ∷ es) e.caller n (ap (λ (l : LocalState). l.drawn) own ∙ d) (ap is_valid own ∙ v)));
  left = λ s n d v.
      subst (λ run. will_of t run n ≡ false) p.whole
      (fails_more p.later (subst (Run t) (sym p.whole) r) (left_fails t es e n here s d v)).none;
}
  where
    here : Run t (e ∷ es)
    here = run_before tl2 t (e ∷ es) run p r

    own : local t (e ∷ es) e.caller ≡ after e.kind t (local t es e.caller) e
    own = runs.local_own tl2 t es e

-- ---- all along a run

told : (t : Table) {run es : List Event} → Run t run → IsPastOf es run → (c : ℕ) →
    by_caller c (committed t (will_of t run) es) ≡ pending (will_of t run) c (local t es c) ++ done_by t es c
told t {run = run} {es = es} r p c =
    parts_are_done (commits_at (will_of t run)) (entry_at t) tl2 t (pending (will_of t run)) (done_by t)
    (λ es. IsPastOf es run) before (λ c. refl) own (λ e es c h. done_other t es e c (ne_eqb e.caller c h)) es p c
  where
    before : (e : Event) (es : List Event) → IsPastOf (e ∷ es) run → IsPastOf es run
    before e es p = past_past es (e ∷ es) run (past_more es es e (past_self es)) p

    own : (e : Event) (es : List Event) → IsPastOf (e ∷ es) run →
        by_caller e.caller (committed t (will_of t run) es)
        ≡ pending (will_of t run) e.caller (local t es e.caller) ++ done_by t es e.caller →
        cond (is_draw e.kind && will_of t run e.found) (record {
          caller = e.caller;
          number = e.found;
          entry = entry_of (local t es e.caller) (writes_of e.kind);
        } ∷ by_caller e.caller (committed t (will_of t run) es)) (by_caller e.caller (committed t (will_of t run) es))
        ≡ pending (will_of t run) e.caller (after e.kind t (local t es e.caller) e) ++ done_by t (e ∷ es) e.caller
    own e es p ih =
        let here : Run t (e ∷ es) = run_before tl2 t (e ∷ es) run p r in
        own_step e.caller (done_by t es e.caller)
        (static t es here.0 e.caller) here.1.allowed (turn t es e here.1) (ends t es e p r) ih
        ∙ ap (λ ds. pending (will_of t run) e.caller (after e.kind t (local t es e.caller) e) ++ ds)
        (sym (done_mine t es e e.caller (eq-eqb e.caller e.caller refl)))

-- at the end of a run no attempt is pending
pub each_is_told : (t : Table) (run : List Event) → Run t run → (c : ℕ) →
    by_caller c (committed_in t run) ≡ done_by t run c
each_is_told t run r c =
    told t r (past_self run) c
    ∙ ap (λ xs. xs ++ done_by t run c)
    (none_pending (will_of t run) c (local t run c) (λ n d v. invalid_not_yet t run c n r d v))
