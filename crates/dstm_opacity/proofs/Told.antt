-- Of each caller the history has exactly the attempts that its own Commits tell.
use Rattle.std.proofs.Common.{◌&&◌, ◌*◌, ◌++◌, ◌<◌, ◌==◌, ◌∙◌, ◌∷◌, ◌≡◌, ◌≢◌, ◌≤◌, ◌⊎◌, Bool, List, [], ap, arith, cond, false, inl, inr, refl, subst, sym, true, ℕ}
use Rattle.dstm_core.proofs.Base.{AllowedAs, Core, Event, IsPastOf, LocalState, StatusWord, Val, after, and_left, at, cases_Bool, commits_at, cond_both, entry_at, entry_of, eq-eqb, eqb-false, given, is_draw, local, ne_eqb, own_attempt, place, will_of, word}
use Rattle.dstm_opacity.proofs.Base.{Check, Commit, Draw, Drawn, Kind, Outside, Phase, Quit, Shape}
use Rattle.dstm_machines.proofs.Callers.{parts_are_done}
use Rattle.dstm_machines.proofs.Gathered.{told_still}
use Rattle.dstm_core.specs.Runs.{core as dstm}
use Rattle.dstm_core.proofs.Columns.{own_in}
use Rattle.dstm_core.proofs.Places.{put_at}
use Rattle.dstm_core.proofs.Static.{Static, callers, static}
use Rattle.dstm_core.proofs.Statuses.{OwnStatus, finished_stays, own_status}
use Rattle.dstm_core.proofs.Pasts.{core_before}
use Rattle.dstm_machines.proofs.Pasts.{past_more, past_past, past_self}
use Rattle.dstm_opacity.proofs.SinceDraw.{drawn_may}
use Rattle.dstm_opacity.specs.Committed.{Committed, attempt_of, by_caller, commits_by, committed, committed_in, done_by, has_committed, is_commit}
use Rattle.dstm_opacity.proofs.Commits.{drawn_back}

-- the attempt has drawn its number and is under way
abbrev pub at_drawn : Phase → Bool
at_drawn Drawn = true
at_drawn p = false

at_drawn_is : (p : Phase) → at_drawn p ≡ true → p ≡ Drawn
at_drawn_is Drawn h = refl
at_drawn_is p h = absurd (cc)

not_drawn : (p : Phase) → (p ≡ Drawn → ⊥) → at_drawn p ≡ false
not_drawn Drawn h = absurd (h refl)
not_drawn p h = refl

-- the attempt under way that has drawn and will commit, if there is one
abbrev pub pending : Shape → List Val → List Event → (ℕ → Bool) → ℕ → LocalState → List Committed
pending s start run will c l = cond (at_drawn l.phase && will (own_attempt s l)) (attempt_of s start run c l ∷ []) []

both_true : (b : Bool) (x : List Committed) → b ≡ true → cond (b && true) x [] ≡ x
both_true true x h = refl
both_true false x h = absurd (cc)

none_pending : (s : Shape) (start : List Val) (run : List Event) (will : ℕ → Bool) (c : ℕ) (l : LocalState) →
    at_drawn l.phase ≡ false → pending s start run will c l ≡ []
none_pending s start run will c l h =
    ap (λ b. cond (b && will (own_attempt s l)) (attempt_of s start run c l ∷ []) []) h

dead_pending : (s : Shape) (start : List Val) (run : List Event) (will : ℕ → Bool) (c : ℕ) (l : LocalState) →
    will (own_attempt s l) ≡ false → pending s start run will c l ≡ []
dead_pending s start run will c l h =
    ap (λ b. cond (at_drawn l.phase && b) (attempt_of s start run c l ∷ []) []) h ∙ none (at_drawn l.phase)
  where
    none : (b : Bool) → cond (b && false) (attempt_of s start run c l ∷ []) [] ≡ []
    none true = refl
    none false = refl

one_pending : (s : Shape) (start : List Val) (run : List Event) (will : ℕ → Bool) (c : ℕ) (l : LocalState) →
    l.phase ≡ Drawn → will (own_attempt s l) ≡ true → pending s start run will c l ≡ attempt_of s start run c l ∷ []
one_pending s start run will c l p h =
    ap (λ b. cond (at_drawn l.phase && b) (attempt_of s start run c l ∷ []) []) h
    ∙ both_true (at_drawn l.phase) (attempt_of s start run c l ∷ []) (ap at_drawn p)

-- ---- what an event of the caller does

-- what is to be known of the end of the attempt
record Ends (s : Shape) (will : ℕ → Bool) (l : LocalState) (e : Event) (k : Kind) : Type 0 where
  commits : k ≡ Commit → e.found == 3 ≡ true → will (own_attempt s l) ≡ true
  fails : k ≡ Commit → e.found == 3 ≡ false → will (own_attempt s l) ≡ false
  quits : k ≡ Quit → l.phase ≡ Drawn → will (own_attempt s l) ≡ false

-- a Draw makes an attempt pending, its end takes it off, and nothing else changes this
own_step : {s : Shape} (start : List Val) (run : List Event) {will : ℕ → Bool} (c : ℕ) {l : LocalState} {e : Event}
    {k : Kind} {xs : List Committed} (ds : List Committed) → e.caller ≡ c → Static s c l → AllowedAs k s l e → Ends s
    will l e k →
    xs ≡ pending s start run will c l ++ ds → cond (is_draw k && will (own_attempt s l))
    (record { caller = e.caller; number = e.found; entry = entry_of s start run l } ∷ xs) xs
    ≡ pending s start run will c (after k s l e)
    ++ cond (is_commit k && (e.found == 3)) (attempt_of s start run c l ∷ ds) ds
own_step {s = s} start run {will = will} c {l = l} {e = e} {k = Draw} {xs = xs} ds own t a z h =
    elim (cases_Bool (will (own_attempt s l))) [ inl w ↦ rw (w, own, before) refl | inr w ↦ rw (w, before) refl ]
  where
    before : xs ≡ ds
    before = h ∙ ap (λ ys. ys ++ ds) (none_pending s start run will c l (ap at_drawn a.2.0))
own_step {s = s} start run {will = will} c {l = l} {e = e} {k = Commit} {xs = xs} ds own t a z h =
    elim (cases_Bool (e.found == 3)) [
      | inl q ↦
          h ∙ ap (λ ys. ys ++ ds) (one_pending s start run will c l a.2.0 (z.commits refl q))
          ∙ ap (λ b. cond b (attempt_of s start run c l ∷ ds) ds) (sym q)
      | inr q ↦
          h ∙ ap (λ ys. ys ++ ds) (dead_pending s start run will c l (z.fails refl q))
          ∙ ap (λ b. cond b (attempt_of s start run c l ∷ ds) ds) (sym q)
    ]
own_step {s = s} start run {will = will} c {l = l} {k = Quit} {xs = xs} ds own t a z h =
    elim (cases_Bool (at_drawn l.phase)) [
      | inl q ↦ h ∙ ap (λ ys. ys ++ ds) (dead_pending s start run will c l (z.quits refl (at_drawn_is l.phase q)))
      | inr q ↦ h ∙ ap (λ ys. ys ++ ds) (none_pending s start run will c l q)
    ]
own_step start run c {k = Check} ds own t a z h = h
own_step {s = s} start run {will = will} c {l = l} {e = e} {k = k} ds own t a z h =
    h ∙ ap (λ ys. ys ++ ds) (none_pending s start run will c l (not_drawn l.phase before)
    ∙ sym (none_pending s start run will c (after k s l e) (not_drawn (after k s l e).phase now)))
  where
    before : l.phase ≡ Drawn → ⊥
    before q = elim (drawn_may s c l e k t q a) [ inl x ↦ cc | inr (inl x) ↦ cc | inr (inr x) ↦ cc ]

    now : (after k s l e).phase ≡ Drawn → ⊥
    now q = elim (drawn_back s l e k q) [ inl x ↦ cc | inr x ↦ before x ]

-- ---- how attempts end

aims : (s : Shape) (l : LocalState) (e : Event) (k : Kind) → (k ≡ Commit) ⊎ (k ≡ Quit) → AllowedAs k s l e →
    e.place ≡ place s (StatusWord (own_attempt s l))
aims s l e Commit q a = a.0
aims s l e Quit q a = a.0
aims s l e k (inl q) a = absurd (cc)
aims s l e k (inr q) a = absurd (cc)

commit_puts : (s : Shape) (l : LocalState) (e : Event) {k : Kind} → k ≡ Commit → AllowedAs k s l e →
    (l.phase ≡ Drawn) × (e.put ≡ cond (e.found == 3) 4 e.found)
commit_puts s l e {k = Commit} q a = (a.2.0, a.1.1)
commit_puts s l e q a = absurd (cc)

quit_puts : (s : Shape) (l : LocalState) (e : Event) {k : Kind} → k ≡ Quit → AllowedAs k s l e →
    e.put ≡ cond (e.found == given l.phase) 5 e.found
quit_puts s l e {k = Quit} q a = a.1.1
quit_puts s l e q a = absurd (cc)

-- a status that is finished after an event is so in the run
later_is : (s : Shape) (run es : List Event) (e : Event) (a n : ℕ) → IsPastOf (e ∷ es) run → Core s run →
    a < s.callers * s.attempts → 4 ≤ n → word s (e ∷ es) (StatusWord a) ≡ n → will_of s run a ≡ (n == 4)
later_is s run es e a n p core lt big h =
    ap (λ m. m == 4) (subst (λ xs. word s xs (StatusWord a) ≡ n) p.whole
    (finished_stays s p.later (e ∷ es) a (subst (Core s) (sym p.whole) core) lt (let y = h in omega arith) ∙ h))

-- a caller's own attempt, at one of its events that are aimed at its status
record AtOwn (s : Shape) (es : List Event) (e : Event) : Type 0 where
  below : own_attempt s (local s es e.caller) < s.callers * s.attempts
  now : word s (e ∷ es) (StatusWord (own_attempt s (local s es e.caller))) ≡ e.put
  found : (e.found ≡ given (local s es e.caller).phase) ⊎ (e.found ≡ 5)

at_own : (s : Shape) (es : List Event) (e : Event) → Core s (e ∷ es) → (local s es e.caller).phase ≢ Outside →
    e.place ≡ place s (StatusWord (own_attempt s (local s es e.caller))) → AtOwn s es e
at_own s es e core out pl = record {
  below = own_in s e.caller (local s es e.caller) (static s es core.0 e.caller) core.1.caller out;
  now = put_at es e _ pl;
  found = go (own_status s es core.0 e.caller core.1.caller out);
}
  where
    was : e.found ≡ word s es (StatusWord (own_attempt s (local s es e.caller)))
    was = core.1.linked ∙ ap (at es) pl

    go : OwnStatus s es (local s es e.caller) → (e.found ≡ given (local s es e.caller).phase) ⊎ (e.found ≡ 5)
    go (inl x) = inl (was ∙ x)
    go (inr x) = inr (was ∙ x)

ends : (s : Shape) (run es : List Event) (e : Event) → IsPastOf (e ∷ es) run → Core s run →
    Ends s (will_of s run) (local s es e.caller) e e.kind
ends s run es e p core = record { commits = commits; fails = fails; quits = quits }
  where
    here : Core s (e ∷ es)
    here = core_before s (e ∷ es) run p core

    commits : e.kind ≡ Commit → e.found == 3 ≡ true → will_of s run (own_attempt s (local s es e.caller)) ≡ true
    commits k q =
        let puts = commit_puts s (local s es e.caller) e k here.1.allowed in
        let x = at_own s es e here (λ y. let z = puts.0 in cc)
        (aims s (local s es e.caller) e e.kind (inl k) here.1.allowed) in
        later_is s run es e (own_attempt s (local s es e.caller)) 4 p core x.below (omega arith)
        (x.now ∙ puts.1 ∙ ap (λ b. cond b 4 e.found) q)

    fails : e.kind ≡ Commit → e.found == 3 ≡ false → will_of s run (own_attempt s (local s es e.caller)) ≡ false
    fails k q = go x.found
      where
        puts : ((local s es e.caller).phase ≡ Drawn) × (e.put ≡ cond (e.found == 3) 4 e.found)
        puts = commit_puts s (local s es e.caller) e k here.1.allowed

        x : AtOwn s es e
        x = at_own s es e here (λ y. let z = puts.0 in cc)
            (aims s (local s es e.caller) e e.kind (inl k) here.1.allowed)

        go : (e.found ≡ given (local s es e.caller).phase) ⊎ (e.found ≡ 5) →
            will_of s run (own_attempt s (local s es e.caller)) ≡ false
        go (inl y) = absurd (eqb-false e.found 3 q (y ∙ ap given puts.0))
        go (inr y) =
            later_is s run es e (own_attempt s (local s es e.caller)) 5 p core x.below (omega arith)
            (x.now ∙ puts.1 ∙ ap (λ b. cond b 4 e.found) q ∙ y)

    quits : e.kind ≡ Quit → (local s es e.caller).phase ≡ Drawn →
        will_of s run (own_attempt s (local s es e.caller)) ≡ false
    quits k ph =
        later_is s run es e (own_attempt s (local s es e.caller)) 5 p core x.below (omega arith) (x.now ∙ go x.found)
      where
        puts : e.put ≡ cond (e.found == given (local s es e.caller).phase) 5 e.found
        puts = quit_puts s (local s es e.caller) e k here.1.allowed

        x : AtOwn s es e
        x = at_own s es e here (λ y. cc) (aims s (local s es e.caller) e e.kind (inr k) here.1.allowed)

        go : (e.found ≡ given (local s es e.caller).phase) ⊎ (e.found ≡ 5) → e.put ≡ 5
        go (inl y) = puts ∙ ap (λ b. cond b 5 e.found) (eq-eqb e.found (given (local s es e.caller).phase) y)
        go (inr y) = puts ∙ cond_both (e.found == given (local s es e.caller).phase) 5 e.found (λ n. n ≡ 5)
            (λ _. refl) (λ _. y)

-- ---- all along a run

told : (s : Shape) (start : List Val) (run es : List Event) → Core s run → IsPastOf es run → (c : ℕ) →
    by_caller c (committed s start (will_of s run) run es)
    ≡ pending s start run (will_of s run) c (local s es c) ++ done_by s start run es c
told s start run es core past c =
    parts_are_done (commits_at s (will_of s run)) (entry_at s start run) dstm s
    (pending s start run (will_of s run)) (done_by s start run) (λ es. IsPastOf es run) before (λ c. refl) own other
    es past c
  where
    before : (e : Event) (es : List Event) → IsPastOf (e ∷ es) run → IsPastOf es run
    before e es p = past_past es (e ∷ es) run (past_more es es e (past_self es)) p

    own : (e : Event) (es : List Event) → IsPastOf (e ∷ es) run →
        by_caller e.caller (committed s start (will_of s run) run es)
        ≡ pending s start run (will_of s run) e.caller (local s es e.caller) ++ done_by s start run es e.caller →
        cond (is_draw e.kind && will_of s run (own_attempt s (local s es e.caller)))
        (record { caller = e.caller; number = e.found; entry = entry_of s start run (local s es e.caller) }
        ∷ by_caller e.caller (committed s start (will_of s run) run es))
        (by_caller e.caller (committed s start (will_of s run) run es))
        ≡ pending s start run (will_of s run) e.caller (after e.kind s (local s es e.caller) e)
        ++ done_by s start run (e ∷ es) e.caller
    own e es p ih =
        let here : Core s (e ∷ es) = core_before s (e ∷ es) run p core in
        own_step start run e.caller (done_by s start run es e.caller) refl
        (static s es here.0 e.caller) here.1.allowed (ends s run es e p core) ih
        ∙ ap (λ b. pending s start run (will_of s run) e.caller (after e.kind s (local s es e.caller) e)
        ++ cond (b && (is_commit e.kind && (e.found == 3)))
        (attempt_of s start run e.caller (local s es e.caller) ∷ done_by s start run es e.caller)
        (done_by s start run es e.caller)) (sym (eq-eqb e.caller e.caller refl))

    other : (e : Event) (es : List Event) (c : ℕ) → e.caller ≢ c →
        done_by s start run (e ∷ es) c ≡ done_by s start run es c
    other e es c h =
        told_still (commits_by c) (λ e before. attempt_of s start run c (local s before c)) e es
        (and_left (e.caller == c) (has_committed e) (ne_eqb e.caller c h))

-- who has an attempt under way is a caller of the shape
pub is_known : (s : Shape) (es : List Event) → Core s es → (c : ℕ) → (local s es c).phase ≢ Outside → c < s.callers
is_known s [] core c h = absurd (h refl)
is_known s (e ∷ es) core c h =
    callers s es e (λ c l. l.phase ≢ Outside → c < s.callers) (λ _. core.1.caller)
    (λ c _ h. is_known s es core.0 c h) c h

-- at the end of a run no attempt is pending
pub each_is_told : (s : Shape) (start : List Val) (run : List Event) → Core s run → (c : ℕ) →
    by_caller c (committed_in s start run) ≡ done_by s start run run c
each_is_told s start run core c =
    told s start run run core (record { later = []; whole = refl }) c
    ∙ ap (λ xs. xs ++ done_by s start run run c) none
  where
    none : pending s start run (will_of s run) c (local s run c) ≡ []
    none = elim (cases_Bool (at_drawn (local s run c).phase)) [
      | inl q ↦ dead_pending s start run (will_of s run) c (local s run c) (dead (at_drawn_is (local s run c).phase q))
      | inr q ↦ none_pending s start run (will_of s run) c (local s run c) q
    ]
      where
        dead : (local s run c).phase ≡ Drawn → will_of s run (own_attempt s (local s run c)) ≡ false
        dead ph = by (own_status s run core c known (λ z. cc))
          where
            known : c < s.callers
            known = is_known s run core c (λ z. cc)

            by : OwnStatus s run (local s run c) → will_of s run (own_attempt s (local s run c)) ≡ false
            by (inl x) = ap (λ n. n == 4) (x ∙ ap given ph)
            by (inr x) = ap (λ n. n == 4) x
