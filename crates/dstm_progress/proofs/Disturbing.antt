-- A cause in the events of a call is a disturbance of its attempt in the log.
use Rattle.std.proofs.Common.{◌&&◌, ◌++◌, ◌+◌, ◌==◌, ◌∙◌, ◌∷◌, ◌≡◌, ◌≤◌, ◌⊎◌, Bool, List, [], ap, arith, cond, false, inl, inr, length, refl, subst, sym, true, ℕ, if◌then◌else◌}
use Rattle.dstm_core.proofs.Base.{Event, LocalState, cases_Bool, cond_both, eq-eqb, events_of, first, local}
use Rattle.dstm_core.proofs.Static.{begun_step}
use Rattle.dstm_order.proofs.Base.{Shape, is_miss, misses, state_after}
use Rattle.dstm_order.specs.declared.again.Again.{Again}
use Rattle.dstm_order.specs.declared.again.Again.TheVariants.{Killed, Lost, Stale, Waited}
use Rattle.dstm_progress.proofs.Own.{state_both}
use Rattle.dstm_progress.specs.Causes.{AllPass, Causes, Has, finds_aborted, finds_stale, gives_way}
use Rattle.dstm_progress.specs.Disturbed.{Disturbed, count_of, fails}
use Rattle.dstm_progress.specs.Disturbed.Disturbed.{became_stale, gave_way, missed, was_aborted}
use Rattle.dstm_progress.specs.Calls.{ACauseDisturbs, DisturbedStays}
use Rattle.dstm_progress.proofs.OwnEvents.{after_own, whole_state}

abbrev Test : Type 0
Test = Shape → LocalState → Event → Bool

-- ---- in a call

-- how many events of a call, which began in this state, pass a test
abbrev pub count_in : Test → Shape → LocalState → List Event → ℕ
count_in test s l [] = 0
count_in test s l (e ∷ es) = if test s (state_after s l es) e then count_in test s l es + 1 else count_in test s l es

count_one : (test : Test) (s : Shape) (l : LocalState) (e : Event) (es : List Event) →
    test s (state_after s l es) e ≡ true → count_in test s l (e ∷ es) ≡ count_in test s l es + 1
count_one test s l e es q = ap (λ b. cond b (count_in test s l es + 1) (count_in test s l es)) q

more_counts : (test : Test) (s : Shape) (l : LocalState) (later es : List Event) →
    count_in test s l es ≤ count_in test s l (later ++ es)
more_counts test s l [] es = omega arith
more_counts test s l (e ∷ later) es = let ih = more_counts test s l later es in
    cond_both (test s (state_after s l (later ++ es)) e) (count_in test s l (later ++ es) + 1)
    (count_in test s l (later ++ es)) (λ n. count_in test s l es ≤ n) (λ _. omega arith) (λ _. ih)

has_counts : {test : Test} {p : ℕ} {s : Shape} {l : LocalState} {es : List Event} → Has test p s l es →
    1 ≤ count_in test s l es
has_counts {test = test} {s = s} {l = l} h =
    let more = more_counts test s l h.later (h.event ∷ h.before) in
    let one = count_one test s l h.event h.before h.passes in
    subst (λ xs. 1 ≤ count_in test s l xs) (sym h.whole) (omega arith)

row_counts : (test : Test) (s : Shape) (l : LocalState) (row before : List Event) → AllPass test s l row before →
    length row ≤ count_in test s l (row ++ before)
row_counts test s l [] before h = omega arith
row_counts test s l (e ∷ row) before h =
    let ih = row_counts test s l row before h.0 in
    let one = count_one test s l e (row ++ before) h.1 in omega arith

misses_count : (s : Shape) (l : LocalState) (es : List Event) → count_in fails s l es ≡ misses es
misses_count s l [] = refl
misses_count s l (e ∷ es) = ap (λ n. if is_miss e.kind e then n + 1 else n) (misses_count s l es)

-- ---- in a caller's own events

-- how many of them, in attempt i, pass a test
abbrev count_at : Test → Shape → LocalState → List Event → ℕ → ℕ
count_at test s l [] i = 0
count_at test s l (e ∷ es) i =
    if ((state_after s l es).begun == i) && test s (state_after s l es) e then count_at test s l es i + 1
    else count_at test s l es i

log_count : (test : Test) (s : Shape) (log : List Event) (c i : ℕ) →
    count_of test s log c i ≡ count_at test s first (events_of c log) i
log_count test s [] c i = refl
log_count test s (e ∷ log) c i = go (log_count test s log c i) (whole_state s c log) (cases_Bool (e.caller == c))
  where
    go : count_of test s log c i ≡ count_at test s first (events_of c log) i →
        local s log c ≡ state_after s first (events_of c log) → (e.caller == c ≡ true) ⊎ (e.caller == c ≡ false) →
        count_of test s (e ∷ log) c i ≡ count_at test s first (events_of c (e ∷ log)) i
    go ih same (inl q) = rw (q, ih, same) refl
    go ih same (inr q) = rw (q, ih) refl

counts_more : (b d : Bool) (m n : ℕ) → (b ≡ true → d ≡ true) → m ≤ n → cond b (m + 1) m ≤ cond d (n + 1) n
counts_more true true m n h le = omega arith
counts_more true false m n h le = absurd (let x = h refl in cc)
counts_more false true m n h le = omega arith
counts_more false false m n h le = le

newer_counts : (test : Test) (s : Shape) (l : LocalState) (es old : List Event) (i : ℕ) →
    count_at test s (state_after s l old) es i ≤ count_at test s l (es ++ old) i
newer_counts test s l [] old i = omega arith
newer_counts test s l (e ∷ es) old i =
    counts_more (passes (state_after s (state_after s l old) es)) (passes (state_after s l (es ++ old)))
    (count_at test s (state_after s l old) es i) (count_at test s l (es ++ old) i)
    (λ q. ap passes (state_both s l es old) ∙ q) (newer_counts test s l es old i)
  where
    passes : LocalState → Bool
    passes m = (m.begun == i) && test s m e

begun_in : (s : Shape) (l : LocalState) (es : List Event) → l.begun ≤ (state_after s l es).begun
begun_in s l [] = omega arith
begun_in s l (e ∷ es) =
    let a = begun_in s l es in let b = begun_step s (state_after s l es) e e.kind in omega arith

call_counts : (test : Test) (s : Shape) (l : LocalState) (es : List Event) (i : ℕ) → i ≤ l.begun →
    (state_after s l es).begun ≤ i → count_in test s l es ≤ count_at test s l es i
call_counts test s l [] i low high = omega arith
call_counts test s l (e ∷ es) i low high =
    let up = begun_step s (state_after s l es) e e.kind in
    let more = begun_in s l es in
    let here : (state_after s l es).begun ≡ i = omega arith in
    counts_more (test s (state_after s l es) e) (((state_after s l es).begun == i) && test s (state_after s l es) e)
    (count_in test s l es) (count_at test s l es i)
    (λ q. rw (eq-eqb (state_after s l es).begun i here, q) refl) (call_counts test s l es i low (omega arith))

-- what a call counts, the log counts for its attempt
pub log_counts : (test : Test) (s : Shape) (c i : ℕ) (es before run : List Event) →
    events_of c run ≡ es ++ events_of c before → (local s before c).begun ≡ i → (local s run c).begun ≡ i →
    count_in test s (local s before c) es ≤ count_of test s run c i
log_counts test s c i es before run own old new =
    let a = call_counts test s (local s before c) es i (omega arith) high in
    let b = subst (λ l. count_at test s l es i ≤ count_at test s first (es ++ events_of c before) i)
    (sym (whole_state s c before)) (newer_counts test s first es (events_of c before) i) in
    let d = log_count test s run c i ∙ ap (λ xs. count_at test s first xs i) own in omega arith
  where
    high : (state_after s (local s before c) es).begun ≤ i
    high = let x = ap (λ (l : LocalState). l.begun) (after_own s c run before es own) in omega arith

-- ---- a cause

disturbs : (again : Again) (s : Shape) (c i : ℕ) (es before run : List Event) →
    events_of c run ≡ es ++ events_of c before → (local s before c).begun ≡ i → (local s run c).begun ≡ i →
    Causes again s (local s before c) es → Disturbed s run c i
disturbs (Stale o) s c i es before run own old new h =
    became_stale (let a = has_counts h in
    let b = log_counts finds_stale s c i es before run own old new in omega arith)
disturbs Killed s c i es before run own old new h =
    was_aborted (let a = has_counts h in
    let b = log_counts finds_aborted s c i es before run own old new in omega arith)
disturbs Lost s c i es before run own old new h =
    missed (let a = misses_count s (local s before c) es in
    let b = log_counts fails s c i es before run own old new in omega arith)
disturbs Waited s c i es before run own old new h =
    gave_way h.greedy (let a = row_counts gives_way s (local s before c) h.looks (h.pause ∷ h.before) h.all in
    let m = more_counts gives_way s (local s before c) h.later (h.looks ++ h.pause ∷ h.before) in
    let w = ap (count_in gives_way s (local s before c)) h.whole in
    let b = log_counts gives_way s c i es before run own old new in
    let n = h.count in omega arith)

pub cause_disturbs : ACauseDisturbs
cause_disturbs = disturbs

-- ---- a longer log

pub count_later : (test : Test) (s : Shape) (later before : List Event) (c i : ℕ) →
    count_of test s before c i ≤ count_of test s (later ++ before) c i
count_later test s [] before c i = omega arith
count_later test s (e ∷ later) before c i =
    let ih = count_later test s later before c i in
    cond_both
    ((e.caller == c) && (((local s (later ++ before) c).begun == i) && test s (local s (later ++ before) c) e))
    (count_of test s (later ++ before) c i + 1) (count_of test s (later ++ before) c i)
    (λ n. count_of test s before c i ≤ n) (λ _. omega arith) (λ _. ih)

pub disturbed_stays : DisturbedStays
disturbed_stays s later before c i (became_stale h) =
    became_stale (let a = count_later finds_stale s later before c i in omega arith)
disturbed_stays s later before c i (was_aborted h) =
    was_aborted (let a = count_later finds_aborted s later before c i in omega arith)
disturbed_stays s later before c i (missed h) = missed (let a = count_later fails s later before c i in omega arith)
disturbed_stays s later before c i (gave_way g h) =
    gave_way g (let a = count_later gives_way s later before c i in omega arith)
