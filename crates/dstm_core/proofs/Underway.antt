-- Attempts under way: each attempt that has begun is finished, or its caller has it under way; and what an event does
-- to an attempt under way.
use Rattle.std.proofs.Common.{◌%◌, ◌*◌, ◌+◌, ◌-◌, ◌/◌, ◌<◌, ◌==◌, ◌∙◌, ◌∷◌, ◌≡◌, ◌≢◌, ◌≤◌, ◌⊎◌, List, [], ap, arith, cond, false, inl, inr, length, refl, subst, sym, true, ℕ}
use Rattle.dstm_core.proofs.Base.{AllowedAs, Begin, Commit, Core, Draw, Event, Install, Kind, LocalState, LookSelf, Outside, Pause, Paused, Phase, PutHigh, PutNew, Putting, Quit, Resume, Running, Shape, StatusWord, ToValidating, Validating, after, at, cases_Bool, cases_eq, cases_lt, cond_both, eq-eqb, given, local, nat_tests, own_attempt, place, word}
use Rattle.std.proofs.lemmas.Nat.{mul-le}
use Rattle.std.proofs.Math.Nat.{div-add-mod}
use Rattle.dstm_core.proofs.Basic.{own_place}
use Rattle.dstm_core.proofs.Begun.{begun_how}
use Rattle.dstm_core.proofs.Columns.{Begun, Changed, Kills, Moves, StatusMove, Step, begins, change, in_table, kills, moves, own_in, step}
use Rattle.dstm_core.proofs.Places.{put_at}
use Rattle.dstm_core.proofs.Static.{callers, local_other, local_own, static}
use Rattle.dstm_core.proofs.Statuses.{OwnStatus, PhaseHow, at_begin, at_move, at_none, begin_may, begin_put, finished_step, given_live, own_differs, own_status, phase_how}

put_finished : (found expected value put : ℕ) → put ≡ cond (found == expected) value found → 4 ≤ value →
    (found ≡ expected) ⊎ (found ≡ 5) → 4 ≤ put
put_finished found expected value put h v (inl q) = grind (arith, nat_tests)
put_finished found expected value put h v (inr q) = grind (arith, nat_tests)

put_other : (found expected value put : ℕ) → put ≡ cond (found == expected) value found → 4 ≤ found →
    expected < 4 → 4 ≤ put
put_other found expected value put h f v = grind (arith, nat_tests)

-- an exchange by which an attempt is left, though not by the status that it puts, found this aborted
left_by : (e : Event) (now expected value : ℕ) → now ≡ expected → expected < 4 →
    e.put ≡ cond (e.found == expected) value e.found → ((e.found == expected) ≡ true → ⊥) →
    (e.found ≡ now) ⊎ (e.found ≡ 5) → 4 ≤ e.put
left_by e now expected value same small put other (inl x) = absurd (other (eq-eqb e.found expected (x ∙ same)))
left_by e now expected value same small put other (inr x) =
    put_other e.found expected value e.put put (omega arith) small

-- an attempt is left by an event that finds its status aborted, or that finishes it
pub leaves : (s : Shape) (l : LocalState) (e : Event) (k : Kind) → AllowedAs k s l e → l.phase ≢ Outside →
    (after k s l e).phase ≡ Outside → (e.found ≡ given l.phase) ⊎ (e.found ≡ 5) →
    (e.place ≡ place s (StatusWord (own_attempt s l))) × (4 ≤ e.put)
leaves s l e Begin a h out f = absurd (cc)
leaves s l e Install a h out f = absurd (h
    (cond_both (e.found == e.expected) _ _ (λ (m : LocalState). m.phase ≡ Outside → l.phase ≡ Outside) (λ _ q. q)
    (λ _ q. q) out))
leaves s l e LookSelf a h out f = go (cases_Bool (e.found == given l.phase)) f
  where
    go : (e.found == given l.phase ≡ true) ⊎ (e.found == given l.phase ≡ false) →
        (e.found ≡ given l.phase) ⊎ (e.found ≡ 5) → (e.place ≡ place s (StatusWord (own_attempt s l))) × (4 ≤ e.put)
    go (inl q) f = absurd (h (rw q at out))
    go (inr q) (inl x) = absurd (let y = eq-eqb e.found (given l.phase) x in cc)
    go (inr q) (inr x) = (a.0, let p = a.1.1 in omega arith)
leaves s l e PutHigh a h out f = absurd (cc)
leaves s l e PutNew a h out f = absurd (cc)
leaves s l e Draw a h out f = absurd (cc)
leaves s l e ToValidating a h out f = (
  a.0,
  left_by e (given l.phase) 1 3 (was a.2.0) (omega arith) a.1.1
      (λ q. let w : Validating ≡ Outside = rw q at out in cc) f,
)
  where
    was : ((l.phase ≡ Running) × (l.writes ≡ [])) ⊎ ((l.phase ≡ Putting) × (l.written ≡ length l.writes)) →
        given l.phase ≡ 1
    was (inl x) = ap given x.0
    was (inr x) = ap given x.0
leaves s l e Commit a h out f = (a.0, put_finished e.found 3 4 e.put a.1.1 (omega arith) (go f))
  where
    go : (e.found ≡ given l.phase) ⊎ (e.found ≡ 5) → (e.found ≡ 3) ⊎ (e.found ≡ 5)
    go (inl x) = inl (x ∙ ap given a.2.0)
    go (inr x) = inr x
leaves s l e Quit a h out f = (a.0, put_finished e.found (given l.phase) 5 e.put a.1.1 (omega arith) f)
leaves s l e Pause a h out f = (
  a.0,
  left_by e (given l.phase) 1 2 (ap given a.2.0) (omega arith) a.1.1
      (λ q. let w : Paused ≡ Outside = rw q at out in cc) f,
)
leaves s l e Resume a h out f = (
  a.0,
  left_by e (given l.phase) 2 1 (ap given a.2.0) (omega arith) a.1.1
      (λ q. let w : Running ≡ Outside = rw q at out in cc) f,
)
leaves s l e k a h out f = absurd (h out)

-- an event of an attempt under way that leaves it aims at the own status, which says what it finds
left_at : (s : Shape) (l : LocalState) (e : Event) (k : Kind) → AllowedAs k s l e → l.phase ≢ Outside →
    (after k s l e).phase ≡ Outside → e.place ≡ place s (StatusWord (own_attempt s l))
left_at s l e Begin a h out = absurd (cc)
left_at s l e Install a h out = absurd (h
    (cond_both (e.found == e.expected) _ _ (λ (m : LocalState). m.phase ≡ Outside → l.phase ≡ Outside) (λ _ q. q)
    (λ _ q. q) out))
left_at s l e LookSelf a h out = a.0
left_at s l e PutHigh a h out = absurd (cc)
left_at s l e PutNew a h out = absurd (cc)
left_at s l e Draw a h out = absurd (cc)
left_at s l e ToValidating a h out = a.0
left_at s l e Commit a h out = a.0
left_at s l e Quit a h out = a.0
left_at s l e Pause a h out = a.0
left_at s l e Resume a h out = a.0
left_at s l e k a h out = absurd (h out)

-- an attempt that is left is finished
pub left_finished : (s : Shape) (es : List Event) (e : Event) → Core s (e ∷ es) →
    (local s es e.caller).phase ≢ Outside → (local s (e ∷ es) e.caller).phase ≡ Outside →
    4 ≤ word s (e ∷ es) (StatusWord (own_attempt s (local s es e.caller)))
left_finished s es e core h out = rw (put_at es e _ at_own) (leaves s l e e.kind core.1.allowed h gone found).1
  where
    l : LocalState
    l = local s es e.caller

    gone : (after e.kind s (local s es e.caller) e).phase ≡ Outside
    gone = rw (local_own s es e) at out

    at_own : e.place ≡ place s (StatusWord (own_attempt s (local s es e.caller)))
    at_own = left_at s (local s es e.caller) e e.kind core.1.allowed h gone

    same : e.found ≡ word s es (StatusWord (own_attempt s (local s es e.caller)))
    same = core.1.linked ∙ ap (at es) at_own

    found : (e.found ≡ given (local s es e.caller).phase) ⊎ (e.found ≡ 5)
    found = rw same (own_status s es core.0 e.caller core.1.caller h)

-- attempt i of caller c is under way
pub record IsUnderWay (s : Shape) (es : List Event) (c i : ℕ) : Type 0 where
  pub inside : (local s es c).phase ≢ Outside
  pub last : (local s es c).begun ≡ i + 1

pub is_outside_now : (p : Phase) → (p ≡ Outside) ⊎ (p ≢ Outside)
is_outside_now Outside = inl refl
is_outside_now p = inr (λ q. cc)

-- each attempt that began is finished or under way
pub finished_or_under_way : (s : Shape) (es : List Event) → Core s es → (c i : ℕ) → c < s.callers →
    i < (local s es c).begun → (4 ≤ word s es (StatusWord (c * s.attempts + i))) ⊎ IsUnderWay s es c i
finished_or_under_way s [] core c i b lt = absurd (omega arith)
finished_or_under_way s (e ∷ es) core c i b lt = go (cases_eq e.caller c) (finished_or_under_way s es core.0 c i b)
  where
    below : i < (local s (e ∷ es) c).begun → c * s.attempts + i < s.callers * s.attempts
    below lt = let x = (static s (e ∷ es) core c).begun in in_table c s.attempts i s.callers b (omega arith)

    stays : 4 ≤ word s es (StatusWord (c * s.attempts + i)) → 4 ≤ word s (e ∷ es) (StatusWord (c * s.attempts + i))
    stays f = rw (finished_step s es e (c * s.attempts + i) core (below lt) f) f

    own : e.caller ≡ c → (i < (local s es c).begun →
        (4 ≤ word s es (StatusWord (c * s.attempts + i))) ⊎ IsUnderWay s es c i) →
        (4 ≤ word s (e ∷ es) (StatusWord (c * s.attempts + i))) ⊎ IsUnderWay s (e ∷ es) c i
    own q ih = at_kind (begun_how s (local s es e.caller) e e.kind)
      where
        now : local s (e ∷ es) c ≡ after e.kind s (local s es e.caller) e
        now = ap (local s (e ∷ es)) (sym q) ∙ local_own s es e

        was : local s es e.caller ≡ local s es c
        was = ap (local s es) q

        goes : (local s (e ∷ es) c).begun ≡ (local s es c).begun → IsUnderWay s es c i →
            ((local s (e ∷ es) c).phase ≡ Outside) ⊎ ((local s (e ∷ es) c).phase ≢ Outside) →
            (4 ≤ word s (e ∷ es) (StatusWord (c * s.attempts + i))) ⊎ IsUnderWay s (e ∷ es) c i
        goes n u (inr y) = inr (record { inside = y; last = n ∙ u.last })
        goes n u (inl y) =
            let out : (local s es e.caller).phase ≢ Outside =
            λ z. u.inside (ap (λ (l : LocalState). l.phase) (sym was) ∙ z) in
            let f = left_finished s es e core out (subst (λ d. (local s (e ∷ es) d).phase ≡ Outside) (sym q) y) in
            let place = (own_place s e.caller (local s es e.caller)
            (static s es core.0 e.caller) core.1.caller out).0 in
            let index : (local s es e.caller).begun - 1 ≡ i = let u' = u.last in
            let w = ap (λ (l : LocalState). l.begun) was in omega arith in
            let num : own_attempt s (local s es e.caller) ≡ c * s.attempts + i = place
            ∙ ap (λ d. d * s.attempts + ((local s es e.caller).begun - 1)) q
            ∙ ap (λ n. c * s.attempts + n) index in
            inl (subst (λ a. 4 ≤ word s (e ∷ es) (StatusWord a)) num f)

        same : (local s (e ∷ es) c).begun ≡ (local s es c).begun →
            (4 ≤ word s es (StatusWord (c * s.attempts + i))) ⊎ IsUnderWay s es c i →
            (4 ≤ word s (e ∷ es) (StatusWord (c * s.attempts + i))) ⊎ IsUnderWay s (e ∷ es) c i
        same n (inl f) = inl (stays f)
        same n (inr u) = goes n u (is_outside_now (local s (e ∷ es) c).phase)

        new : e.kind ≡ Begin → (local s (e ∷ es) c).begun ≡ (local s es c).begun + 1 →
            (i < (local s es c).begun) ⊎ ((local s es c).begun ≤ i) →
            (4 ≤ word s (e ∷ es) (StatusWord (c * s.attempts + i))) ⊎ IsUnderWay s (e ∷ es) c i
        new k n (inl x) = elim (ih x) [
          | inl f ↦ inl (stays f)
          | inr u ↦
              let may = begin_may s (local s es e.caller) e k core.1.allowed in
              absurd (u.inside (ap (λ (l : LocalState). l.phase) (sym was) ∙ may.0))
        ]
        new k n (inr x) = inr (record {
          inside = λ z. let r : (local s (e ∷ es) c).phase ≡ Running = ap (λ (l : LocalState). l.phase) now
              ∙ (begin_put s (local s es e.caller) e k core.1.allowed).2 in cc;
          last = let y = lt in omega arith;
        })

        at_kind : ((e.kind ≡ Begin) × ((after e.kind s (local s es e.caller) e).begun ≡
            (local s es e.caller).begun + 1))
            ⊎ ((e.kind ≢ Begin) × ((after e.kind s (local s es e.caller) e).begun ≡ (local s es e.caller).begun)) →
            (4 ≤ word s (e ∷ es) (StatusWord (c * s.attempts + i))) ⊎ IsUnderWay s (e ∷ es) c i
        at_kind (inl x) = new x.0
            (ap (λ (l : LocalState). l.begun) now ∙ x.1 ∙ ap (λ (l : LocalState). l.begun + 1) was)
            (cases_lt i (local s es c).begun)
        at_kind (inr x) =
            let n : (local s (e ∷ es) c).begun ≡ (local s es c).begun =
            ap (λ (l : LocalState). l.begun) now ∙ x.1 ∙ ap (λ (l : LocalState). l.begun) was in
            same n (ih (let y = lt in omega arith))

    go : (e.caller ≡ c) ⊎ (e.caller ≡ c → ⊥) → (i < (local s es c).begun →
        (4 ≤ word s es (StatusWord (c * s.attempts + i))) ⊎ IsUnderWay s es c i) →
        (4 ≤ word s (e ∷ es) (StatusWord (c * s.attempts + i))) ⊎ IsUnderWay s (e ∷ es) c i
    go (inl q) ih = own q ih
    go (inr d) ih = other (ih (rw (local_other s es e c d) at lt))
      where
        other : (4 ≤ word s es (StatusWord (c * s.attempts + i))) ⊎ IsUnderWay s es c i →
            (4 ≤ word s (e ∷ es) (StatusWord (c * s.attempts + i))) ⊎ IsUnderWay s (e ∷ es) c i
        other (inl f) = inl (stays f)
        other (inr u) = inr (record {
          inside = λ z. u.inside (ap (λ (l : LocalState). l.phase) (sym (local_other s es e c d)) ∙ z);
          last = ap (λ (l : LocalState). l.begun) (local_other s es e c d) ∙ u.last;
        })

-- where the status of an attempt that began is live, its caller has it under way
pub live_under_way : {s : Shape} {es : List Event} → Core s es → {a : ℕ} → Begun s es a →
    word s es (StatusWord a) < 4 →
    ((local s es (a / s.attempts)).phase ≢ Outside) × (own_attempt s (local s es (a / s.attempts)) ≡ a)
    × (a / s.attempts < s.callers)
live_under_way {s = s} {es = es} core {a = a} b live =
    elim (finished_or_under_way s es core (a / s.attempts) (a % s.attempts) below b.begun) [
      | inl f ↦ absurd (let x = rw parts at f in omega arith)
      | inr u ↦
          let x = own_place s (a / s.attempts) (local s es (a / s.attempts)) (static s es core
          (a / s.attempts)) below u.inside in
          let y = u.last in (
            u.inside,
            x.0 ∙ ap (λ n. a / s.attempts * s.attempts + n) (omega arith)
                ∙ parts,
            below,
          )
    ]
  where
    parts : a / s.attempts * s.attempts + a % s.attempts ≡ a
    parts = omega (arith, div-add-mod a s.attempts)

    below : a / s.attempts < s.callers
    below = elim (cases_lt (a / s.attempts) s.callers) [
      | inl x ↦ x
      | inr x ↦
          let y = mul-le s.callers s.attempts (a / s.attempts) s.attempts x (omega arith) in
          let z = b.below in let w = parts in absurd (omega arith)
    ]

-- ---- an attempt under way

-- an attempt goes on, but at a Begin
pub goes_on : {s : Shape} {l : LocalState} {e : Event} {k : Kind} → AllowedAs k s l e → k ≢ Begin →
    PhaseHow s l e k → (l.phase ≢ Outside) × (own_attempt s (after k s l e) ≡ own_attempt s l)
goes_on a n (at_begin q) = absurd (n q)
goes_on a n (at_move m out pl put o) = (out, o)
goes_on a n (at_none out g o m) = (out, o)

quit_leaves : (s : Shape) (l : LocalState) (e : Event) {k : Kind} → k ≡ Quit → (after k s l e).phase ≡ Outside
quit_leaves s l e {k = Quit} q = refl
quit_leaves s l e q = absurd (cc)

pub not_begin : (s : Shape) (es : List Event) (e : Event) → Core s (e ∷ es) →
    (local s es e.caller).phase ≢ Outside → e.kind ≢ Begin
not_begin s es e core h k = h (begin_may s (local s es e.caller) e k core.1.allowed).0

-- an attempt under way has the same number after an event
pub own_same : (s : Shape) (es : List Event) (e : Event) (c : ℕ) → Core s (e ∷ es) → c < s.callers →
    (local s es c).phase ≢ Outside → (local s (e ∷ es) c).phase ≢ Outside →
    own_attempt s (local s (e ∷ es) c) ≡ own_attempt s (local s es c)
own_same s es e c core b h i = callers s es e
    (λ c l. c < s.callers → (local s es c).phase ≢ Outside → l.phase ≢ Outside →
    own_attempt s l ≡ own_attempt s (local s es c)) (λ b h i. (goes_on core.1.allowed (not_begin s es e core h)
    (phase_how s e.caller (local s es e.caller) e e.kind (static s es core.0 e.caller) core.1.allowed i)).1)
    (λ c d b h i. refl) c b h i

-- the status of an attempt under way is the one given last, unless another attempt aborts it
pub status_or_killed : (s : Shape) (es : List Event) (e : Event) (c : ℕ) → Core s (e ∷ es) → c < s.callers →
    (local s es c).phase ≢ Outside → (local s (e ∷ es) c).phase ≢ Outside →
    word s es (StatusWord (own_attempt s (local s es c))) ≡ given (local s es c).phase →
    (word s (e ∷ es) (StatusWord (own_attempt s (local s (e ∷ es) c))) ≡ given (local s (e ∷ es) c).phase)
    ⊎ (Kills s (local s es e.caller) e (own_attempt s (local s es c))
    × (word s es (StatusWord (own_attempt s (local s es c))) ≡ e.found))
status_or_killed s es e c core b h i before = go (own_status s (e ∷ es) core c b i)
  where
    a : ℕ
    a = own_attempt s (local s es c)

    st : Step s es e
    st = step s es e core

    quits : Moves s (local s es e.caller) e (own_attempt s (local s es c)) → e.kind ≡ Quit → ⊥
    quits m k =
        let same : e.caller ≡ c = own_differs s e.caller c (local s es e.caller) (local s es c) st.own
        (static s es core.0 c) st.fits.caller b m.inside h (sym m.attempt) in
        i (ap (λ n. (local s (e ∷ es) n).phase) (sym same) ∙ ap (λ (l : LocalState). l.phase) (local_own s es e)
        ∙ quit_leaves s (local s es e.caller) e k)

    moved : Moves s (local s es e.caller) e (own_attempt s (local s es c)) → e.put ≡ 5 →
        ((e.kind ≡ ToValidating) × (e.put ≡ 3)) ⊎ ((e.kind ≡ Commit) × (e.put ≡ 4))
        ⊎ ((e.kind ≡ Quit) × (e.put ≡ 5)) ⊎ ((e.kind ≡ Pause) × (e.put ≡ 2))
        ⊎ ((e.kind ≡ Resume) × (e.put ≡ 1)) → ⊥
    moved m p (inl x) = let y = x.1 in omega arith
    moved m p (inr (inl x)) = let y = x.1 in omega arith
    moved m p (inr (inr (inl x))) = quits m x.0
    moved m p (inr (inr (inr (inl x)))) = let y = x.1 in omega arith
    moved m p (inr (inr (inr (inr x)))) = let y = x.1 in omega arith

    by_move : StatusMove s (local s es e.caller) e (own_attempt s (local s es c)) → e.put ≡ 5 →
        Kills s (local s es e.caller) e (own_attempt s (local s es c))
    by_move (begins x) p = absurd (let y = x.put in omega arith)
    by_move (moves x) p = absurd (moved x p x.how)
    by_move (kills x) p = x

    at_word : word s (e ∷ es) (StatusWord (own_attempt s (local s es c))) ≡ 5 →
        (word s (e ∷ es) (StatusWord (own_attempt s (local s es c))) ≡ word s es (StatusWord (own_attempt s
        (local s es c))))
        ⊎ Changed s es e (StatusWord (own_attempt s (local s es c))) →
        Kills s (local s es e.caller) e (own_attempt s (local s es c))
        × (word s es (StatusWord (own_attempt s (local s es c))) ≡ e.found)
    at_word n (inl x) = absurd (let g = (given_live (local s es c).phase h).1 in let y = before in omega arith)
    at_word n (inr x) = (by_move x.how (sym x.now ∙ n), x.was)

    go : OwnStatus s (e ∷ es) (local s (e ∷ es) c) →
        (word s (e ∷ es) (StatusWord (own_attempt s (local s (e ∷ es) c))) ≡ given (local s (e ∷ es) c).phase)
        ⊎ (Kills s (local s es e.caller) e (own_attempt s (local s es c))
        × (word s es (StatusWord (own_attempt s (local s es c))) ≡ e.found))
    go (inl x) = inl x
    go (inr x) = inr (at_word (ap (λ n. word s (e ∷ es) (StatusWord n)) (sym (own_same s es e c core b h i))
        ∙ x) (change (StatusWord (own_attempt s (local s es c))) st (own_in s c (local s es c)
        (static s es core.0 c) b h)))
