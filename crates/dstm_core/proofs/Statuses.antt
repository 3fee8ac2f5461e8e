-- How statuses change.
use Rattle.std.proofs.Common.{◌≡◌, ◌≢◌, ◌+◌, ◌*◌, ◌/◌, ◌%◌, ◌<◌, ◌≤◌, ◌==◌, ◌⊎◌, ◌∷◌, ◌++◌, ◌∙◌, ℕ, inl, inr, List, [], refl, ap, arith, sym, true, false, Some, None, is_some, subst}
use Rattle.dstm_core.proofs.Base.{AllowedAs, Begin, Commit, Core, Draw, Drawn, Enrol, Event, Install, Kind, LocalState, LookSelf, Outside, Pause, Paused, Phase, PutHigh, PutNew, Putting, Quit, Resume, Running, Shape, StatusWord, ToValidating, Validating, after, cases_Bool, cond_both, given, local, next_attempt, or_zero, own_attempt, place, word}
use Rattle.dstm_core.proofs.Places.{put_at}
use Rattle.dstm_core.proofs.Static.{Static, static, begun_more, local_own, callers}
use Rattle.dstm_core.proofs.Columns.{Begins, Changed, StatusMove, Step, begins, caller_of, change, in_table, index_of, kills, moves, own_in, step}
use Rattle.dstm_core.proofs.Basic.{own_place}

pub given_live : (p : Phase) → p ≢ Outside → (0 < given p) × (given p < 4)
given_live Outside h = absurd (h refl)
given_live Running h = (omega arith, omega arith)
given_live Paused h = (omega arith, omega arith)
given_live Putting h = (omega arith, omega arith)
given_live Validating h = (omega arith, omega arith)
given_live Drawn h = (omega arith, omega arith)

pub begin_may : (s : Shape) (l : LocalState) (e : Event) {k : Kind} → k ≡ Begin → AllowedAs k s l e →
    (l.phase ≡ Outside) × (is_some l.number ≡ true) × (l.begun < s.attempts)
begin_may s l e {k = Begin} q a = (a.2.0, a.2.1, a.2.2)
begin_may s l e q a = absurd (cc)

pub begun_up : (s : Shape) (l : LocalState) (e : Event) {k : Kind} → k ≡ Begin → (after k s l e).begun ≡ l.begun + 1
begun_up s l e {k = Begin} q = refl
begun_up s l e q = absurd (cc)

pub next_number : (s : Shape) (c : ℕ) (l : LocalState) → Static s c l → is_some l.number ≡ true →
    next_attempt s l ≡ c * s.attempts + l.begun
next_number s c l t h = go t.number
  where
    go : (l.number ≡ None) ⊎ (l.number ≡ Some c) → next_attempt s l ≡ c * s.attempts + l.begun
    go (inl q) = absurd (cc)
    go (inr q) = ap (λ n. or_zero n * s.attempts + l.begun) q

unbegun_step : {s : Shape} {es : List Event} {e : Event} → Step s es e → (c i : ℕ) → c < s.callers →
    i < s.attempts → (local s (e ∷ es) c).begun ≤ i → word s es (StatusWord (c * s.attempts + i)) ≡ 0 →
    word s (e ∷ es) (StatusWord (c * s.attempts + i)) ≡ 0
unbegun_step {s = s} {es = es} {e = e} st c i p q h before =
    elim (change (StatusWord (c * s.attempts + i)) st (in_table c s.attempts i s.callers p q)) [
      | inl x ↦ x ∙ before
      | inr x ↦ moved x.how x.was
    ]
  where
    beginning : Begins s (local s es e.caller) e (c * s.attempts + i) → ⊥
    beginning b = let may = begin_may s (local s es e.caller) e b.kind st.fits.allowed in
        let eq : c * s.attempts + i ≡ e.caller * s.attempts + (local s es e.caller).begun = b.attempt
        ∙ next_number s e.caller (local s es e.caller) st.own may.1 in
        let same : c ≡ e.caller = sym (caller_of c s.attempts i q) ∙ ap (λ n. n / s.attempts) eq
        ∙ caller_of e.caller s.attempts (local s es e.caller).begun may.2 in
        let index : i ≡ (local s es e.caller).begun = sym (index_of c s.attempts i q)
        ∙ ap (λ n. n % s.attempts) eq ∙ index_of e.caller s.attempts (local s es e.caller).begun may.2 in
        let up : (local s (e ∷ es) e.caller).begun ≡ (local s es e.caller).begun + 1 =
        ap (λ (l : LocalState). l.begun) (local_own s es e)
        ∙ begun_up s (local s es e.caller) e b.kind in
        let h' : (local s (e ∷ es) e.caller).begun ≤ i = subst (λ n. (local s (e ∷ es) n).begun ≤ i) same h in
        omega arith

    moved : StatusMove s (local s es e.caller) e (c * s.attempts + i) →
        word s es (StatusWord (c * s.attempts + i)) ≡ e.found → word s (e ∷ es) (StatusWord (c * s.attempts + i)) ≡ 0
    moved (begins b) w = absurd (beginning b)
    moved (moves m) w = let g = given_live (local s es e.caller).phase m.inside in let f = m.found in
        let b = before in absurd (omega arith)
    moved (kills k) w = let f = k.found in let b = before in absurd (omega arith)

-- an attempt that has not begun is idle
pub unbegun : (s : Shape) (es : List Event) → Core s es → (c i : ℕ) → c < s.callers → i < s.attempts →
    (local s es c).begun ≤ i → word s es (StatusWord (c * s.attempts + i)) ≡ 0
unbegun s [] core c i p q h = refl
unbegun s (e ∷ es) core c i p q h = let m = begun_more s es e c in
    unbegun_step (step s es e core) c i p q h (unbegun s es core.0 c i p q (omega arith))

-- a status that is finished stays
pub finished_step : (s : Shape) (es : List Event) (e : Event) (a : ℕ) → Core s (e ∷ es) → a < s.callers * s.attempts →
    4 ≤ word s es (StatusWord a) → word s (e ∷ es) (StatusWord a) ≡ word s es (StatusWord a)
finished_step s es e a core h f = elim (change (StatusWord a) st h) [ inl x ↦ x | inr x ↦ absurd (moved x.how x.was) ]
  where
    st : Step s es e
    st = step s es e core

    moved : StatusMove s (local s es e.caller) e a → word s es (StatusWord a) ≡ e.found → ⊥
    moved (begins b) w = let may = begin_may s (local s es e.caller) e b.kind st.fits.allowed in
        let eq : a ≡ e.caller * s.attempts + (local s es e.caller).begun = b.attempt
        ∙ next_number s e.caller (local s es e.caller) st.own may.1 in
        let idle : word s es (StatusWord a) ≡ 0 = ap (λ n. word s es (StatusWord n)) eq
        ∙ unbegun s es core.0 e.caller (local s es e.caller).begun st.fits.caller may.2 (omega arith) in
        omega arith
    moved (moves m) w = let g = given_live (local s es e.caller).phase m.inside in let q = m.found in
        omega arith
    moved (kills k) w = let q = k.found in omega arith

pub finished_stays : (s : Shape) (more es : List Event) (a : ℕ) → Core s (more ++ es) → a < s.callers * s.attempts →
    4 ≤ word s es (StatusWord a) → word s (more ++ es) (StatusWord a) ≡ word s es (StatusWord a)
finished_stays s [] es a core h f = refl
finished_stays s (e ∷ more) es a core h f = let ih = finished_stays s more es a core.0 h f in
    finished_step s (more ++ es) e a core h (rw ih f) ∙ ih

-- kinds that do not move the own status
abbrev pub Quiet : Kind → Type 0
Quiet k = (k ≢ ToValidating) × (k ≢ Commit) × (k ≢ Quit) × (k ≢ Pause) × (k ≢ Resume)

-- how a caller's phase changes
pub data PhaseHow (s : Shape) (l : LocalState) (e : Event) (k : Kind) : Type 0 where
  at_begin : k ≡ Begin → PhaseHow s l e k
  at_move : k ≢ Begin → l.phase ≢ Outside → e.place ≡ place s (StatusWord (own_attempt s l)) →
      e.put ≡ given (after k s l e).phase → own_attempt s (after k s l e) ≡ own_attempt s l → PhaseHow s l e k
  at_none : l.phase ≢ Outside → given (after k s l e).phase ≡ given l.phase →
      own_attempt s (after k s l e) ≡ own_attempt s l → Quiet k → PhaseHow s l e k

pub phase_how : (s : Shape) (c : ℕ) (l : LocalState) (e : Event) (k : Kind) → Static s c l → AllowedAs k s l e →
    (after k s l e).phase ≢ Outside → PhaseHow s l e k
phase_how s c l e Enrol t a h = absurd (let x = t.active in grind arith)
phase_how s c l e Begin t a h = at_begin refl
phase_how s c l e Install t a h =
    at_none (λ q. let i = a.2.0 in cc)
    (cond_both (e.found == e.expected) _ _ (λ (m : LocalState). given m.phase ≡ given l.phase) (λ _. refl) (λ _. refl))
    (cond_both (e.found == e.expected) _ _ (λ (m : LocalState). own_attempt s m ≡ own_attempt s l) (λ _. refl)
    (λ _. refl)) ((λ q. cc), (λ q. cc), (λ q. cc), (λ q. cc), (λ q. cc))
phase_how s c l e LookSelf t a h = elim (cases_Bool (e.found == given l.phase)) [
  | inl q ↦
      at_none (λ x. let i = a.2.0 in cc) (rw q refl) (rw q refl)
      ((λ q. cc), (λ q. cc), (λ q. cc), (λ q. cc), (λ q. cc))
  | inr q ↦ absurd (h (rw q refl))
]
phase_how s c l e PutNew t a h =
    at_none (λ q. let i = a.2.0 in cc) (ap given (sym a.2.0)) refl
    ((λ q. cc), (λ q. cc), (λ q. cc), (λ q. cc), (λ q. cc))
phase_how s c l e PutHigh t a h =
    at_none (λ q. let i = a.2.0 in grind arith) (let i = a.2.0 in grind arith) refl
    ((λ q. cc), (λ q. cc), (λ q. cc), (λ q. cc), (λ q. cc))
phase_how s c l e ToValidating t a h = elim (cases_Bool (e.found == 1)) [
  | inl q ↦ at_move (λ x. cc) (λ x. let i = a.2.0 in grind arith) a.0 (a.1.1 ∙ rw q refl) (rw q refl)
  | inr q ↦ absurd (h (rw q refl))
]
phase_how s c l e Pause t a h = elim (cases_Bool (e.found == 1)) [
  | inl q ↦ at_move (λ x. cc) (λ x. let i = a.2.0 in cc) a.0 (a.1.1 ∙ rw q refl) (rw q refl)
  | inr q ↦ absurd (h (rw q refl))
]
phase_how s c l e Resume t a h = elim (cases_Bool (e.found == 2)) [
  | inl q ↦ at_move (λ x. cc) (λ x. let i = a.2.0 in cc) a.0 (a.1.1 ∙ rw q refl) (rw q refl)
  | inr q ↦ absurd (h (rw q refl))
]
phase_how s c l e Draw t a h =
    at_none (λ q. let i = a.2.0 in cc) (ap given (sym a.2.0)) refl
    ((λ q. cc), (λ q. cc), (λ q. cc), (λ q. cc), (λ q. cc))
phase_how s c l e Commit t a h = absurd (h refl)
phase_how s c l e Quit t a h = absurd (h refl)
phase_how s c l e k t a h = at_none h refl refl ((λ q. cc), (λ q. cc), (λ q. cc), (λ q. cc), (λ q. cc))

-- the status of an attempt that is under way is the one given last, or it was aborted
abbrev pub OwnStatus : Shape → List Event → LocalState → Type 0
OwnStatus s es l =
    (word s es (StatusWord (own_attempt s l)) ≡ given l.phase) ⊎ (word s es (StatusWord (own_attempt s l)) ≡ 5)

-- two attempts of two callers are two
pub own_differs : (s : Shape) (c d : ℕ) (l m : LocalState) → Static s c l → Static s d m → c < s.callers →
    d < s.callers → l.phase ≢ Outside → m.phase ≢ Outside → own_attempt s l ≡ own_attempt s m → c ≡ d
own_differs s c d l m t u p q g h eq =
    sym (own_place s c l t p g).1 ∙ ap (λ n. n / s.attempts) eq ∙ (own_place s d m u q h).1

pub own_status_step : (s : Shape) (es : List Event) (e : Event) → Core s (e ∷ es) → (c : ℕ) → c < s.callers →
    (local s es c).phase ≢ Outside → (e.caller ≡ c → Quiet e.kind) →
    (word s es (StatusWord (own_attempt s (local s es c))) ≡ given (local s es c).phase)
    ⊎ (word s es (StatusWord (own_attempt s (local s es c))) ≡ 5) →
    (word s (e ∷ es) (StatusWord (own_attempt s (local s es c))) ≡ given (local s es c).phase)
    ⊎ (word s (e ∷ es) (StatusWord (own_attempt s (local s es c))) ≡ 5)
own_status_step s es e core c lt out quiet before =
    elim (change (StatusWord (own_attempt s (local s es c))) st (own_in s c (local s es c) t lt out)) [
      | inl x ↦ rw x before
      | inr x ↦ moved x.how x.now
    ]
  where
    st : Step s es e
    st = step s es e core

    t : Static s c (local s es c)
    t = static s es core.0 c

    excluded : Quiet e.kind →
        ((e.kind ≡ ToValidating) × (e.put ≡ 3)) ⊎ ((e.kind ≡ Commit) × (e.put ≡ 4))
        ⊎ ((e.kind ≡ Quit) × (e.put ≡ 5)) ⊎ ((e.kind ≡ Pause) × (e.put ≡ 2))
        ⊎ ((e.kind ≡ Resume) × (e.put ≡ 1)) → ⊥
    excluded n (inl x) = n.0 x.0
    excluded n (inr (inl x)) = n.1 x.0
    excluded n (inr (inr (inl x))) = n.2 x.0
    excluded n (inr (inr (inr (inl x)))) = n.3 x.0
    excluded n (inr (inr (inr (inr x)))) = n.4 x.0

    moved : StatusMove s (local s es e.caller) e (own_attempt s (local s es c)) →
        word s (e ∷ es) (StatusWord (own_attempt s (local s es c))) ≡ e.put →
        (word s (e ∷ es) (StatusWord (own_attempt s (local s es c))) ≡ given (local s es c).phase)
        ⊎ (word s (e ∷ es) (StatusWord (own_attempt s (local s es c))) ≡ 5)
    moved (begins b) w = let may = begin_may s (local s es e.caller) e b.kind st.fits.allowed in
        let eq : own_attempt s (local s es c) ≡ e.caller * s.attempts + (local s es e.caller).begun = b.attempt
        ∙ next_number s e.caller (local s es e.caller) st.own may.1 in
        let same : c ≡ e.caller = sym (own_place s c (local s es c) t lt out).1 ∙ ap (λ n. n / s.attempts) eq
        ∙ caller_of e.caller s.attempts (local s es e.caller).begun may.2 in
        absurd (out (ap (λ n. (local s es n).phase) same ∙ may.0))
    moved (moves m) w =
        let same : e.caller ≡ c =
        own_differs s e.caller c (local s es e.caller) (local s es c) st.own t st.fits.caller lt m.inside out
        (sym m.attempt) in
        absurd (excluded (quiet same) m.how)
    moved (kills k) w = inr (w ∙ k.put)

pub begin_put : (s : Shape) (l : LocalState) (e : Event) {k : Kind} → k ≡ Begin → AllowedAs k s l e →
    (e.place ≡ place s (StatusWord (next_attempt s l))) × (e.put ≡ 1) × ((after k s l e).phase ≡ Running)
    × (own_attempt s (after k s l e) ≡ next_attempt s l)
begin_put s l e {k = Begin} q a = (a.0, a.1.1, refl, ap (λ n. or_zero l.number * s.attempts + n) (omega arith))
begin_put s l e q a = absurd (cc)

at_own : {s : Shape} (es : List Event) {e : Event} → Core s (e ∷ es) →
    (e.caller < s.callers → (local s es e.caller).phase ≢ Outside → OwnStatus s es (local s es e.caller)) →
    PhaseHow s (local s es e.caller) e e.kind → OwnStatus s (e ∷ es) (after e.kind s (local s es e.caller) e)
at_own {s = s} es {e = e} core ih (at_begin k) = let p = begin_put s (local s es e.caller) e k core.1.allowed in
    inl (ap (λ n. word s (e ∷ es) (StatusWord n)) p.3 ∙ put_at es e _ p.0 ∙ p.1 ∙ sym (ap given p.2))
at_own {s = s} es {e = e} core ih (at_move n out pl put o) =
    inl (ap (λ n. word s (e ∷ es) (StatusWord n)) o ∙ put_at es e _ pl ∙ put)
at_own {s = s} es {e = e} core ih (at_none out g o n) =
    rw (o, g) (own_status_step s es e core e.caller core.1.caller out (λ _. n) (ih core.1.caller out))

pub own_status : (s : Shape) (es : List Event) → Core s es → (c : ℕ) → c < s.callers →
    (local s es c).phase ≢ Outside → OwnStatus s es (local s es c)
own_status s [] core c lt out = absurd (out refl)
own_status s (e ∷ es) core c lt out =
    callers s es e (λ c l. c < s.callers → l.phase ≢ Outside → OwnStatus s (e ∷ es) l)
    (λ lt out. at_own es core (own_status s es core.0 e.caller)
    (phase_how s e.caller (local s es e.caller) e e.kind (static s es core.0 e.caller) core.1.allowed out))
    (λ c d lt out. own_status_step s es e core c lt out (λ q. absurd (d q)) (own_status s es core.0 c lt out)) c lt out
