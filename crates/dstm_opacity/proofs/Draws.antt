-- Which attempts have drawn their number.
use Rattle.std.proofs.Common.{◌%◌, ◌&&◌, ◌*◌, ◌/◌, ◌<◌, ◌==◌, ◌∙◌, ◌∷◌, ◌≡◌, ◌≢◌, ◌⊎◌, Bool, List, [], ap, arith, false, inl, inr, length, refl, subst, sym, true, ℕ}
use Rattle.dstm_core.proofs.Base.{AllowedAs, Core, Event, LocalState, StatusWord, after, and_parts, cases_Bool, cond_both, drawn, eq-eqb, eqb-true, given, is_draw, local, next_attempt, own_attempt, word}
use Rattle.dstm_opacity.proofs.Base.{Begin, Commit, Draw, Drawn, Install, Kind, LookSelf, Outside, Pause, Phase, PutHigh, PutNew, Putting, Quit, Resume, Running, Shape, ToValidating, Validating}
use Rattle.dstm_core.proofs.Basic.{own_begun}
use Rattle.dstm_core.proofs.Columns.{Begun, Moves, StatusMove, begins, begun_still, caller_of, change, index_of, kills, moves, step}
use Rattle.dstm_core.proofs.Static.{callers, static}
use Rattle.dstm_core.proofs.Statuses.{PhaseHow, begin_may, begin_put, next_number, own_differs, phase_how}
use Rattle.dstm_core.proofs.Underway.{goes_on}

-- the phase of an attempt that has drawn and is under way
unfoldable pub is_drawn : Phase → Bool
is_drawn Drawn = true
is_drawn p = false

-- where a Draw is allowed
pub draw_may : (s : Shape) (l : LocalState) (e : Event) (k : Kind) → is_draw k ≡ true → AllowedAs k s l e →
    l.phase ≡ Validating
draw_may s l e Draw q a = a.2.0
draw_may s l e k q a = absurd (cc)

-- an attempt that has drawn stays so, and is one that began
drawn_now : (s : Shape) (es : List Event) (e : Event) (a : ℕ) → drawn s (e ∷ es) a ≡ true →
    (drawn s es a ≡ true) ⊎ ((is_draw e.kind ≡ true) × (own_attempt s (local s es e.caller) ≡ a))
drawn_now s es e a h = elim (cases_Bool (is_draw e.kind && (own_attempt s (local s es e.caller) == a))) [
  | inl q ↦
      let two = and_parts (is_draw e.kind) (own_attempt s (local s es e.caller) == a) q in
      inr (two.0, eqb-true (own_attempt s (local s es e.caller)) a two.1)
  | inr q ↦ inl (rw q at h)
]

-- an attempt that has drawn stays so
pub drawn_more : (s : Shape) (es : List Event) (e : Event) (a : ℕ) → drawn s es a ≡ true → drawn s (e ∷ es) a ≡ true
drawn_more s es e a h =
    cond_both (is_draw e.kind && (own_attempt s (local s es e.caller) == a)) true (drawn s es a) (λ b. b ≡ true)
    (λ _. refl) (λ _. h)

-- it has begun
pub drawn_begun : (s : Shape) (es : List Event) → Core s es → (a : ℕ) → drawn s es a ≡ true → Begun s es a
drawn_begun s [] core a h = absurd (cc)
drawn_begun s (e ∷ es) core a h = elim (drawn_now s es e a h) [
  | inl q ↦ begun_still e (drawn_begun s es core.0 a q)
  | inr q ↦
      let v = draw_may s (local s es e.caller) e e.kind q.0 core.1.allowed in
      begun_still e (subst (Begun s es) q.1
      (own_begun s es e.caller (static s es core.0 e.caller) core.1.caller (λ z. cc)))
]

-- other events than draws
pub drawn_same : (s : Shape) (es : List Event) (e : Event) (a : ℕ) →
    (is_draw e.kind ≡ true → own_attempt s (local s es e.caller) ≢ a) → drawn s (e ∷ es) a ≡ drawn s es a
drawn_same s es e a h =
    cond_both (is_draw e.kind && (own_attempt s (local s es e.caller) == a)) true (drawn s es a) (λ b. b ≡ drawn s es a)
    (λ q. let two = and_parts (is_draw e.kind) (own_attempt s (local s es e.caller) == a) q in
    absurd (h two.0 (eqb-true (own_attempt s (local s es e.caller)) a two.1))) (λ _. refl)

-- a Draw is one of the own attempt
pub drawn_yes : (s : Shape) (es : List Event) (e : Event) → is_draw e.kind ≡ true →
    drawn s (e ∷ es) (own_attempt s (local s es e.caller)) ≡ true
drawn_yes s es e h =
    rw (h, eq-eqb (own_attempt s (local s es e.caller)) (own_attempt s (local s es e.caller)) refl) refl

-- an attempt that is under way has drawn where its phase says so
data PhaseDrawn (s : Shape) (l : LocalState) (e : Event) (k : Kind) : Type 0 where
  pd_begin : k ≡ Begin → PhaseDrawn s l e k
  pd_draw : is_draw k ≡ true → k ≢ Begin → is_drawn (after k s l e).phase ≡ true → PhaseDrawn s l e k
  pd_same : is_draw k ≡ false → k ≢ Begin → is_drawn (after k s l e).phase ≡ is_drawn l.phase → PhaseDrawn s l e k

phase_drawn : (s : Shape) (l : LocalState) (e : Event) (k : Kind) → AllowedAs k s l e →
    (after k s l e).phase ≢ Outside → PhaseDrawn s l e k
unfolding is_drawn
phase_drawn s l e Begin a out = pd_begin refl
phase_drawn s l e Draw a out = pd_draw refl (λ q. cc) refl
phase_drawn s l e Install a out =
    pd_same refl (λ q. cc)
    (cond_both (e.found == e.expected) _ _ (λ (m : LocalState). is_drawn m.phase ≡ is_drawn l.phase) (λ _. refl)
    (λ _. refl))
phase_drawn s l e LookSelf a out = elim (cases_Bool (e.found == given l.phase)) [
  | inl q ↦ pd_same refl (λ q. cc) (rw q refl)
  | inr q ↦ absurd (out (rw q refl))
]
phase_drawn s l e ToValidating a out = go (cases_Bool (e.found == 1)) a.2.0
  where
    go : (e.found == 1 ≡ true) ⊎ (e.found == 1 ≡ false) →
        ((l.phase ≡ Running) × (l.writes ≡ [])) ⊎ ((l.phase ≡ Putting) × (l.written ≡ length l.writes)) →
        PhaseDrawn s l e ToValidating
    go (inl q) (inl z) = pd_same refl (λ q. cc) (rw (q, z.0) refl)
    go (inl q) (inr z) = pd_same refl (λ q. cc) (rw (q, z.0) refl)
    go (inr q) z = absurd (out (rw q refl))
phase_drawn s l e PutNew a out = pd_same refl (λ q. cc) (ap is_drawn (sym a.2.0))
phase_drawn s l e PutHigh a out = go a.2.0
  where
    go : (l.phase ≡ Running) ⊎ (l.phase ≡ Putting) → PhaseDrawn s l e PutHigh
    go (inl z) = pd_same refl (λ q. cc) (ap is_drawn (sym z))
    go (inr z) = pd_same refl (λ q. cc) (ap is_drawn (sym z))
phase_drawn s l e Pause a out = elim (cases_Bool (e.found == 1)) [
  | inl q ↦ pd_same refl (λ q. cc) (rw q (ap is_drawn (sym a.2.0)))
  | inr q ↦ absurd (out (rw q refl))
]
phase_drawn s l e Resume a out = elim (cases_Bool (e.found == 2)) [
  | inl q ↦ pd_same refl (λ q. cc) (rw q (ap is_drawn (sym a.2.0)))
  | inr q ↦ absurd (out (rw q refl))
]
phase_drawn s l e Commit a out = absurd (out refl)
phase_drawn s l e Quit a out = absurd (out refl)
phase_drawn s l e k a out = pd_same refl (λ q. cc) refl

pub false_or : (b : Bool) → (b ≡ true → ⊥) → b ≡ false
false_or true h = absurd (h refl)
false_or false h = refl

drawn_own : {s : Shape} (es : List Event) {e : Event} → Core s (e ∷ es) →
    PhaseDrawn s (local s es e.caller) e e.kind → PhaseHow s (local s es e.caller) e e.kind →
    ((local s es e.caller).phase ≢ Outside →
    drawn s es (own_attempt s (local s es e.caller)) ≡ is_drawn (local s es e.caller).phase) →
    drawn s (e ∷ es) (own_attempt s (after e.kind s (local s es e.caller) e)) ≡ is_drawn
    (after e.kind s (local s es e.caller) e).phase
unfolding is_drawn
drawn_own {s = s} es {e = e} core (pd_begin k) ph ih =
    let p = begin_put s (local s es e.caller) e k core.1.allowed in
    rw (p.3, p.2) (drawn_same s es e _ (λ q. absurd (not_draw e.kind k q))
    ∙ false_or _ (λ d. unused (drawn_begun s es core.0 (next_attempt s (local s es e.caller)) d)))
  where
    not_draw : (k : Kind) → k ≡ Begin → is_draw k ≡ true → ⊥
    not_draw Begin q h = cc
    not_draw k q h = cc

    unused : Begun s es (next_attempt s (local s es e.caller)) → ⊥
    unused b = let may = begin_may s (local s es e.caller) e k core.1.allowed in
        let n = next_number s e.caller (local s es e.caller) (static s es core.0 e.caller) may.1 in
        let c : next_attempt s (local s es e.caller) / s.attempts ≡ e.caller = ap (λ m. m / s.attempts) n
        ∙ caller_of e.caller s.attempts (local s es e.caller).begun may.2 in
        let i : next_attempt s (local s es e.caller) % s.attempts ≡ (local s es e.caller).begun =
        ap (λ m. m % s.attempts) n ∙ index_of e.caller s.attempts (local s es e.caller).begun may.2 in
        let lt : next_attempt s (local s es e.caller) % s.attempts < (local s es e.caller).begun =
        subst (λ m. next_attempt s (local s es e.caller) % s.attempts < (local s es m).begun) c b.begun in
        omega arith
drawn_own {s = s} es {e = e} core (pd_draw d n p) ph ih =
    let on = goes_on core.1.allowed n ph in
    rw (on.1, p) (drawn_yes s es e d)
drawn_own {s = s} es {e = e} core (pd_same d n p) ph ih =
    let on = goes_on core.1.allowed n ph in
    rw (on.1, p) (drawn_same s es e _ (λ q. cc) ∙ ih on.0)

-- an attempt under way has drawn exactly where its phase says so
pub drawn_phase : (s : Shape) (es : List Event) → Core s es → (c : ℕ) → c < s.callers →
    (local s es c).phase ≢ Outside → drawn s es (own_attempt s (local s es c)) ≡ is_drawn (local s es c).phase
drawn_phase s [] core c lt out = absurd (out refl)
drawn_phase s (e ∷ es) core c lt out =
    callers s es e (λ c l. c < s.callers → l.phase ≢ Outside → drawn s (e ∷ es) (own_attempt s l) ≡ is_drawn l.phase)
    (λ lt out. drawn_own es core (phase_drawn s (local s es e.caller) e e.kind core.1.allowed out)
    (phase_how s e.caller (local s es e.caller) e e.kind (static s es core.0 e.caller) core.1.allowed out)
    (drawn_phase s es core.0 e.caller lt)) (λ c d lt out. drawn_same s es e _
    (λ q z. let v = draw_may s (local s es e.caller) e e.kind q core.1.allowed in
    d (own_differs s e.caller c (local s es e.caller) (local s es c) (static s es core.0 e.caller)
    (static s es core.0 c) core.1.caller lt (λ y. cc) out z))
    ∙ drawn_phase s es core.0 c lt out) c lt out

-- where a Commit is allowed
pub commit_may : (s : Shape) (l : LocalState) (e : Event) {k : Kind} → k ≡ Commit → AllowedAs k s l e → l.phase ≡ Drawn
commit_may s l e {k = Commit} q a = a.2.0
commit_may s l e q a = absurd (cc)

-- an attempt that has committed had drawn
pub committed_drawn : (s : Shape) (es : List Event) → Core s es → (a : ℕ) → a < s.callers * s.attempts →
    word s es (StatusWord a) ≡ 4 → drawn s es a ≡ true
unfolding is_drawn
committed_drawn s [] core a lt h = absurd (omega arith)
committed_drawn s (e ∷ es) core a lt h =
    elim (change (StatusWord a) (step s es e core) lt) [
      | inl x ↦ drawn_more s es e a (committed_drawn s es core.0 a lt (sym x ∙ h))
      | inr x ↦ drawn_more s es e a (moved x.how x.now)
    ]
  where
    by_move : Moves s (local s es e.caller) e a →
        ((e.kind ≡ ToValidating) × (e.put ≡ 3)) ⊎ ((e.kind ≡ Commit) × (e.put ≡ 4))
        ⊎ ((e.kind ≡ Quit) × (e.put ≡ 5)) ⊎ ((e.kind ≡ Pause) × (e.put ≡ 2))
        ⊎ ((e.kind ≡ Resume) × (e.put ≡ 1)) → word s (e ∷ es) (StatusWord a) ≡ e.put → drawn s es a ≡ true
    by_move m (inl x) w = let p = x.1 in absurd (omega arith)
    by_move m (inr (inl x)) w = let ph = commit_may s (local s es e.caller) e x.0 core.1.allowed in
        rw m.attempt (drawn_phase s es core.0 e.caller core.1.caller m.inside ∙ ap is_drawn ph)
    by_move m (inr (inr (inl x))) w = let p = x.1 in absurd (omega arith)
    by_move m (inr (inr (inr (inl x)))) w = let p = x.1 in absurd (omega arith)
    by_move m (inr (inr (inr (inr x)))) w = let p = x.1 in absurd (omega arith)

    moved : StatusMove s (local s es e.caller) e a → word s (e ∷ es) (StatusWord a) ≡ e.put → drawn s es a ≡ true
    moved (begins b) w = let p = b.put in absurd (omega arith)
    moved (moves m) w = by_move m m.how w
    moved (kills k) w = let p = k.put in absurd (omega arith)
