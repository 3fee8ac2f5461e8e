-- An object whose word names a locator of an attempt under way is among the attempt's writes.
use Rattle.std.proofs.Common.{◌%◌, ◌++◌, ◌-◌, ◌/◌, ◌<◌, ◌==◌, ◌∙◌, ◌∷◌, ◌≡◌, ◌≢◌, ◌⊎◌, List, Option, Some, [], ap, arith, false, inl, inr, is_some, refl, subst, sym, true, ℕ}
use Rattle.dstm_core.proofs.Base.{Core, Event, LocalState, OwnerWord, after, at, cases_Bool, cond_both, eq-eqb, eqb-true, local, next_attempt, next_locator, own_attempt, res, word, write_of}
use Rattle.dstm_opacity.proofs.Base.{Install, Outside, Shape, Write}
use Rattle.dstm_core.proofs.Basic.{basic, install_may, owner_stays}
use Rattle.dstm_core.proofs.Columns.{Begun, Installed, Used, caller_of, index_of, objects, step}
use Rattle.dstm_core.proofs.Static.{callers, static}
use Rattle.dstm_core.proofs.Statuses.{PhaseHow, begin_may, begin_put, next_number, own_differs, phase_how}
use Rattle.dstm_core.proofs.Underway.{goes_on}
use Rattle.dstm_opacity.proofs.Versions.{owner_of}
use Rattle.dstm_opacity.proofs.Written.{WriteOk, WritesHow, WritesOk, added, cleared, unchanged, write_new, writes_how}

-- an object whose word names a locator of the attempt that is under way is among its writes
pub Mine : Shape → List Event → LocalState → Type 0
Mine s es l =
    (o : ℕ) → o < s.objects → 0 < at es o → owner_of s es (at es o) ≡ own_attempt s l →
    is_some (write_of o l.writes) ≡ true

write_of-snoc : (o : ℕ) (ws : List Write) (w : Write) → is_some (write_of o ws) ≡ true →
    is_some (write_of o (ws ++ w ∷ [])) ≡ true
write_of-snoc o [] w h = absurd (cc)
write_of-snoc o (v ∷ ws) w h =
    cond_both (v.object == o) (Some v) (write_of o (ws ++ w ∷ [])) (λ (m : Option Write). is_some m ≡ true)
    (λ _. refl) (λ q. write_of-snoc o ws w (rw q at h))

write_of-new : (o : ℕ) (ws : List Write) (w : Write) → w.object ≡ o → is_some (write_of o (ws ++ w ∷ [])) ≡ true
write_of-new o [] w h = rw (eq-eqb w.object o h) refl
write_of-new o (v ∷ ws) w h =
    cond_both (v.object == o) (Some v) (write_of o (ws ++ w ∷ [])) (λ (m : Option Write). is_some m ≡ true)
    (λ _. refl) (λ q. write_of-new o ws w h)

-- a write found by its object
pub write_of-object : (o : ℕ) (ws : List Write) (w : Write) → write_of o ws ≡ Some w → w.object ≡ o
write_of-object o [] w h = absurd (cc)
write_of-object o (v ∷ ws) w h = go (cases_Bool (v.object == o)) (λ k. write_of-object o ws w k)
  where
    go : (v.object == o ≡ true) ⊎ (v.object == o ≡ false) → (write_of o ws ≡ Some w → w.object ≡ o) → w.object ≡ o
    go (inl q) ih = let k : Some v ≡ Some w = rw q at h in let z : v ≡ w = cc in
        ap (λ (x : Write). x.object) (sym z) ∙ eqb-true v.object o q
    go (inr q) ih = ih (rw q at h)

-- is one of those that are known
pub write_of-ok : (s : Shape) (es : List Event) (own o : ℕ) (ws : List Write) (w : Write) →
    WritesOk s es own ws → write_of o ws ≡ Some w → WriteOk s es own w
write_of-ok s es own o [] w k h = absurd (cc)
write_of-ok s es own o (v ∷ ws) w k h = elim (cases_Bool (v.object == o)) [
  | inl q ↦ let z : Some v ≡ Some w = rw q at h in let y : v ≡ w = cc in subst (WriteOk s es own) y k.0
  | inr q ↦ write_of-ok s es own o ws w k.1 (rw q at h)
]

-- that the word of an object names a locator of an attempt was so before, or an Install just made it so
abbrev Back : Shape → List Event → Event → ℕ → ℕ → Type 0
Back s es e o a =
    ((at (e ∷ es) o ≡ at es o) × (0 < at es o) × Used s es (at es o - 1) × (owner_of s es (at es o) ≡ a))
    ⊎ ((e.kind ≡ Install) × (e.found ≡ e.expected) × (o ≡ (res (local s es e.caller)).object)
    × (a ≡ own_attempt s (local s es e.caller)))

mine_back : (s : Shape) (es : List Event) (e : Event) (o a : ℕ) → Core s (e ∷ es) → o < s.objects →
    0 < at (e ∷ es) o → owner_of s (e ∷ es) (at (e ∷ es) o) ≡ a → Back s es e o a
mine_back s es e o a core h pos q = go (objects o (step s es e core) h)
  where
    keep : (at (e ∷ es) o ≡ at es o) → (at es o ≡ 0) ⊎ ((0 < at es o) × Used s es (at es o - 1)) →
        (at (e ∷ es) o ≡ at es o) × (0 < at es o) × Used s es (at es o - 1) × (owner_of s es (at es o) ≡ a)
    keep x (inl z) = absurd (omega arith)
    keep x (inr z) = (
      x,
      z.0,
      z.1,
      sym (owner_stays s es e (at es o - 1) (step s es e core) z.1) ∙ ap (λ n. owner_of s (e ∷ es) n) (sym x)
          ∙ q,
    )

    go : (at (e ∷ es) o ≡ at es o) ⊎ Installed s es e o → Back s es e o a
    go (inl x) = inl (keep x ((basic s es core.0).object o h))
    go (inr i) = let ok = i.how.found ∙ sym i.how.expected in let w = write_new s es e core i.how.kind ok in
        let less : at (e ∷ es) o - 1 ≡ next_locator s (local s es e.caller) = let n = i.now in omega arith in
        inr (i.how.kind, ok, i.how.object, sym q ∙ ap (λ m. word s (e ∷ es) (OwnerWord m)) less ∙ w.owner)

mine_own : {s : Shape} (es : List Event) {e : Event} → Core s (e ∷ es) →
    WritesHow s (local s es e.caller) e e.kind → PhaseHow s (local s es e.caller) e e.kind →
    ((local s es e.caller).phase ≢ Outside → Mine s es (local s es e.caller)) →
    Mine s (e ∷ es) (after e.kind s (local s es e.caller) e)
unfolding Mine
mine_own {s = s} es {e = e} core (cleared k w) ph ih o h pos q =
    absurd (go (mine_back s es e o (next_attempt s (local s es e.caller)) core h pos
    (q ∙ (begin_put s (local s es e.caller) e k core.1.allowed).3)))
  where
    unused : (a : ℕ) → a ≡ next_attempt s (local s es e.caller) → Begun s es a → ⊥
    unused a q b = let may = begin_may s (local s es e.caller) e k core.1.allowed in
        let n = q ∙ next_number s e.caller (local s es e.caller) (static s es core.0 e.caller) may.1 in
        let c : a / s.attempts ≡ e.caller = ap (λ m. m / s.attempts) n
        ∙ caller_of e.caller s.attempts (local s es e.caller).begun may.2 in
        let i : a % s.attempts ≡ (local s es e.caller).begun = ap (λ m. m % s.attempts) n
        ∙ index_of e.caller s.attempts (local s es e.caller).begun may.2 in
        let lt : a % s.attempts < (local s es e.caller).begun =
        subst (λ m. a % s.attempts < (local s es m).begun) c b.begun in
        omega arith

    go : Back s es e o (next_attempt s (local s es e.caller)) → ⊥
    go (inl x) = unused (owner_of s es (at es o)) x.3 ((basic s es core.0).owner (at es o - 1) x.2).begun
    go (inr x) = let i = x.0 in absurd (cc)
mine_own {s = s} es {e = e} core (unchanged n w i) ph ih o h pos q =
    let on = goes_on core.1.allowed n ph in
    go on.0 (mine_back s es e o (own_attempt s (local s es e.caller)) core h pos (q ∙ on.1))
  where
    go : (local s es e.caller).phase ≢ Outside → Back s es e o (own_attempt s (local s es e.caller)) →
        is_some (write_of o (after e.kind s (local s es e.caller) e).writes) ≡ true
    go out (inl x) = rw w (ih out o h x.1 x.3)
    go out (inr x) = absurd (i x.0 x.1)
mine_own {s = s} es {e = e} core (added k f w) ph ih o h pos q =
    let on = goes_on core.1.allowed (λ q. cc) ph in
    go on.0 (mine_back s es e o (own_attempt s (local s es e.caller)) core h pos (q ∙ on.1))
  where
    go : (local s es e.caller).phase ≢ Outside → Back s es e o (own_attempt s (local s es e.caller)) →
        is_some (write_of o (after e.kind s (local s es e.caller) e).writes) ≡ true
    go out (inl x) = rw w (write_of-snoc o (local s es e.caller).writes _ (ih out o h x.1 x.3))
    go out (inr x) = rw w (write_of-new o (local s es e.caller).writes _ (sym x.2))

mine_other : (s : Shape) (es : List Event) (e : Event) → Core s (e ∷ es) → (c : ℕ) → c < s.callers →
    e.caller ≢ c → (local s es c).phase ≢ Outside → Mine s es (local s es c) → Mine s (e ∷ es) (local s es c)
unfolding Mine
mine_other s es e core c lt d out ih o h pos q = elim (mine_back s es e o (own_attempt s (local s es c)) core h pos q) [
  | inl x ↦ ih o h x.1 x.3
  | inr x ↦
      let may = install_may s (local s es e.caller) e x.0 core.1.allowed in
      absurd (d (sym (own_differs s c e.caller (local s es c) (local s es e.caller) (static s es core.0 c)
      (static s es core.0 e.caller) lt core.1.caller out (λ q. let i = may.0 in cc) x.3)))
]

-- so it is of every attempt under way
pub mine : (s : Shape) (es : List Event) → Core s es → (c : ℕ) → c < s.callers →
    (local s es c).phase ≢ Outside → Mine s es (local s es c)
mine s [] core c lt out = absurd (out refl)
mine s (e ∷ es) core c lt out = callers s es e (λ c l. c < s.callers → l.phase ≢ Outside → Mine s (e ∷ es) l)
    (λ lt out. mine_own es core (writes_how s (local s es e.caller) e e.kind)
    (phase_how s e.caller (local s es e.caller) e e.kind (static s es core.0 e.caller) core.1.allowed out)
    (mine s es core.0 e.caller lt))
    (λ c d lt out. mine_other s es e core c lt d out (mine s es core.0 c lt out)) c lt out

-- where the word of an object has an attempt for its owner, the attempt writes the object
pub meant_mine : (s : Shape) (es : List Event) (l : LocalState) (o : ℕ) → Mine s es l → o < s.objects →
    0 < at es o → owner_of s es (at es o) ≡ own_attempt s l → is_some (write_of o l.writes) ≡ true
unfolding Mine
meant_mine s es l o m h p q = m o h p q
