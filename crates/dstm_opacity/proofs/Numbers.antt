-- Between two moments at which the counter of numbers is the same no attempt draws.
use Rattle.std.proofs.Common.{◌&&◌, ◌++◌, ◌+◌, ◌<◌, ◌==◌, ◌∙◌, ◌∷◌, ◌≡◌, ◌≤◌, ◌⊎◌, Bool, List, [], ap, arith, false, inl, inr, refl, subst, sym, true, ℕ}
use Rattle.std.specs.Prelude.{cond}
use Rattle.std.proofs.lemmas.Bool.{cases_Bool}
use Rattle.std.proofs.lemmas.List.Sums.{sum_by-cons}
use Rattle.dstm_core.specs.Counts.{draw_count}
use Rattle.dstm_core.proofs.Base.{AllowedAs, Core, Event, IsPastOf, NumbersWord, at, cond_both, is_draw, is_look_number, local, pass_place, word}
use Rattle.dstm_opacity.proofs.Base.{Draw, Kind, Read, Shape}
use Rattle.dstm_core.proofs.Basic.{Names}
use Rattle.dstm_core.proofs.Columns.{numbers, step}
use Rattle.dstm_core.proofs.Locators.{no_return}
use Rattle.dstm_core.proofs.Places.{put_at}
use Rattle.dstm_core.proofs.Pasts.{core_past}
use Rattle.dstm_machines.proofs.Pasts.{past_more}
use Rattle.dstm_opacity.proofs.Current.{Foretells, foretells_past, version_quiet}
use Rattle.dstm_opacity.proofs.States.{Agreed}
use Rattle.dstm_opacity.proofs.Versions.{version_at}

-- the place of a pass is one
pub pass_past : (c : ℕ) (es : List Event) → IsPastOf (pass_place c es) es
pass_past c [] = record { later = []; whole = refl }
pass_past c (e ∷ es) =
    cond_both ((e.caller == c) && is_look_number e.kind) es (pass_place c es) (λ q. IsPastOf q (e ∷ es))
    (λ _. record { later = e ∷ []; whole = refl }) (λ _. past_more (pass_place c es) es e (pass_past c es))

-- what a run foretells its pasts foretell
pub foretells_before : {s : Shape} {will : ℕ → Bool} (q : List Event) {es : List Event} → IsPastOf q es → Core s es →
    Foretells s will es → Foretells s will q
foretells_before {s = s} {will = will} q p core f =
    go p.later (subst (Core s) (sym p.whole) core) (subst (Foretells s will) (sym p.whole) f)
  where
    go : (more : List Event) → Core s (more ++ q) → Foretells s will (more ++ q) → Foretells s will q
    go [] core f = f
    go (e ∷ more) core f = go more core.0 (foretells_past (more ++ q) e core f)

-- a word that an object had at a past, and has now, it had all the while
pub no_return_past : (s : Shape) (q es : List Event) (o x : ℕ) → IsPastOf q es → Core s es → o < s.objects →
    Names s q x → at es o ≡ x → at q o ≡ x
no_return_past s q es o x p core h n w =
    no_return s p.later q o x (subst (Core s) (sym p.whole) core) h n (subst (λ xs. at xs o ≡ x) (sym p.whole) w)

-- a draw raises the counter
pub draw_up : (s : Shape) (es : List Event) (e : Event) → Core s (e ∷ es) → is_draw e.kind ≡ true →
    word s (e ∷ es) NumbersWord ≡ word s es NumbersWord + 1
draw_up s es e core d = go e.kind d core.1.allowed
  where
    go : (k : Kind) → is_draw k ≡ true → AllowedAs k s (local s es e.caller) e →
        word s (e ∷ es) NumbersWord ≡ word s es NumbersWord + 1
    go Draw d a = put_at es e _ a.0 ∙ a.1.1 ∙ ap (λ n. n + 1) (core.1.linked ∙ ap (at es) a.0)
    go k d a = absurd (cc)

-- the counter never falls
pub numbers_up : (s : Shape) (es : List Event) (e : Event) → Core s (e ∷ es) →
    word s es NumbersWord ≤ word s (e ∷ es) NumbersWord
numbers_up s es e core = elim (numbers (step s es e core)) [ inl x ↦ omega arith | inr x ↦ let y = x.1 in omega arith ]

-- nor over several events
pub numbers_later : (s : Shape) (more q : List Event) → Core s (more ++ q) →
    word s q NumbersWord ≤ word s (more ++ q) NumbersWord
numbers_later s [] q core = omega arith
numbers_later s (e ∷ more) q core = let a = numbers_later s more q core.0 in
    let b = numbers_up s (more ++ q) e core in omega arith

-- what a Draw finds
draw_finds : (s : Shape) (es : List Event) (e : Event) → Core s (e ∷ es) → e.kind ≡ Draw →
    e.found ≡ word s es NumbersWord
draw_finds s es e core d = go e.kind d core.1.allowed
  where
    go : (k : Kind) → k ≡ Draw → AllowedAs k s (local s es e.caller) e → e.found ≡ word s es NumbersWord
    go Draw d a = core.1.linked ∙ ap (at es) a.0
    go k d a = absurd (cc)

draws_more : (e : Event) (es : List Event) → draw_count (e ∷ es) ≡ cond (is_draw e.kind) 1 0 + draw_count es
draws_more e es = sum_by-cons (λ (e : Event). cond (is_draw e.kind) 1 0) e es

-- the counter tells how many were drawn
pub numbers_drawn : (s : Shape) (es : List Event) → Core s es → word s es NumbersWord ≡ draw_count es
numbers_drawn s [] core = refl
numbers_drawn s (e ∷ es) core = go (cases_Bool (is_draw e.kind)) (numbers (step s es e core)) (numbers_drawn s es core.0)
  where
    more : draw_count (e ∷ es) ≡ cond (is_draw e.kind) 1 0 + draw_count es
    more = draws_more e es

    go : (is_draw e.kind ≡ true) ⊎ (is_draw e.kind ≡ false) →
        (word s (e ∷ es) NumbersWord ≡ word s es NumbersWord)
        ⊎ ((e.kind ≡ Draw) × (word s (e ∷ es) NumbersWord ≡ word s es NumbersWord + 1)) →
        word s es NumbersWord ≡ draw_count es → word s (e ∷ es) NumbersWord ≡ draw_count (e ∷ es)
    go (inl d) how so_far = let rises = draw_up s es e core d in rw (more, d) (omega (arith, rises, so_far))
    go (inr d) (inl same) so_far = rw (more, d) (omega (arith, same, so_far))
    go (inr d) (inr how) so_far = let is = ap is_draw how.0 in absurd (cc)

-- so a number is how many were drawn before it
pub numbers_count : (s : Shape) (es : List Event) (e : Event) → Core s (e ∷ es) → e.kind ≡ Draw → e.found ≡ draw_count es
numbers_count s es e core d = draw_finds s es e core d ∙ numbers_drawn s es core.0

-- of two draws the later finds the greater number
pub numbers_rise : (s : Shape) (between es : List Event) (d e : Event) → Core s (e ∷ (between ++ d ∷ es)) →
    d.kind ≡ Draw → e.kind ≡ Draw → d.found < e.found
numbers_rise s between es d e core k j =
    let core_d = core_past s between (d ∷ es) core.0 in
    let early = draw_finds s es d core_d k in let late = draw_finds s (between ++ d ∷ es) e core j in
    let up = draw_up s es d core_d (ap is_draw k) in let on = numbers_later s between (d ∷ es) core.0 in
    omega arith

-- where the counter has stayed, there was no draw
pub no_draw : (s : Shape) (es : List Event) (e : Event) (n : ℕ) → Core s (e ∷ es) → n ≤ word s es NumbersWord →
    n ≡ word s (e ∷ es) NumbersWord → (is_draw e.kind ≡ true → ⊥) × (n ≡ word s es NumbersWord)
no_draw s es e n core b q =
    ((λ d. let u = draw_up s es e core d in omega arith), (let u = numbers_up s es e core in omega arith))

-- where the counter has stayed, each object's current version is the same
pub version_same : (s : Shape) (will : ℕ → Bool) (more q : List Event) (o : ℕ) → Core s (more ++ q) →
    word s q NumbersWord ≡ word s (more ++ q) NumbersWord → version_at s will (more ++ q) o ≡ version_at s will q o
version_same s will [] q o core n = refl
version_same s will (e ∷ more) q o core n =
    let d = no_draw s (more ++ q) e (word s q NumbersWord) core (numbers_later s more q core.0) n in
    version_quiet s will (more ++ q) e o (λ z _. d.0 z) ∙ version_same s will more q o core.0 d.1

-- reads that are current stay so where no version changes
pub agreed_same : (s : Shape) (will : ℕ → Bool) (p q : List Event) (rs : List Read) →
    ((o : ℕ) → version_at s will p o ≡ version_at s will q o) → Agreed s will q rs → Agreed s will p rs
agreed_same s will p q [] h a = tt
agreed_same s will p q (r ∷ rs) h a = (h r.object ∙ a.0, agreed_same s will p q rs h a.1)

-- the same from a past on
pub version_past : (s : Shape) (will : ℕ → Bool) (q es : List Event) (o : ℕ) → IsPastOf q es → Core s es →
    word s q NumbersWord ≡ word s es NumbersWord → version_at s will es o ≡ version_at s will q o
version_past s will q es o p core n =
    subst (λ xs. version_at s will xs o ≡ version_at s will q o) p.whole
    (version_same s will p.later q o (subst (Core s) (sym p.whole) core)
    (subst (λ xs. word s q NumbersWord ≡ word s xs NumbersWord) (sym p.whole) n))
