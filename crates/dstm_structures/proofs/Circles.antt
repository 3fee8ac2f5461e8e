-- Places in a circle, and what is put behind the last one.
use Rattle.std.proofs.Common.{◌≡◌, ◌∙◌, ◌++◌, ℕ, zero, suc, ◌<◌, [], ◌∷◌, ap, arith, length, refl, sym}
use Rattle.dstm_structures.specs.Circles.{next, behind, held_from}

pub next-within : (n at : ℕ) → at < n → next n at < n
next-within n at here = grind arith

pub next-behind : (n at count : ℕ) → at < n → suc count < n → behind n (next n at) count ≡ behind n at (suc count)
next-behind n at count here few = grind arith

pub behind-apart : (n at count : ℕ) → at < n → suc count < n → at ≡ behind n at (suc count) → ⊥
behind-apart n at count here few same = grind arith

pub behind-none : (n at : ℕ) → at < n → behind n at 0 ≡ at
behind-none n at here = grind arith

pub behind-within : (n at count : ℕ) → at < n → count < n → behind n at count < n
behind-within n at count here few = grind arith

pub held-length : {T : Type 0} (n : ℕ) (held : ℕ → T) (at count : ℕ) → length (held_from n held at count) ≡ count
held-length n held at zero = refl
held-length n held at (suc count) = ap suc (held-length n held (next n at) count)

pub held-same : {T : Type 0} (n : ℕ) (held after : ℕ → T) (at count : ℕ) → at < n →
    ((p : ℕ) → p < n → after p ≡ held p) → held_from n after at count ≡ held_from n held at count
held-same n held after at zero here same = refl
held-same n held after at (suc count) here same =
    ap (λ v. v ∷ held_from n after (next n at) count) (same at here)
    ∙ ap (◌∷◌ (held at)) (held-same n held after (next n at) count (next-within n at here) same)

pub held-more : {T : Type 0} (n : ℕ) (held after : ℕ → T) (at count : ℕ) (value : T) → at < n → count < n →
    after (behind n at count) ≡ value → ((p : ℕ) → p < n → (p ≡ behind n at count → ⊥) → after p ≡ held p) →
    held_from n after at (suc count) ≡ held_from n held at count ++ (value ∷ [])
held-more n held after at zero value here few is others =
    ap (λ v. v ∷ []) (ap after (sym (behind-none n at here)) ∙ is)
held-more n held after at (suc count) value here few is others =
    let same = next-behind n at count here few in
    ap (λ v. v ∷ held_from n after (next n at) (suc count)) (others at here (behind-apart n at count here few))
    ∙ ap (◌∷◌ (held at)) (held-more n held after (next n at) count value (next-within n at here) (omega (arith, few))
    (ap after same ∙ is) (λ p within apart. others p within (λ e. apart (e ∙ sym same))))
