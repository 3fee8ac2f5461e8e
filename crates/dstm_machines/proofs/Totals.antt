-- Sums over callers.
use Rattle.std.proofs.Common.{◌≡◌, ◌+◌, ◌*◌, ◌<◌, ◌≤◌, ◌⊎◌, ℕ, zero, suc, inl, inr, arith, subst}
use Rattle.std.proofs.lemmas.Bool.{cases_eq}

-- the sum over the callers below n
abbrev pub total : ℕ → (ℕ → ℕ) → ℕ
total zero f = 0
total (suc n) f = f n + total n f

pub total-≤ : (n : ℕ) (f g : ℕ → ℕ) → ((c : ℕ) → f c ≤ g c) → total n f ≤ total n g
total-≤ zero f g h = omega arith
total-≤ (suc n) f g h = let here = h n in let rest = total-≤ n f g h in omega arith

pub total-< : (n : ℕ) (f g : ℕ → ℕ) (c : ℕ) → ((c : ℕ) → f c ≤ g c) → c < n → f c < g c → total n f < total n g
total-< zero f g c h b l = absurd (omega arith)
total-< (suc n) f g c h b l = go (cases_eq c n) (λ q. total-< n f g c h (omega arith) l)
  where
    go : (c ≡ n) ⊎ (c ≡ n → ⊥) → ((c ≡ n → ⊥) → total n f < total n g) → total (suc n) f < total (suc n) g
    go (inl q) ih = let here : f n < g n = subst (λ c. f c < g c) q l in let rest = total-≤ n f g h in
        omega arith
    go (inr q) ih = let here = h n in let rest = ih q in omega arith

pub total-bound : (n b : ℕ) (f : ℕ → ℕ) → ((c : ℕ) → f c ≤ b) → total n f ≤ n * b
total-bound zero b f h = omega arith
total-bound (suc n) b f h = let here = h n in let rest = total-bound n b f h in omega arith
