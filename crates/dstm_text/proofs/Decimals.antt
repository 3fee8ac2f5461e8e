-- The text of a number of few digits.
use Rattle.std.proofs.Common.{◌≡◌, ℕ, ◌+◌, ◌/◌, ◌%◌, ◌<◌, ◌≤◌, List, [], ◌∷◌, ◌++◌, decimal, refl, ap, sym, ◌∙◌, append_assoc, arith}
use Rattle.std.proofs.lemmas.Fmt.{decimal_digit, decimal_step}

pub decimal_two : (n : ℕ) → 10 ≤ n → n < 100 → decimal n ≡ (48 + n / 10 % 10) ∷ (48 + n % 10) ∷ []
decimal_two n low high =
    let same : n / 10 % 10 ≡ n / 10 = omega (arith, high) in
    rw (decimal_step n low (omega arith), decimal_digit (n / 10) (omega (arith, high)), same) refl

pub decimal_three : (n : ℕ) → 100 ≤ n → n < 1000 → decimal n ≡ (48 + n / 100 % 10) ∷ (48 + n / 10 % 10) ∷ (48 + n % 10) ∷ []
decimal_three n low high =
    let same : n / 10 / 10 % 10 ≡ n / 100 % 10 = omega arith in
    rw (decimal_step n (omega (arith, low)) (omega (arith, high)), decimal_two (n / 10) (omega (arith, low)) (omega (arith, high)), same) refl

pub decimal_four : (n : ℕ) → 1000 ≤ n → n < 10000 →
    decimal n ≡ (48 + n / 1000 % 10) ∷ (48 + n / 100 % 10) ∷ (48 + n / 10 % 10) ∷ (48 + n % 10) ∷ []
decimal_four n low high =
    let first : n / 10 / 100 % 10 ≡ n / 1000 % 10 = omega arith in
    let second : n / 10 / 10 % 10 ≡ n / 100 % 10 = omega arith in
    rw (decimal_step n (omega (arith, low)) (omega (arith, high)), decimal_three (n / 10) (omega (arith, low)) (omega (arith, high)), first, second) refl

pub decimal_five : (n : ℕ) → 10000 ≤ n → n < 100000 →
    decimal n ≡ (48 + n / 10000) ∷ (48 + n / 1000 % 10) ∷ (48 + n / 100 % 10) ∷ (48 + n / 10 % 10) ∷ (48 + n % 10) ∷ []
decimal_five n low high =
    let first : n / 10 / 1000 % 10 ≡ n / 10000 = omega (arith, high) in
    let second : n / 10 / 100 % 10 ≡ n / 1000 % 10 = omega arith in
    let third : n / 10 / 10 % 10 ≡ n / 100 % 10 = omega arith in
    rw (decimal_step n (omega (arith, low)) (omega (arith, high)), decimal_four (n / 10) (omega (arith, low)) (omega (arith, high)), first, second, third) refl

-- ---- a text to which the digits of a number were added one by one

-- the last digit, behind the others
push_last : (s t u : List ℕ) (n tenth digit : ℕ) → tenth ≡ n / 10 → digit ≡ 48 + n % 10 → 10 ≤ n → n < 100000 →
    t ≡ s ++ decimal tenth → u ≡ t ++ digit ∷ [] → u ≡ s ++ decimal n
push_last s t u n tenth digit is-tenth is-digit low high before put =
    let step : decimal n ≡ decimal tenth ++ digit ∷ [] =
    rw (is-tenth, is-digit) (decimal_step n low (omega (arith, high))) in
    put ∙ ap (λ (l : List ℕ). l ++ digit ∷ []) before ∙ append_assoc s (decimal tenth) (digit ∷ [])
    ∙ ap (λ (l : List ℕ). s ++ l) (sym step)

pub push_two : (s t u : List ℕ) (n tenth tens ones : ℕ) → tenth ≡ n / 10 → ones ≡ 48 + n % 10 →
    tens ≡ 48 + tenth % 10 → 10 ≤ n → n < 100 → t ≡ s ++ tens ∷ [] → u ≡ t ++ ones ∷ [] → u ≡ s ++ decimal n
push_two s t u n tenth tens ones is-tenth is-ones is-tens low high first second =
    let digit : tens ≡ 48 + tenth = omega (arith, is-tens, is-tenth, high) in
    push_last s t u n tenth ones is-tenth is-ones low (omega (arith, high))
    (rw (decimal_digit tenth (omega (arith, is-tenth, high)), ← digit) first) second

pub push_three : (s t u v : List ℕ) (n tenth hundredth hundreds tens ones : ℕ) → tenth ≡ n / 10 → ones ≡ 48 + n % 10 →
    hundredth ≡ tenth / 10 → tens ≡ 48 + tenth % 10 → hundreds ≡ 48 + hundredth % 10 → 100 ≤ n → n < 1000 →
    t ≡ s ++ hundreds ∷ [] → u ≡ t ++ tens ∷ [] → v ≡ u ++ ones ∷ [] → v ≡ s ++ decimal n
push_three s t u v n tenth hundredth hundreds tens ones is-tenth is-ones is-hundredth is-tens is-hundreds low high first
    second third =
    push_last s u v n tenth ones is-tenth is-ones (omega (arith, low)) (omega (arith, high))
    (push_two s t u tenth hundredth hundreds tens is-hundredth is-tens is-hundreds (omega (arith, low, is-tenth))
    (omega (arith, high, is-tenth)) first second) third

pub push_four : (s t u v w : List ℕ) (n tenth hundredth thousandth thousands hundreds tens ones : ℕ) → tenth ≡ n / 10 →
    ones ≡ 48 + n % 10 → hundredth ≡ tenth / 10 → tens ≡ 48 + tenth % 10 → thousandth ≡ hundredth / 10 →
    hundreds ≡ 48 + hundredth % 10 → thousands ≡ 48 + thousandth % 10 → 1000 ≤ n → n < 10000 → t ≡ s ++ thousands ∷ [] →
    u ≡ t ++ hundreds ∷ [] → v ≡ u ++ tens ∷ [] → w ≡ v ++ ones ∷ [] → w ≡ s ++ decimal n
push_four s t u v w n tenth hundredth thousandth thousands hundreds tens ones is-tenth is-ones is-hundredth is-tens
    is-thousandth is-hundreds is-thousands low high first second third fourth =
    push_last s v w n tenth ones is-tenth is-ones (omega (arith, low)) (omega (arith, high))
    (push_three s t u v tenth hundredth thousandth thousands hundreds tens is-hundredth is-tens is-thousandth is-hundreds
    is-thousands (omega (arith, low, is-tenth)) (omega (arith, high, is-tenth)) first second third) fourth

pub push_five : (s t u v w x : List ℕ) (n tenth hundredth thousandth top fifth thousands hundreds tens ones : ℕ) →
    tenth ≡ n / 10 → ones ≡ 48 + n % 10 → hundredth ≡ tenth / 10 → tens ≡ 48 + tenth % 10 → thousandth ≡ hundredth / 10 →
    hundreds ≡ 48 + hundredth % 10 → top ≡ thousandth / 10 → thousands ≡ 48 + thousandth % 10 → fifth ≡ 48 + top →
    10000 ≤ n → n < 100000 → t ≡ s ++ fifth ∷ [] → u ≡ t ++ thousands ∷ [] → v ≡ u ++ hundreds ∷ [] →
    w ≡ v ++ tens ∷ [] → x ≡ w ++ ones ∷ [] → x ≡ s ++ decimal n
push_five s t u v w x n tenth hundredth thousandth top fifth thousands hundreds tens ones is-tenth is-ones is-hundredth
    is-tens is-thousandth is-hundreds is-top is-thousands is-fifth low high first second third fourth last =
    push_last s w x n tenth ones is-tenth is-ones (omega (arith, low)) high
    (push_four s t u v w tenth hundredth thousandth top fifth thousands hundreds tens is-hundredth is-tens is-thousandth
    is-hundreds is-top is-thousands (omega (arith, is-fifth, is-top, is-thousandth, is-hundredth, is-tenth, high))
    (omega (arith, low, is-tenth)) (omega (arith, high, is-tenth)) first second third fourth) last
