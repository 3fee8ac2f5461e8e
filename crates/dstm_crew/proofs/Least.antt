-- The least of a list of numbers, as far as they were looked at; and the next numbers of shares, when one was taken.
use Rattle.std.proofs.Common.{◌≡◌, ◌≢◌, ◌⊎◌, min, max, ℕ, suc, zero, ◌+◌, ◌<◌, ◌≤◌, nat_le, Bool, true, false, cond, List, [], ◌∷◌, length, set, Option, Some, None, refl, ap, sym, subst, ◌∙◌, inl, inr, arith, true≢false}
use Rattle.std.specs.Prelude.{IfSome}
use Rattle.std.specs.List.{slice_get}
use Rattle.std.proofs.lemmas.Bool.{cases_eq, cases_lt, cases_Bool, leb-true}
use Rattle.std.proofs.lemmas.Bool.Decides.{leb_tells}
use Rattle.std.proofs.lemmas.List.{get_or-set_other}
use Rattle.std.proofs.lemmas.Option.{none-some, same_Some}
use Rattle.dstm_crew.specs.declared.collecting.Lead.{Lead}
use Rattle.dstm_crew.specs.declared.share.Share.{Share}
use Rattle.dstm_crew.specs.Collecting.{AreSpent, IsAhead, IsFirst, IsLeast, heads, lesser_of, number_at, number_in}

-- ---- the least of numbers

-- none of the numbers before a place is lower than what was found
abbrev pub IsLeastBefore : (numbers : List (Option ℕ)) → (before : ℕ) → (found : ℕ × ℕ) → Type 0
IsLeastBefore numbers before found =
    (number_in numbers found.0 ≡ Some found.1) × ((k : ℕ) → k < before → IfSome (number_in numbers k) (λ n. found.1 ≤ n))

number_past : (numbers : List (Option ℕ)) (k : ℕ) → length numbers ≤ k → number_in numbers k ≡ None
number_past [] k past = refl
number_past (n ∷ numbers) zero past = absurd (omega (arith, past))
number_past (n ∷ numbers) (suc k) past = number_past numbers k (omega (arith, past))

number_within : (numbers : List (Option ℕ)) (k n : ℕ) → number_in numbers k ≡ Some n → k < length numbers
number_within numbers k n is =
    elim (cases_lt k (length numbers)) [
      | inl within ↦ within
      | inr past ↦ absurd (none-some n (sym (number_past numbers k past) ∙ is))
    ]

nothing_less : (n : ℕ) (o : Option ℕ) → o ≡ None → IfSome o (λ m. n ≤ m)
nothing_less n None is = tt
nothing_less n (Some m) is = absurd (none-some m (sym is))

weaker : (low high : ℕ) (o : Option ℕ) → low ≤ high → IfSome o (λ n. high ≤ n) → IfSome o (λ n. low ≤ n)
weaker low high None le bound = tt
weaker low high (Some n) le bound = omega (arith, le, bound)

-- there is none before a place
pub none_more : (numbers : List (Option ℕ)) (place : ℕ) → ((k : ℕ) → k < place → number_in numbers k ≡ None) →
    number_in numbers place ≡ None → (k : ℕ) → k < place + 1 → number_in numbers k ≡ None
none_more numbers place none here = λ k within.
    elim (cases_eq k place) [
      | inl same ↦ ap (number_in numbers) same ∙ here
      | inr other ↦ none k (omega (arith, within, other))
    ]

pub none_all : (numbers : List (Option ℕ)) (before : ℕ) → length numbers ≤ before →
    ((k : ℕ) → k < before → number_in numbers k ≡ None) → AreSpent numbers
none_all numbers before all none = λ k.
    elim (cases_lt k before) [ inl within ↦ none k within | inr past ↦ number_past numbers k (omega (arith, all, past)) ]

-- the first is the least so far
pub least_first : (numbers : List (Option ℕ)) (found : ℕ × ℕ) → IsFirst numbers found →
    IsLeastBefore numbers (found.0 + 1) found
least_first numbers found first = (
  first.0,
  λ k within.
      elim (cases_eq k found.0) [
        | inl same ↦ subst (λ (o : Option ℕ). IfSome o (λ m. found.1 ≤ m)) (sym (ap (number_in numbers) same ∙ first.0)) (omega arith)
        | inr other ↦ nothing_less found.1 (number_in numbers k) (first.1 k (omega (arith, within, other)))
      ],
)

-- there is none at the place
pub least_skip : (numbers : List (Option ℕ)) (place : ℕ) (found : ℕ × ℕ) →
    IsLeastBefore numbers place found → number_in numbers place ≡ None → IsLeastBefore numbers (place + 1) found
least_skip numbers place found least none = (
  least.0,
  λ k within.
      elim (cases_eq k place) [
        | inl same ↦ nothing_less found.1 (number_in numbers k) (ap (number_in numbers) same ∙ none)
        | inr other ↦ least.1 k (omega (arith, within, other))
      ],
)

-- there is one at the place
pub least_take : (numbers : List (Option ℕ)) (place n : ℕ) (found : ℕ × ℕ) →
    IsLeastBefore numbers place found → number_in numbers place ≡ Some n →
    IsLeastBefore numbers (place + 1) (lesser_of found place n)
least_take numbers place n found least here = by (cases_Bool (nat_le found.1 n))
  where
    by : (nat_le found.1 n ≡ true) ⊎ (nat_le found.1 n ≡ false) →
        IsLeastBefore numbers (place + 1) (cond (nat_le found.1 n) found (place, n))
    by (inl less) =
        subst (λ (b : Bool). IsLeastBefore numbers (place + 1) (cond b found (place, n))) (sym less) (
          least.0,
          λ k within.
              elim (cases_eq k place) [
                | inl same ↦ subst (λ (o : Option ℕ). IfSome o (λ m. found.1 ≤ m)) (sym (ap (number_in numbers) same ∙ here))
                    (leb-true found.1 n less)
                | inr other ↦ least.1 k (omega (arith, within, other))
              ],
        )
    by (inr more) =
        subst (λ (b : Bool). IsLeastBefore numbers (place + 1) (cond b found (place, n))) (sym more) (
          here,
          λ k within.
              elim (cases_eq k place) [
                | inl same ↦ subst (λ (o : Option ℕ). IfSome o (λ m. n ≤ m)) (sym (ap (number_in numbers) same ∙ here)) (omega arith)
                | inr other ↦ weaker n found.1 (number_in numbers k) (omega (arith, above)) (least.1 k (omega (arith, within, other)))
              ],
        )
      where
        above : n < found.1
        above = elim (leb_tells found.1 n) [ inl le ↦ absurd (true≢false (sym le.0 ∙ more)) | inr gt ↦ gt.1 ]

-- all were looked at
pub least_all : (numbers : List (Option ℕ)) (before : ℕ) (found : ℕ × ℕ) → length numbers ≤ before →
    IsLeastBefore numbers before found → IsLeast numbers found.0
least_all numbers before found all least = record {
  number = found.1;
  own = least.0;
  least = λ k. elim (cases_lt k before) [
    | inl within ↦ least.1 k within
    | inr past ↦ nothing_less found.1 (number_in numbers k) (number_past numbers k (omega (arith, all, past)))
  ];
}

-- ---- a bound of all numbers but the least

-- none of the numbers before a place is below the bound, but what was found
abbrev pub IsBoundBefore : (numbers : List (Option ℕ)) → (before : ℕ) → (found : ℕ × ℕ) → (bound : ℕ) → Type 0
IsBoundBefore numbers before found bound =
    (k : ℕ) → k < before → k ≢ found.0 → IfSome (number_in numbers k) (λ n. bound ≤ n)

-- any bounds what stands before the first
pub bound_first : (numbers : List (Option ℕ)) (found : ℕ × ℕ) (bound : ℕ) → IsFirst numbers found →
    IsBoundBefore numbers (found.0 + 1) found bound
bound_first numbers found bound first = λ k within other.
    nothing_less bound (number_in numbers k) (first.1 k (omega (arith, within, other)))

pub bound_skip : (numbers : List (Option ℕ)) (place : ℕ) (found : ℕ × ℕ) (bound : ℕ) →
    IsBoundBefore numbers place found bound → number_in numbers place ≡ None → IsBoundBefore numbers (place + 1) found bound
bound_skip numbers place found bound below none = λ k within other.
    elim (cases_eq k place) [
      | inl same ↦ nothing_less bound (number_in numbers k) (ap (number_in numbers) same ∙ none)
      | inr apart ↦ below k (omega (arith, within, apart)) other
    ]

pub bound_take : (numbers : List (Option ℕ)) (place n : ℕ) (found : ℕ × ℕ) (bound : ℕ) →
    IsLeastBefore numbers place found → IsBoundBefore numbers place found bound → number_in numbers place ≡ Some n →
    IsBoundBefore numbers (place + 1) (lesser_of found place n) (min bound (max found.1 n))
bound_take numbers place n found bound least below here = by (cases_Bool (nat_le found.1 n))
  where
    lower : ℕ
    lower = min bound (max found.1 n)

    by : (nat_le found.1 n ≡ true) ⊎ (nat_le found.1 n ≡ false) →
        IsBoundBefore numbers (place + 1) (cond (nat_le found.1 n) found (place, n)) lower
    by (inl less) =
        let le : found.1 ≤ n = leb-true found.1 n less in
        subst (λ (b : Bool). IsBoundBefore numbers (place + 1) (cond b found (place, n)) lower) (sym less)
        (λ k within other.
        elim (cases_eq k place) [
          | inl same ↦ subst (λ (o : Option ℕ). IfSome o (λ m. lower ≤ m)) (sym (ap (number_in numbers) same ∙ here)) (omega (arith, le))
          | inr apart ↦ weaker lower bound (number_in numbers k) (omega arith) (below k (omega (arith, within, apart)) other)
        ])
    by (inr more) =
        let gt : n < found.1 = elim (leb_tells found.1 n) [ inl le ↦ absurd (true≢false (sym le.0 ∙ more)) | inr gt ↦ gt.1 ] in
        subst (λ (b : Bool). IsBoundBefore numbers (place + 1) (cond b found (place, n)) lower) (sym more)
        (λ k within other.
        let before : k < place = omega (arith, within, other) in
        elim (cases_eq k found.0) [
          | inl same ↦ subst (λ (o : Option ℕ). IfSome o (λ m. lower ≤ m)) (sym (ap (number_in numbers) same ∙ least.0)) (omega (arith, gt))
          | inr apart ↦ weaker lower bound (number_in numbers k) (omega arith) (below k before apart)
        ])

-- all were looked at
pub bound_all : (numbers : List (Option ℕ)) (before place bound : ℕ) → length numbers ≤ before →
    ((k : ℕ) → k < before → k ≢ place → IfSome (number_in numbers k) (λ n. bound ≤ n)) →
    IsAhead numbers (record { place = place; bound = bound })
bound_all numbers before place bound all below = λ k other.
    elim (cases_lt k before) [
      | inl within ↦ below k within other
      | inr past ↦ nothing_less bound (number_in numbers k) (number_past numbers k (omega (arith, all, past)))
    ]

-- ---- the lead

-- there is none yet
pub ahead_first : (numbers : List (Option ℕ)) → IsAhead numbers (record { place = 0; bound = 0 })
ahead_first numbers k other = from_zero (number_in numbers k)
  where
    from_zero : (o : Option ℕ) → IfSome o (λ n. 0 ≤ n)
    from_zero None = tt
    from_zero (Some n) = omega arith

-- its number is not above the bound
pub lead_least : (numbers : List (Option ℕ)) (lead : Lead) (n : ℕ) → IsAhead numbers lead → number_in numbers lead.place ≡ Some n →
    n ≤ lead.bound → IsLeast numbers lead.place
lead_least numbers lead n ahead own le = record {
  number = n;
  own = own;
  least = λ k.
      elim (cases_eq k lead.place) [
        | inl same ↦ subst (λ (o : Option ℕ). IfSome o (λ m. n ≤ m)) (sym (ap (number_in numbers) same ∙ own)) (omega arith)
        | inr other ↦ weaker n lead.bound (number_in numbers k) le (ahead k other)
      ];
}

pub lead_within : (numbers : List (Option ℕ)) (lead : Lead) (n : ℕ) → number_in numbers lead.place ≡ Some n →
    lead.place < length numbers
lead_within numbers lead n own = number_within numbers lead.place n own

-- its own number changes
pub ahead_set : (numbers : List (Option ℕ)) (lead : Lead) (o : Option ℕ) → IsAhead numbers lead →
    IsAhead (set numbers lead.place o) lead
ahead_set numbers lead o ahead = λ k other.
    subst (λ (x : Option ℕ). IfSome x (λ n. lead.bound ≤ n)) (sym (get_or-set_other numbers lead.place k o None other)) (ahead k other)

-- the place is that of a number
pub place_within : (numbers : List (Option ℕ)) (found : ℕ × ℕ) → number_in numbers found.0 ≡ Some found.1 →
    found.0 < length numbers
place_within numbers found is = number_within numbers found.0 found.1 is

-- ---- the next numbers of shares

-- of one share more was taken
pub heads_set : (shares : List Share) (next : List ℕ) (k n : ℕ) (share : Share) → slice_get shares k ≡ Some share →
    k < length next → heads shares (set next k n) ≡ set (heads shares next) k (number_at share n)
heads_set [] next k n share there within = absurd (none-some share there)
heads_set (s ∷ shares) [] k n share there within = absurd (omega (arith, within))
heads_set (s ∷ shares) (m ∷ next) zero n share there within =
    ap (λ (x : Share). number_at x n ∷ heads shares next) (same_Some s share there)
heads_set (s ∷ shares) (m ∷ next) (suc k) n share there within =
    ap (λ (rest : List (Option ℕ)). number_at s m ∷ rest) (heads_set shares next k n share there (omega (arith, within)))

pub heads_length : (shares : List Share) (next : List ℕ) → length next ≡ length shares →
    length (heads shares next) ≡ length shares
heads_length [] next same = refl
heads_length (s ∷ shares) [] same = absurd (omega (arith, same))
heads_length (s ∷ shares) (m ∷ next) same = ap suc (heads_length shares next (omega (arith, same)))
