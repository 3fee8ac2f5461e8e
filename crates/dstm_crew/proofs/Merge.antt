-- What the workers did, put in the order of the numbers: the least number of those that come next is that of the next
-- transaction.
use Rattle.std.proofs.Common.{◌≡◌, ◌≢◌, ℕ, ◌+◌, ◌<◌, ◌≤◌, List, [], ◌∷◌, refl, sym, subst, ◌∙◌, inl, inr, arith}
use Rattle.std.proofs.lemmas.Bool.{eq-eqb, ne_eqb, cases_eq}
use Rattle.dstm_model.specs.Answers.{Committed, by_caller}
use Rattle.dstm_records.proofs.Told.{Rise}

pub by_same : (c : ℕ) (x : Committed) (xs : List Committed) → x.caller ≡ c → by_caller c (x ∷ xs) ≡ x ∷ by_caller c xs
by_same c x xs is = rw (eq-eqb x.caller c is) refl

pub by_other : (c : ℕ) (x : Committed) (xs : List Committed) → x.caller ≢ c → by_caller c (x ∷ xs) ≡ by_caller c xs
by_other c x xs apart = rw (ne_eqb x.caller c apart) refl

-- what one worker did, `As`, matches some transactions, one for one
module _ {A : Type 0} (Is : A → Committed → Type 0) where
  abbrev pub Match : List A → List Committed → Type 0
  Match [] [] = Unit {0}
  Match [] (x ∷ xs) = ⊥
  Match (a ∷ rest) [] = ⊥
  Match (a ∷ rest) (x ∷ xs) = Is a x × Match rest xs

  -- what is left of each worker, by its place, matches what is left of its caller's transactions
  abbrev pub AllMatch : ℕ → (ℕ → ℕ) → (ℕ → List A) → List Committed → Type 0
  AllMatch n caller left xs = (v : ℕ) → v < n → Match (left v) (by_caller (caller v) xs)

  -- what a merge step finds: the next transaction is that of the worker whose next number is the least
  pub record NextIs (n : ℕ) (caller : ℕ → ℕ) (left after : ℕ → List A) (w : ℕ) (a : A) (x : Committed) (xs : List Committed) : Type 0 where
    pub own : x.caller ≡ caller w
    pub is : Is a x
    pub rest : AllMatch n caller after xs

  module _ (number_of : A → ℕ) (same : (a : A) (x : Committed) → Is a x → number_of a ≡ x.number) where
    -- what comes next of one caller has at least this number
    pub at_least : (least c : ℕ) (xs : List Committed) (a : A) (rest : List A) → Rise least xs →
        Match (a ∷ rest) (by_caller c xs) → least ≤ number_of a
    at_least least c [] a rest rise m = absurd m
    at_least least c (x ∷ xs) a rest rise m =
        elim (cases_eq x.caller c) [
          | inl own ↦
              let here = subst (Match (a ∷ rest)) (by_same c x xs own) m in
              let is = same a x here.0 in omega (arith, rise.0)
          | inr other ↦
              let there = subst (Match (a ∷ rest)) (by_other c x xs other) m in
              let more = at_least (x.number + 1) c xs a rest rise.1 there in omega (arith, rise.0)
        ]

    -- the one with the least number is the next transaction
    pub least_is_next : (least c : ℕ) (x : Committed) (xs : List Committed) (a b : A) (rest more : List A) →
        Rise least (x ∷ xs) → Match (a ∷ rest) (by_caller c (x ∷ xs)) →
        Match (b ∷ more) (by_caller x.caller (x ∷ xs)) → number_of a ≤ number_of b →
        (x.caller ≡ c) × (Is a x × Match rest (by_caller c xs))
    least_is_next least c x xs a b rest more rise mine theirs le =
        let there = subst (Match (b ∷ more)) (by_same x.caller x xs refl) theirs in
        let is = same b x there.0 in
        elim (cases_eq x.caller c) [
          | inl own ↦ (own, subst (Match (a ∷ rest)) (by_same c x xs own) mine)
          | inr other ↦ absurd (
              let behind = at_least (x.number + 1) c xs a rest rise.1
              (subst (Match (a ∷ rest)) (by_other c x xs other) mine) in
              omega arith)
        ]

    -- a caller's transactions have no end before the next one of it
    pub some_next : (x : Committed) (xs : List Committed) → Match [] (by_caller x.caller (x ∷ xs)) → ⊥
    some_next x xs m = subst (Match []) (by_same x.caller x xs refl) m

    -- one step of the merge
    pub merge_step : (n least : ℕ) (caller : ℕ → ℕ) (left after : ℕ → List A) (w : ℕ) (a : A) {rest : List A}
        (x : Committed) (xs : List Committed) (other : ℕ) → Rise least (x ∷ xs) → AllMatch n caller left (x ∷ xs) →
        ((one two : ℕ) → one < n → two < n → caller one ≡ caller two → one ≡ two) → w < n → left w ≡ a ∷ rest →
        ((v : ℕ) (b : A) (more : List A) → v < n → left v ≡ b ∷ more → number_of a ≤ number_of b) →
        other < n → caller other ≡ x.caller → after w ≡ rest → ((v : ℕ) → v ≢ w → after v ≡ left v) →
        NextIs n caller left after w a x xs
    merge_step n least caller left after w a {rest = rest} x xs other rise match apart within at smallest known mine
        then_rest then_same =
        let theirs : Match (left other) (by_caller x.caller (x ∷ xs)) =
        subst (λ (c : ℕ). Match (left other) (by_caller c (x ∷ xs))) mine (match other known) in
        let own : Match (a ∷ rest) (by_caller (caller w) (x ∷ xs)) =
        subst (λ (list : List A). Match list (by_caller (caller w) (x ∷ xs))) at (match w within) in
        next (left other) refl theirs own
      where
        next : (bs : List A) → bs ≡ left other → Match bs (by_caller x.caller (x ∷ xs)) →
            Match (a ∷ rest) (by_caller (caller w) (x ∷ xs)) → NextIs n caller left after w a x xs
        next [] is theirs own = absurd (some_next x xs theirs)
        next (b ∷ more) is theirs own =
            let found = least_is_next least (caller w) x xs a b rest more rise own theirs (smallest other b more known (sym is)) in
            record {
              own = found.0;
              is = found.1.0;
              rest = λ v below.
                  elim (cases_eq v w) [
                    | inl same ↦
                        subst (λ (u : ℕ). Match (after u) (by_caller (caller u) xs)) (sym same)
                        (subst (λ (list : List A). Match list (by_caller (caller w) xs)) (sym then_rest) found.1.1)
                    | inr differ ↦
                        let not_its : x.caller ≢ caller v = λ e. differ (apart v w below within (sym e ∙ found.0)) in
                        subst (λ (list : List A). Match list (by_caller (caller v) xs)) (sym (then_same v differ))
                        (subst (Match (left v)) (by_other (caller v) x xs not_its) (match v below))
                  ];
            }

    -- where nothing is left of any worker, no transaction is left, if each is one of theirs
    pub merge_ends : (n : ℕ) (caller : ℕ → ℕ) (left : ℕ → List A) (x : Committed) (xs : List Committed) (other : ℕ) →
        AllMatch n caller left (x ∷ xs) → ((v : ℕ) → v < n → left v ≡ []) → other < n → caller other ≡ x.caller → ⊥
    merge_ends n caller left x xs other match none known mine =
        some_next x xs (subst (λ (c : ℕ). Match [] (by_caller c (x ∷ xs))) mine
        (subst (λ (list : List A). Match list (by_caller (caller other) (x ∷ xs))) (none other known) (match other known)))
