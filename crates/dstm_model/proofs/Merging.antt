-- Committed attempts in the order of their numbers: lists in which each caller's part is the same.
use Rattle.std.proofs.Common.{◌<◌, ◌==◌, ◌≤◌, ◌∙◌, ◌∷◌, ◌≡◌, ◌≢◌, ◌⊎◌, Bool, List, [], ap, arith, cond, false, inl, inr, refl, sym, true, ℕ}
use Rattle.std.proofs.lemmas.Bool.{cases_Bool, cases_eq, eq-eqb, ne_eqb}
use Rattle.dstm_model.specs.Answers.{AreBelow, Committed, NumbersFall, by_caller}

-- numbers below n are below what is not less
pub below_more : (n m : ℕ) (xs : List Committed) → n ≤ m → AreBelow n xs → AreBelow m xs
below_more n m [] h b = tt
below_more n m (x ∷ xs) h b = (let y = b.0 in omega arith, below_more n m xs h b.1)

head_is : (x : Committed) (xs : List Committed) → by_caller x.caller (x ∷ xs) ≡ x ∷ by_caller x.caller xs
head_is x xs = rw (eq-eqb x.caller x.caller refl) refl

-- one attempt more of a caller, if it is one
pub own_list : (b : Bool) (x : Committed) (xs : List Committed) →
    by_caller x.caller (cond b (x ∷ xs) xs) ≡ cond b (x ∷ by_caller x.caller xs) (by_caller x.caller xs)
own_list true x xs = head_is x xs
own_list false x xs = refl

-- and of another caller
pub other_list : (b : Bool) (c : ℕ) (x : Committed) (xs : List Committed) → x.caller ≢ c →
    by_caller c (cond b (x ∷ xs) xs) ≡ by_caller c xs
other_list true c x xs h = rw (ne_eqb x.caller c h) refl
other_list false c x xs h = refl

-- an attempt that stands first among its caller's is in the list, so its number is not above the first
first_below : (c : ℕ) (x : Committed) (part ys : List Committed) (n : ℕ) → by_caller c ys ≡ x ∷ part →
    AreBelow n ys → x.number < n
first_below c x part [] n h b = absurd (cc)
first_below c x part (y ∷ ys) n h b = go (λ q. first_below c x part ys n q b.1) (cases_Bool (y.caller == c))
  where
    go : (by_caller c ys ≡ x ∷ part → x.number < n) → (y.caller == c ≡ true) ⊎ (y.caller == c ≡ false) → x.number < n
    go ih (inr q) = ih (rw q at h)
    go ih (inl q) =
        let k : y ∷ by_caller c ys ≡ x ∷ part = rw q at h in
        let same : y ≡ x = cc in
        let m : y.number ≡ x.number = ap (λ (z : Committed). z.number) same in let lt = b.0 in omega arith

-- the first of one list is the first of the other
same_head : (x y : Committed) (xs ys : List Committed) → AreBelow x.number xs → AreBelow y.number ys →
    ((c : ℕ) → by_caller c (x ∷ xs) ≡ by_caller c (y ∷ ys)) → x ≡ y
same_head x y xs ys bx by same = go (cases_eq y.caller x.caller)
  where
    in_other : by_caller x.caller (y ∷ ys) ≡ x ∷ by_caller x.caller xs
    in_other = sym (same x.caller) ∙ head_is x xs

    in_one : by_caller y.caller (x ∷ xs) ≡ y ∷ by_caller y.caller ys
    in_one = same y.caller ∙ head_is y ys

    go : (y.caller ≡ x.caller) ⊎ (y.caller ≡ x.caller → ⊥) → x ≡ y
    go (inl q) =
        let h : y ∷ by_caller x.caller ys ≡ x ∷ by_caller x.caller xs =
        sym (ap (λ b. cond b (y ∷ by_caller x.caller ys) (by_caller x.caller ys)) (eq-eqb y.caller x.caller q))
        ∙ in_other in cc
    go (inr q) =
        let a : by_caller x.caller ys ≡ x ∷ by_caller x.caller xs =
        sym (ap (λ b. cond b (y ∷ by_caller x.caller ys) (by_caller x.caller ys)) (ne_eqb y.caller x.caller q))
        ∙ in_other in
        let d : by_caller y.caller xs ≡ y ∷ by_caller y.caller ys =
        sym (ap (λ b. cond b (x ∷ by_caller y.caller xs) (by_caller y.caller xs))
        (ne_eqb x.caller y.caller (λ z. q (sym z))))
        ∙ in_one in
        let lt = first_below x.caller x (by_caller x.caller xs) ys y.number a by in
        let gt = first_below y.caller y (by_caller y.caller ys) xs x.number d bx in absurd (omega arith)

same_tail : (c : ℕ) (x : Committed) (xs ys : List Committed) → by_caller c (x ∷ xs) ≡ by_caller c (x ∷ ys) →
    by_caller c xs ≡ by_caller c ys
same_tail c x xs ys h = go (cases_Bool (x.caller == c))
  where
    go : (x.caller == c ≡ true) ⊎ (x.caller == c ≡ false) → by_caller c xs ≡ by_caller c ys
    go (inl q) = let k : x ∷ by_caller c xs ≡ x ∷ by_caller c ys = rw q at h in cc
    go (inr q) = rw q at h

pub tell_all : (one other : List Committed) → NumbersFall one → NumbersFall other →
    ((c : ℕ) → by_caller c one ≡ by_caller c other) → one ≡ other
tell_all [] [] f g same = refl
tell_all [] (y ∷ ys) f g same = let h = same y.caller ∙ head_is y ys in absurd (cc)
tell_all (x ∷ xs) [] f g same = let h = sym (head_is x xs) ∙ same x.caller in absurd (cc)
tell_all (x ∷ xs) (y ∷ ys) f g same =
    let head : x ≡ y = same_head x y xs ys f.0 g.0 same in
    let tails : (c : ℕ) → by_caller c xs ≡ by_caller c ys =
    λ c. same_tail c x xs ys (same c ∙ ap (λ z. by_caller c (z ∷ ys)) (sym head)) in
    ap (λ zs. x ∷ zs) (tell_all xs ys f.1 g.1 tails) ∙ ap (λ z. z ∷ ys) head
