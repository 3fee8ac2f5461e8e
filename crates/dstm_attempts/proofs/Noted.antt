-- The last of what was noted behind other things.
use Rattle.std.proofs.Common.{◌≡◌, ◌++◌, ◌+◌, ◌-◌, ◌<◌, ◌≤◌, ◌∙◌, ◌∷◌, List, [], ap, arith, get_or, length, length-append, suc, sym, take, ℕ}
use Rattle.std.proofs.Math.Seq.{get_or-append_right, take-append-add, take-length, take-suc}

module _ {A : Type 0} (first left : List A) (last : ℕ) (it : A) where
  -- it stands behind those that were noted before it
  at_end : length (first ++ left) ≡ last + 1 → length first ≤ last → it ≡ get_or (first ++ left) last it →
      left ≡ take (last - length first) left ++ (it ∷ [])
  at_end size within is =
      let all : suc (last - length first) ≡ length left = omega (arith, length-append first left, size, within) in
      let inside : last - length first < length left = omega (arith, all) in
      sym (ap (λ n. take n left) all ∙ take-length left)
      ∙ take-suc left (last - length first) it inside
      ∙ ap (λ (x : A). take (last - length first) left ++ (x ∷ []))
      (sym (get_or-append_right first left last it within) ∙ sym is)

  before_end : length first ≤ last → take last (first ++ left) ≡ first ++ take (last - length first) left
  before_end within =
      let split : last ≡ length first + (last - length first) = omega (arith, within) in
      ap (λ n. take n (first ++ left)) split ∙ take-append-add first left (last - length first)

  -- so what is noted without it is the first and the rest
  pub without_last : {noted fewer : List A} → noted ≡ first ++ left → length noted ≡ last + 1 → length first ≤ last →
      it ≡ get_or noted last it → fewer ≡ take last noted →
      (rest : List A) × (left ≡ rest ++ (it ∷ [])) × (fewer ≡ first ++ rest)
  without_last all size within is less = (
    take (last - length first) left,
    at_end (sym (ap length all) ∙ size) within (is ∙ ap (λ (xs : List A). get_or xs last it) all),
    less ∙ ap (take last) all ∙ before_end within,
  )
