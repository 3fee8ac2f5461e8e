-- The words that a table leaves tell the current values.
use Rattle.std.proofs.Common.{◌-◌, ◌<◌, ◌==◌, ◌∙◌, ◌≡◌, ◌≢◌, List, ap, arith, inl, inr, refl, ℕ}
use Rattle.std.specs.Prelude.{slice_index}
use Rattle.dstm_core.proofs.Base.{CallersWord, Core, Event, HasWord, HighWord, LowWord, NumbersWord, ObjectWord, OldWord, OwnerWord, RankWord, Shape, StampsWord, StatusWord, Val, Word, at, cond_both, current_value, current_version, eqb-false, place, version_value, word, word_count}
use Rattle.dstm_core.specs.Left.{value_left, version_left, version_value_left, word_left}
use Rattle.dstm_core.proofs.Basic.{Names, basic}
use Rattle.dstm_core.proofs.Ranges.{old_names}

-- the words of a shape lie in its table
pub place_in : (s : Shape) (w : Word) → HasWord s w → place s w < word_count s
place_in s (ObjectWord o) h = omega arith
place_in s (StatusWord a) h = omega arith
place_in s (RankWord a) h = omega arith
place_in s (OwnerWord l) h = omega arith
place_in s (OldWord l) h = omega arith
place_in s (LowWord l) h = omega arith
place_in s (HighWord l) h = omega arith
place_in s CallersWord h = omega arith
place_in s NumbersWord h = omega arith
place_in s StampsWord h = omega arith

module _ (s : Shape) (es : List Event) (words : List ℕ)
    (left : (p : ℕ) → p < word_count s → slice_index words p ≡ at es p) where
  -- a word of the shape
  word_is : (w : Word) → HasWord s w → word_left s words w ≡ word s es w
  word_is w h = left (place s w) (place_in s w h)

  -- the version that a word of an object stands for
  version_is : (x : ℕ) → Core s es → Names s es x → version_left s words x ≡ current_version s es x
  version_is x core (inl z) = rw (z) refl
  version_is x core (inr n) =
      let owner = word_is (OwnerWord (x - 1)) n.1.below in
      let begun = ((basic s es core).owner (x - 1) n.1).begun.below in
      let status = word_is (StatusWord (word s es (OwnerWord (x - 1)))) begun in
      let old = word_is (OldWord (x - 1)) n.1.below in
      rw (owner, status, old) refl

  version_named : (x : ℕ) → Core s es → Names s es x → Names s es (current_version s es x)
  version_named x core n =
      cond_both (x == 0) _ _ (Names s es) (λ _. inl refl)
      (λ q. cond_both (word s es (StatusWord (word s es (OwnerWord (x - 1)))) == 4) _ _ (Names s es) (λ _. n)
      (λ _. old (eqb-false x 0 q) n))
    where
      old : x ≢ 0 → Names s es x → Names s es (word s es (OldWord (x - 1)))
      old other (inl z) = absurd (other z)
      old other (inr m) = (old_names s es core).word (x - 1) m.1.below

  value_is : (start : List Val) (o v : ℕ) → Names s es v →
      version_value_left s start words o v ≡ version_value s start es o v
  value_is start o v (inl z) = rw (z) refl
  value_is start o v (inr n) =
      rw (word_is (LowWord (v - 1)) n.1.below, word_is (HighWord (v - 1)) n.1.below) refl

  -- the value that the words left tell is the current one
  pub left_is_current : (start : List Val) (o : ℕ) → Core s es → o < s.objects →
      value_left s start words o ≡ current_value s start es o
  left_is_current start o core h =
      let object = word_is (ObjectWord o) h in
      let names = (basic s es core).object o h in
      ap (λ x. version_value_left s start words o (version_left s words x)) object
      ∙ ap (version_value_left s start words o) (version_is (at es o) core names)
      ∙ value_is start o (current_version s es (at es o)) (version_named (at es o) core names)
