-- The values that the words of a closed table tell.
use Rattle.std.proofs.Common.{◌-◌, ◌<◌, ◌==◌, ◌∙◌, ◌≡◌, ◌≢◌, List, ap, arith, inl, inr, refl, subst, sym, true, ℕ}
use Rattle.std.specs.Prelude.{length, slice_index}
use Rattle.std.proofs.lemmas.Bool.{cond_both, eqb-false}
use Rattle.std.proofs.lemmas.List.{ext_get_or}
use Rattle.dstm_engine.proofs.Base.{Event, IsRunOf, LeftBy, OldWord, OwnerWord, Shape, StatusWord, Terms, Val, View, history_of, no_value, place, value_at, word}
use Rattle.dstm_core.specs.Left.{value_left, version_left, word_left}
use Rattle.dstm_core.proofs.Basic.{Names, basic}
use Rattle.dstm_core.proofs.LeftWords.{left_is_current, place_in}
use Rattle.dstm_core.proofs.Ranges.{old_names}
use Rattle.dstm_model.specs.Map.{state_after}
use Rattle.dstm_opacity.proofs.Opacity.{state_is_current}
use Rattle.dstm_opacity.specs.Laws.{IsCurrent}
use Rattle.dstm_engine.specs.Closing.{AreLeft, IsOwned, IsVersion}

named : (s : Shape) (log : List Event) (v : ℕ) → Names s log v → IsVersion s v
named s log v (inl z) some = absurd (some z)
named s log v (inr n) some = n.1.below

module _ {s : Shape} {words : List ℕ} (l : AreLeft s words) where
  object_names : (o : ℕ) → o < s.objects → Names s l.log (slice_index words o)
  object_names o h = subst (Names s l.log) (sym (l.left o (omega arith))) ((basic s l.log l.core).object o h)

  -- an object's word stands for a version
  pub object_is : (o : ℕ) → o < s.objects → IsVersion s (slice_index words o)
  object_is o h = named s l.log (slice_index words o) (object_names o h)

  owner_is : (v : ℕ) → Names s l.log v → IsOwned s words v
  owner_is v (inl z) some = absurd (some z)
  owner_is v (inr n) some =
      rw (l.left (place s (OwnerWord (v - 1))) (place_in s (OwnerWord (v - 1)) n.1.below))
      ((basic s l.log l.core).owner (v - 1) n.1).begun.below

  -- and its locator has an owner
  pub object_owned : (o : ℕ) → o < s.objects → IsOwned s words (slice_index words o)
  object_owned o h = owner_is (slice_index words o) (object_names o h)

  old_is : (v : ℕ) → Names s l.log v → v ≢ 0 → IsVersion s (word_left s words (OldWord (v - 1)))
  old_is v (inl z) some = absurd (some z)
  old_is v (inr n) some =
      subst (IsVersion s) (sym (l.left (place s (OldWord (v - 1))) (place_in s (OldWord (v - 1)) n.1.below)))
      (named s l.log (word s l.log (OldWord (v - 1))) ((old_names s l.log l.core).word (v - 1) n.1.below))

  -- the current version of an object is one
  pub current_is : (o : ℕ) → o < s.objects → IsVersion s (version_left s words (slice_index words o))
  current_is o h = of (slice_index words o) (object_names o h)
    where
      of : (v : ℕ) → Names s l.log v → IsVersion s (version_left s words v)
      of v n =
          cond_both (v == 0) _ _ (IsVersion s) (λ _ some. absurd (some refl))
          (λ q. cond_both (word_left s words (StatusWord (word_left s words (OwnerWord (v - 1)))) == 4) _ _
          (IsVersion s) (λ _. named s l.log v n) (λ _. old_is v n (eqb-false v 0 q)))

-- maps with the current values are the same
pub same_current : {s : Shape} {start : List Val} {log : List Event} {one other : List Val} →
    IsCurrent s start log one → IsCurrent s start log other → one ≡ other
same_current {s = s} {one = one} {other = other} a b =
    ext_get_or no_value one other (a.objects ∙ sym b.objects) (λ o within.
    let h : o < s.objects = let q = a.objects in omega (arith, within) in a.values o h ∙ sym (b.values o h))

-- the values have those of a table, by what the table was told
told_by : (values : List Val) {s shape : Shape} {start first : List Val} (words : List ℕ) → s ≡ shape →
    start ≡ first → ((o : ℕ) → o < shape.objects → value_at values o ≡ value_left shape first words o) →
    (o : ℕ) → o < s.objects → value_at values o ≡ value_left s start words o
told_by values {s = s} {shape = shape} {start = start} words is_shape is_start told = rw (is_shape, is_start) told

module _ {L : Type 0} {holds : L → List Val → Type 0} {terms : Terms L} {v : View L} {words : List ℕ}
    (l : LeftBy holds terms v words) (first : v.first ≡ true) (none_out : v.out ≡ 0) {shape : Shape} {start : List Val}
    (is_shape : terms.shape ≡ shape) (is_start : terms.start.value.items ≡ start) (values : List Val)
    (objects : length values ≡ shape.objects)
    (told : (o : ℕ) → o < shape.objects → value_at values o ≡ value_left shape start words o) where
  in_table : IsCurrent terms.shape terms.start.value.items l.log values
  in_table = record {
    objects = objects ∙ ap (λ (s : Shape). s.objects) (sym is_shape);
    values = λ o h.
        told_by values words is_shape is_start told o h
        ∙ left_is_current terms.shape l.log words l.left terms.start.value.items o l.run.run.core h;
  }

  -- the values that the words of a closed table tell, where no seat is out, are the current ones, and those of the state
  -- after the history
  pub last_values : {named : Terms L} → terms ≡ named →
      (values ≡ state_after named.start.value.items (history_of named.shape named.start.value.items v.log))
      × IsCurrent named.shape named.start.value.items v.log values × IsRunOf holds named v.log
  last_values is =
      rw (← is, ← (l.whole first none_out)) (
        same_current in_table
            (state_is_current terms.shape terms.start.value.items (holds terms.law.value) l.log l.run.run),
        in_table,
        l.run,
      )
