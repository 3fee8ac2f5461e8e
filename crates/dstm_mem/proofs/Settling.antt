-- What an entry that commits says of its body's maps.
use Rattle.std.proofs.Common.{◌≡◌, ◌∙◌, ◌+◌, ◌<◌, ◌⊎◌, ℕ, List, arith, inl, inr, length, refl, sym, ap, subst, cond, true, false}
use Rattle.std.proofs.lemmas.Bool.{cases_eq}
use Rattle.std.proofs.lemmas.List.{get_or-set_other, get_or-set_same}
use Rattle.std.specs.Prelude.{Bool, Option, Some, None, IfSome, slice_set, unwrap_or}
use Rattle.std.specs.Option.{option_or}
use Rattle.dstm_model.specs.declared.value.Val.{Val}
use Rattle.dstm_model.specs.Map.{Agrees, no_value, value_at, with_writes}
use Rattle.dstm_mem.specs.Memory.{AgreesWith, value_in, with_set}
use Rattle.dstm_mem.proofs.Pairs.{AgreesWith-of_agrees, with_writes-with_set}
use Rattle.dstm_mem.proofs.WithSet.{length-with_set, value_at-with_set, with_set-of_values}

-- the value that an object is left with: what is set, or what the map has
left_with : (b : Bool) (x : Val) (w h put : Option Val) → IfSome h (λ v. x ≡ v) →
    put ≡ cond b (option_or w h) None → (b ≡ false → w ≡ None) → unwrap_or put x ≡ unwrap_or w x
left_with true x None None put agrees is only = ap (λ p. unwrap_or p x) is
left_with true x None (Some v) put agrees is only = ap (λ p. unwrap_or p x) is ∙ sym agrees
left_with true x (Some y) None put agrees is only = ap (λ p. unwrap_or p x) is
left_with true x (Some y) (Some v) put agrees is only = ap (λ p. unwrap_or p x) is
left_with false x w h put agrees is only =
    ap (λ p. unwrap_or p x) is ∙ ap (λ p. unwrap_or p x) (sym (only refl))

-- a map that agrees with what is held is left the same by the writes and by what is set
pub writes_same : (map : List Val) (held written : ℕ → Option Val) (opened : ℕ → Bool) (writes : List (ℕ × Val)) →
    AgreesWith map held →
    ((o : ℕ) → value_in writes o ≡ cond (opened o) (option_or (written o) (held o)) None) →
    ((o : ℕ) → opened o ≡ false → written o ≡ None) →
    with_set map written ≡ with_writes map writes
writes_same map held written opened writes agrees puts only =
    sym (with_writes-with_set map writes
    ∙ with_set-of_values (with_set map (value_in writes)) map written (length-with_set map (value_in writes))
    (λ o lt. value_at-with_set map (value_in writes) o lt
    ∙ left_with (opened o) (value_at map o) (written o) (held o) (value_in writes o) (agrees o) (puts o) (only o)))

-- a map that agrees with the reads of an entry has what is held
pub agrees_held : (map : List Val) (held : ℕ → Option Val) (reads : List (ℕ × Val)) → Agrees map reads →
    ((o : ℕ) → value_in reads o ≡ held o) → AgreesWith map held
agrees_held map held reads agrees same o =
    let P : Option Val → Type 0 = λ h. IfSome h (λ v. value_at map o ≡ v) in
    subst P (same o) (AgreesWith-of_agrees map reads agrees o)

-- one object more of a map has its value
pub settled_more : (value : ℕ → Val) (map : List Val) (o : ℕ) (new : Val) → o < length map → new ≡ value o →
    ((k : ℕ) → k < o → value_at map k ≡ value k) → (k : ℕ) → k < o + 1 → value_at (slice_set map o new) k ≡ value k
settled_more value map o new below is settled k lt = by (cases_eq k o)
  where
    by : (k ≡ o) ⊎ (k ≡ o → ⊥) → value_at (slice_set map o new) k ≡ value k
    by (inl same) =
        subst (λ n. value_at (slice_set map o new) n ≡ value n) (sym same)
        (get_or-set_same map o new no_value below ∙ is)
    by (inr other) = get_or-set_other map o k new no_value other ∙ settled k (omega (arith, lt, other))
