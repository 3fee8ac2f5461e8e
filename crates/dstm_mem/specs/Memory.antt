-- What a memory holds and what is set in it. Both are partial functions by object: `None` where there is
-- no value. A map is the list of the objects' values.
use Rattle.std.specs.Prelude.{◌≡◌, ◌≢◌, ◌≤◌, ℕ, suc, List, [], ◌∷◌, length, ◌==◌, Bool, Option, None, Some, IsSome, IfSome, IsTrue, unwrap_or, Contains}
use Rattle.std.specs.Map.{lookup}
use Rattle.dstm_model.specs.declared.value.Val.{Val}
use Rattle.dstm_model.specs.Map.{value_at}

-- the map with the values that are set; every other object keeps the map's
abbrev pub with_set : List Val → (ℕ → Option Val) → List Val
with_set [] written = []
with_set (v ∷ map) written = unwrap_or (written 0) v ∷ with_set map (λ o. written (suc o))

-- the value that pairs of an object and a value give an object: that of the first pair that names it
abbrev pub value_in : List (ℕ × Val) → ℕ → Option Val
value_in pairs o = lookup (λ p. p == o) pairs

-- the map has every value that is held
abbrev pub AgreesWith : List Val → (ℕ → Option Val) → Type 0
AgreesWith map held = (o : ℕ) → IfSome (held o) (λ v. value_at map o ≡ v)

-- no more than so many objects are held
pub record HoldsAtMost (most : ℕ) (held : ℕ → Option Val) : Type 0 where
  pub objects : List ℕ
  pub few : length objects ≤ most
  pub each : (o : ℕ) → IsSome (held o) → Contains objects o

-- object o is held, and no other is new or changed
pub record HoldsAlso (o : ℕ) (old new : ℕ → Option Val) : Type 0 where
  pub held : IsSome (new o)
  pub kept : (p : ℕ) → IsSome (old p) → new p ≡ old p
  pub others : (p : ℕ) → p ≢ o → new p ≡ old p

-- object o is held no more, and every other object is as before
pub record HoldsWithout (o : ℕ) (old new : ℕ → Option Val) : Type 0 where
  pub gone : new o ≡ None
  pub others : (p : ℕ) → p ≢ o → new p ≡ old p

-- object o has this value, and every other object is as before
pub record SetsOnly (o : ℕ) (v : Val) (old new : ℕ → Option Val) : Type 0 where
  pub value : new o ≡ Some v
  pub others : (p : ℕ) → p ≢ o → new p ≡ old p

-- no object but o is newly marked, and each mark stays
pub record MarksAtMost (o : ℕ) (old new : ℕ → Bool) : Type 0 where
  pub kept : (p : ℕ) → IsTrue (old p) → IsTrue (new p)
  pub others : (p : ℕ) → p ≢ o → new p ≡ old p
