-- Steps one after the other on the same memory.
use Rattle.std.proofs.Common.{◌≢◌}
use Rattle.dstm_tree.proofs.Base.{◌≡◌, ◌≤◌, ◌+◌, ℕ, List, sym, subst, Ok, Val, Region, Ghosts, IsOpen, Sets}
use Rattle.dstm_mem.specs.Operates.{Operates}
pub use Rattle.dstm_mem.proofs.Operating.{Through}
use Rattle.dstm_mem.proofs.Operating.{operates-none, operates-as, operates-then}
use Rattle.dstm_region.specs.Region.{size_of, IsInside}

module _ {S E : Type 0} {M : Ghosts S E} where
  -- the memory after a step is open as before
  pub open-after : {region : Region} {In : ℕ → Type 0} {A : Type 0} {Q T : A → Type 0}
      {R : A → List Val → List Val → Type 0} {old new : S} {x : A} →
      IsOpen M region old → Operates M In Q T R old new (Ok x) → IsOpen M region new
  open-after {region} ready step = record {
    tree = ready.tree;
    objects = subst (λ n. region.first + size_of region ≤ n) (sym step.leads.objects) ready.objects;
    live = step.leads.live;
    admits = step.leads.admits;
  }

  -- no step
  pub steps-none : {region : Region} {In : ℕ → Type 0} {A : Type 0} {Q T : A → Type 0}
      {R : A → List Val → List Val → Type 0} {old : S} {x : A} →
      IsOpen M region old → ((before : List Val) → R x before before) → Operates M In Q T R old old (Ok x)
  steps-none ready does = operates-none ready.admits ready.live does

module _ {S E : Type 0} {M : Ghosts S E} {In : ℕ → Type 0} where
  -- the same step with another answer, which says less
  pub steps-as : {A B : Type 0} {Q : A → Type 0} {Q' T' : B → Type 0} {R : A → List Val → List Val → Type 0}
      {R' : B → List Val → List Val → Type 0} {old new : S} {x : A} {y : B} →
      Operates M In Q (λ a. Unit {0}) R old new (Ok x) → (Q' y → Q x) →
      ((before after : List Val) → R x before after → R' y before after) → Operates M In Q' T' R' old new (Ok y)
  steps-as step quiet does = operates-as step quiet (λ all. tt) does

  -- one step after the other
  pub steps-then : {A B : Type 0} {Q : A → Type 0} {Q' : B → Type 0} {R : A → List Val → List Val → Type 0}
      {R' : B → List Val → List Val → Type 0} {old mid new : S} {x : A} {y : B} →
      Operates M In Q (λ a. Unit {0}) R old mid (Ok x) → Operates M In Q' (λ b. Unit {0}) R' mid new (Ok y) →
      Operates M In (λ b. Q x × Q' b) (λ b. Unit {0}) (λ b. Through (R x) (R' b)) old new (Ok y)
  steps-then one two = operates-as (operates-then one two) (λ q. q) (λ all. (tt, tt)) (λ before after h. h)

-- an object that is known otherwise was set to a value that is known otherwise
pub sets-same : {o p : ℕ} {v w : Val} {before after : List Val} → o ≡ p → v ≡ w → Sets o v before after →
    Sets p w before after
sets-same {o} {p} {v} {w} {before} {after} object value sets =
    subst (λ u. Sets p u before after) value (subst (λ q. Sets q v before after) object sets)

-- an object outside the region is none of its objects
pub other-outside : (region : Region) {object o : ℕ} → IsInside region object → ¬ IsInside region o → o ≢ object
other-outside region inside out same = out (subst (IsInside region) (sym same) inside)
