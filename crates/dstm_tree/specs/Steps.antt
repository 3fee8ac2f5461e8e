-- What the calls on a tree need of a memory, and what each step does.
use Rattle.std.specs.Prelude.{◌≡◌, ◌≢◌, ◌≤◌, ℕ, List, IsTrue, Bool, is_some, Option, Result}
use Rattle.dstm_model.specs.declared.value.Val.{Val}
use Rattle.dstm_model.specs.declared.layout.Layout.{Layout}
use Rattle.dstm_model.specs.Map.{value_at}
use Rattle.dstm_model.specs.Store.{value_of}
use Rattle.dstm_model.specs.Objects.{tree_begin}
use Rattle.dstm_mem.specs.declared.memory.Mem.{Ghosts}
use Rattle.dstm_mem.specs.Memory.{with_set}
use Rattle.dstm_mem.specs.Operates.{Operates}
use Rattle.dstm_region.specs.declared.region.Region.{Region}
use Rattle.dstm_region.specs.Region.{IsInside, IsWithin}
use Rattle.dstm_tree.specs.declared.node.Node.{Node}
use Rattle.dstm_tree.specs.Tree.{number_of}
use Rattle.dstm_tree.specs.Objects.{object_of, HasItems}
use Rattle.dstm_tree.specs.Node.{FitsTree, val_of}

-- the memory is live, has the objects of a region in which a tree fits, and admits a map
pub record IsOpen {S E : Type 0} (M : Ghosts S E) (region : Region) (memory : S) : Type 0 where
  pub tree : FitsTree region
  pub objects : IsWithin region (M.objects memory)
  pub live : IsTrue (M.is_live memory)
  pub admits : (map : List Val) × M.Admits memory map

-- the memory is live and has the objects of a region in which a tree fits, and in each map that it admits, with what is
-- set, they hold items, whose keys are below some limit
pub record IsReadyIn {S E : Type 0} (M : Ghosts S E) (region : Region) (memory : S) : Type 0 where
  pub tree : FitsTree region
  pub objects : IsWithin region (M.objects memory)
  pub live : IsTrue (M.is_live memory)
  pub lawful : (map : List Val) → M.Admits memory map →
      (limit : ℕ) × ((items : List (ℕ × ℕ)) × HasItems limit region (with_set map (M.written memory)) items)

-- of a layout, the objects from the tree's first on
abbrev pub IsOfTree : Layout → ℕ → Type 0
IsOfTree layout o = tree_begin layout ≤ o

-- a step of an operation on the tree, which sets whatever it newly opens for writing
abbrev pub Steps : {S E A : Type 0} → Ghosts S E → Region → (A → Type 0) → (A → List Val → List Val → Type 0) →
    S → S → Result A E → Type 0
Steps M region IsQuiet Does old new result =
    Operates M (IsInside region) IsQuiet (λ a. Unit {0}) Does old new result

-- an object was read
pub record Reads (object : ℕ) (value : Val) (before after : List Val) : Type 0 where
  pub is : value_at before object ≡ value
  pub same : after ≡ before

-- an object was set, and no other
pub record Sets (object : ℕ) (value : Val) (before after : List Val) : Type 0 where
  pub is : value_at after object ≡ value
  pub others : (o : ℕ) → o ≢ object → value_at after o ≡ value_at before o

-- the root's number was read
pub record ReadsRoot (region : Region) (root : ℕ) (before after : List Val) : Type 0 where
  pub same : after ≡ before
  pub is : (limit : ℕ) (items : List (ℕ × ℕ)) (t : HasItems limit region before items) → number_of t.tree ≡ root

-- a key's value was found, if it is there
pub record Finds (region : Region) (key : ℕ) (found : Option ℕ) (before after : List Val) : Type 0 where
  pub same : after ≡ before
  pub is : (limit : ℕ) (items : List (ℕ × ℕ)) → HasItems limit region before items → found ≡ value_of key items

-- it was found whether a key is there
pub record FindsIf (region : Region) (key : ℕ) (found : Bool) (before after : List Val) : Type 0 where
  pub same : after ≡ before
  pub is : (limit : ℕ) (items : List (ℕ × ℕ)) → HasItems limit region before items →
      found ≡ is_some (value_of key items)

-- a node that was held was written
abbrev pub Updates : Region → Node → Node → List Val → List Val → Type 0
Updates region held x before after =
    value_at before (object_of region x.number) ≡ val_of held →
    Sets (object_of region x.number) (val_of x) before after
