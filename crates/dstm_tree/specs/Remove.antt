-- Private: what it means to take a key out of a subtree: where a black node is taken out below a node, the black height on
-- that side falls by one, and a rotation or a new colour makes the sides as high again, or passes the fall up.
use Rattle.std.specs.Prelude.{◌≡◌, ◌≢◌, ℕ, ◌+◌, ◌<◌, ◌≤◌, ◌==◌, Bool, true, false, if◌then◌else◌, List, ◌∷◌, Option}
use Rattle.std.specs.Prelude.{None, Some, IsSome, not}
use Rattle.dstm_model.specs.declared.value.Val.{Val}
use Rattle.dstm_model.specs.Map.{value_at}
use Rattle.dstm_model.specs.Objects.{plain}
use Rattle.dstm_model.specs.Store.{value_of, without_item}
use Rattle.dstm_region.specs.declared.region.Region.{Region}
use Rattle.dstm_tree.specs.declared.node.Node.{Node}
use Rattle.dstm_tree.specs.declared.side.Side.{Side}
use Rattle.dstm_tree.specs.declared.balance.Cut.{Cut}
use Rattle.dstm_tree.specs.declared.removal.Least.{Least}
use Rattle.dstm_tree.specs.declared.removal.Removed.{Removed}
use Rattle.dstm_tree.specs.Side.{other}
use Rattle.dstm_tree.specs.Tree.{Tree, is_red, items_of, count_of, black_height}
use Rattle.dstm_tree.specs.Objects.{root_of, free_of, object_of}
use Rattle.dstm_tree.specs.Node.{IsRead, Subtree, Stands, Fork, child, with_red, sided, val_of}
use Rattle.dstm_tree.specs.Steps.{Sets, Updates}

-- of the tree's objects no other is changed than nodes that are touched
pub record Changes (region : Region) (touched : ℕ → ℕ) (before after : List Val) : Type 0 where
  pub root : value_at after (root_of region) ≡ value_at before (root_of region)
  pub free : value_at after (free_of region) ≡ value_at before (free_of region)
  pub nodes : (i : ℕ) → 0 < i → i ≤ region.nodes → touched i ≡ 0 →
      value_at after (object_of region i) ≡ value_at before (object_of region i)

-- 1 where the black height fell
abbrev pub fall_of : Bool → ℕ
fall_of fell = if fell then 1 else 0

-- 1 for a black node
abbrev pub blackness : Bool → ℕ
blackness red = if red then 0 else 1

-- what stands for the tree s, which may not be balanced: a balanced tree of its nodes and items, whose black height
-- is the one given or has fallen by one, and whose root is red only if `red` is true
pub record IsCut (region : Region) (s : Tree) (height : ℕ) (red : Bool) (cut : Cut) (before after : List Val) : Type 0
  where
    pub tree : Tree
    pub items : items_of tree ≡ items_of s
    pub counts : (i : ℕ) → count_of i tree ≡ count_of i s
    pub height_is : black_height tree + fall_of cut.fell ≡ height
    pub colour : is_red tree ≡ true → red ≡ true
    pub stands : Stands region after cut.root tree
    pub keeps : Changes region (λ i. count_of i s) before after

-- A gap: below the node p, held as it was, the black height of the near subtree may have fallen by one. The far
-- subtree is black below a red node, and so is the near one if it has not fallen.
--
--           p
--         /   \
--     near     far
pub record Gap (region : Region) (side : Side) (held p : Node) (fell : Bool) (near far : Tree) (map : List Val) : Type
    0 where
  pub number : 0 < p.number
  pub within : p.number ≤ region.nodes
  pub held_is : value_at map (object_of region p.number) ≡ val_of held
  pub near_stands : Stands region map (child side p) near
  pub far_stands : Stands region map (child (other side) p) far
  pub once : (i : ℕ) → 0 < i → i ≤ region.nodes → count_of i (sided side p near far) ≤ 1
  pub heights : black_height near + fall_of fell ≡ black_height far
  pub near_colour : p.red ≡ true → fell ≡ false → is_red near ≡ false
  pub far_colour : p.red ≡ true → is_red far ≡ false

abbrev pub HasGap : Region → Side → Node → Node → Bool → List Val → Type 0
HasGap region side held p fell map = (near : Tree) × ((far : Tree) × Gap region side held p fell near far map)

-- the gap is closed: the node and its subtrees are balanced again
abbrev pub Closes : Region → Side → Node → Node → Bool → Cut → List Val → List Val → Type 0
Closes region side held p fell cut before after =
    (near far : Tree) → Gap region side held p fell near far before →
    IsCut region (sided side p near far) (black_height far + blackness p.red) p.red cut before after

-- a gap where the near subtree has fallen beside a sibling s that is red or black
--
--           p
--         /   \
--     near     s
--            /   \
--       inner     outer
pub record Fall (region : Region) (side : Side) (red : Bool) (held p s : Node) (near inner outer : Tree)
    (map : List Val) : Type 0 where
  pub gap : Gap region side held p true near (sided side s inner outer) map
  pub fork : Fork region map side s inner outer
  pub colour : s.red ≡ red

abbrev pub HasFall : Region → Side → Bool → Node → Node → Node → List Val → Type 0
HasFall region side red held p s map =
    (near : Tree) × ((inner : Tree) × ((outer : Tree) × Fall region side red held p s near inner outer map))

-- the fallen subtree is lifted, by rotations toward it or by a red sibling; under a red node the whole does not fall
abbrev pub Lifts : Region → Side → Bool → Node → Node → Node → Cut → List Val → List Val → Type 0
Lifts region side red held p s cut before after =
    (near inner outer : Tree) → Fall region side red held p s near inner outer before →
    IsCut region (sided side p near (sided side s inner outer))
    (black_height (sided side s inner outer) + blackness p.red) p.red cut before after
    × (cut.fell ≡ true → p.red ≡ false)

-- two nodes were written, and then the one that stands over them, the new root
pub record Arranges (region : Region) (near far top : Node) (cut : Cut) (before after : List Val) : Type 0 where
  pub root : cut.root ≡ top.number
  pub fell : cut.fell ≡ false
  pub one : List Val
  pub two : List Val
  pub first : Sets (object_of region near.number) (val_of near) before one
  pub second : Sets (object_of region far.number) (val_of far) one two
  pub third : Sets (object_of region top.number) (val_of top) two after

-- a node was made red, and then the one that stands over it black; if that was black, the whole fell
pub record Recolours (region : Region) (held p s : Node) (cut : Cut) (before after : List Val) : Type 0 where
  pub cut_is : cut ≡ record { root = p.number; fell = not p.red }
  pub mid : List Val
  pub first : Sets (object_of region s.number) (val_of (with_red true s)) before mid
  pub second : Updates region held (with_red false p) mid after

-- a red root with its subtrees
pub record IsRedFork (region : Region) (map : List Val) (side : Side) (t : Tree) (x : Node) : Type 0 where
  pub near : Tree
  pub far : Tree
  pub tree : t ≡ sided side x near far
  pub red : x.red ≡ true
  pub fork : Fork region map side x near far

-- the tree's root is red, and was found, or it is black
abbrev pub SeesRed : Region → List Val → Side → Tree → Option Node → Type 0
SeesRed region map side t None = is_red t ≡ false
SeesRed region map side t (Some x) = IsRedFork region map side t x

-- the tree under a number was looked at
abbrev pub FindsRed : Region → ℕ → Option Node → List Val → List Val → Type 0
FindsRed region number found before after =
    (after ≡ before)
    × ((side : Side) (t : Tree) → Stands region before number t → SeesRed region before side t found)

-- a subtree that lost a node: some of its nodes, balanced, whose black height may have fallen by one
pub record Became (region : Region) (old : Tree) (cut : Cut) (before after : List Val) : Type 0 where
  pub tree : Tree
  pub fewer : (i : ℕ) → count_of i tree ≤ count_of i old
  pub height_is : black_height tree + fall_of cut.fell ≡ black_height old
  pub colour : is_red tree ≡ true → is_red old ≡ true
  pub stands : Stands region after cut.root tree
  pub keeps : Changes region (λ i. count_of i old) before after

-- 1 at a number, 0 at every other
abbrev pub one_at : ℕ → ℕ → ℕ
one_at number i = if number == i then 1 else 0

-- a node was taken out: its number, and what is left
pub record Loses (region : Region) (number : ℕ) (t : Tree) (cut : Cut) (before after : List Val) : Type 0 where
  pub became : Became region t cut before after
  pub counts : (i : ℕ) → one_at number i + count_of i became.tree ≡ count_of i t
  pub some : 0 < number
  pub within : number ≤ region.nodes

-- the first item of a subtree was taken out
pub record TakesFirst (region : Region) (t : Tree) (least : Least) (before after : List Val) : Type 0 where
  pub loses : Loses region least.node.number t least.cut before after
  pub items : items_of t ≡ (least.node.key, least.node.value) ∷ items_of loses.became.tree

abbrev pub TakesLeast : Region → ℕ → ℕ → Least → List Val → List Val → Type 0
TakesLeast region at depth least before after =
    (h : Subtree region before at depth) → TakesFirst region h.tree least before after

-- a key was taken out, and with it one node
pub record TakesKey (region : Region) (key : ℕ) (t : Tree) (removed : Removed) (before after : List Val) : Type 0 where
  pub loses : Loses region removed.number t removed.cut before after
  pub present : IsSome (value_of key (items_of t))
  pub items : items_of loses.became.tree ≡ without_item key (items_of t)

abbrev pub Removes : Region → ℕ → ℕ → ℕ → Removed → List Val → List Val → Type 0
Removes region key at depth removed before after =
    (h : Subtree region before at depth) → TakesKey region key h.tree removed before after

-- the same of a root that was read
abbrev pub RemovesRoot : Region → Node → ℕ → Removed → List Val → List Val → Type 0
RemovesRoot region x depth removed before after =
    IsRead region x.number x before before → Removes region x.key x.number depth removed before after

-- the same where the key may be absent
abbrev pub TakesKeyIf : Region → ℕ → Tree → Option Removed → List Val → List Val → Type 0
TakesKeyIf region key t None before after = (value_of key (items_of t) ≡ None) × (after ≡ before)
TakesKeyIf region key t (Some removed) before after = TakesKey region key t removed before after

abbrev pub RemovesIf : Region → ℕ → ℕ → ℕ → Option Removed → List Val → List Val → Type 0
RemovesIf region key at depth found before after =
    (h : Subtree region before at depth) → TakesKeyIf region key h.tree found before after

-- a subtree of black height 0 takes the place of a node of this colour, its parent, which had no other child
abbrev pub Hoists : Region → ℕ → Bool → Cut → List Val → List Val → Type 0
Hoists region number red cut before after =
    (t : Tree) → Stands region before number t → ((i : ℕ) → 0 < i → i ≤ region.nodes → count_of i t ≤ 1) →
    black_height t ≡ 0 → (red ≡ true → is_red t ≡ false) → IsCut region t (blackness red) red cut before after

-- a node was put in front of the free chain
pub record GivesBack (region : Region) (number : ℕ) (before after : List Val) : Type 0 where
  pub node : value_at after (object_of region number) ≡ value_at before (free_of region)
  pub free : value_at after (free_of region) ≡ plain number
  pub others : (o : ℕ) → o ≢ object_of region number → o ≢ free_of region → value_at after o ≡ value_at before o

-- the root is named anew
abbrev pub NamesRoot : Region → ℕ → ℕ → List Val → List Val → Type 0
NamesRoot region held root before after =
    value_at before (root_of region) ≡ plain held → Sets (root_of region) (plain root) before after
