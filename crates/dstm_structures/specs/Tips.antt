-- What adding a key to the order of a map and taking one out does.
use Rattle.std.specs.Prelude.{◌≡◌, ◌≢◌, ◌⊎◌, ℕ, ◌+◌, ◌*◌, ◌/◌, ◌^◌, ◌<◌, ◌≤◌, Bool, if◌then◌else◌, List, Option, None, Some}
use Rattle.dstm_model.specs.declared.value.Val.{Val}
use Rattle.dstm_model.specs.Map.{value_at}
use Rattle.dstm_structures.specs.Maps.{keys_in}
use Rattle.dstm_structures.specs.Orders.{Below, Has, HoldsIn, IsBare, IsOrderedBy, KeepsButForks, Trie, fork, forks_in, left_in, level_in, link_to, right_in, root_in, tip}
use Rattle.dstm_structures.specs.declared.cells.Rows.{Rows}
use Rattle.dstm_structures.specs.declared.order.Fork.{Fork}

-- a trie stands on the cell of this fork
abbrev pub Uses : (cell : ℕ) → Trie → Type 0
Uses cell (tip p k) = ⊥
Uses cell (fork p j q l r) = (cell ≡ p) ⊎ (Uses cell l ⊎ Uses cell r)

-- NO FORK IS WASTED: the cells are in order, and each fork's cell is free on which their trie does not stand
abbrev pub WastesNoFork : (first n : ℕ) → List Val → Type 0
WastesNoFork first n values =
    (IsBare first n values × ((c : ℕ) → c < n → (forks_in first n values c).1 ≡ 0))
    ⊎ ((t : Trie) × IsOrderedBy first n t values × ((c : ℕ) → c < n → (Uses c t → ⊥) → (forks_in first n values c).1 ≡ 0))

-- a fork's cell tells a level, a prefix and two links
pub record TellsFork (cell level prefix left right : ℕ) (forks : ℕ → ℕ × ℕ) : Type 0 where
  pub level_is : level_in (forks cell).1 ≡ level
  pub prefix_is : (forks cell).0 ≡ prefix
  pub left_is : left_in (forks cell).1 ≡ left
  pub right_is : right_in (forks cell).1 ≡ right

-- a trie is another one with this tip, and stands on the same forks' cells and on this one
pub record HasGained (key at cell under bits : ℕ) (t grown : Trie) : Type 0 where
  pub below : Below under bits grown
  pub there : Has at key grown
  pub kept : (p k : ℕ) → Has p k t → Has p k grown
  pub no_more : (p k : ℕ) → Has p k grown → Has p k t ⊎ ((p ≡ at) × (k ≡ key))
  pub uses : (c : ℕ) → Uses c grown → Uses c t ⊎ (c ≡ cell)
  pub used : (c : ℕ) → Uses c t ⊎ (c ≡ cell) → Uses c grown

-- a trie is another one without this key
pub record HasLost (key under bits : ℕ) (t rest : Trie) : Type 0 where
  pub below : Below under bits rest
  pub kept : (p k : ℕ) → Has p k t → k ≢ key → Has p k rest
  pub no_more : (p k : ℕ) → Has p k rest → Has p k t × (k ≢ key)
  pub uses : (c : ℕ) → Uses c rest → Uses c t

module _ (cells : Rows) where
  -- the words of a fork's cell
  abbrev pub words_at : List Val → ℕ → ℕ × ℕ
  words_at values at = forks_in cells.first cells.capacity values at

  abbrev pub key_told : List Val → ℕ → Option ℕ
  key_told values at = keys_in cells.first values at

  -- every object but the cell of this fork keeps its value
  abbrev pub KeepsButFork : (cell : ℕ) → List Val → List Val → Type 0
  KeepsButFork cell before after =
      (o : ℕ) → o ≢ cells.first + 2 * cells.capacity + 1 + cell → value_at after o ≡ value_at before o

  -- every object but the cells of the order keeps its value
  abbrev pub KeepsButOrder : List Val → List Val → Type 0
  KeepsButOrder before after =
      (o : ℕ) → (o < cells.first + 2 * cells.capacity) ⊎ (cells.first + 3 * cells.capacity + 1 ≤ o) →
      value_at after o ≡ value_at before o

  -- ---- one fork's cell

  -- what a fork's cell tells was looked up
  pub record LooksFork (cell : ℕ) (held : Fork) (before after : List Val) : Type 0 where
    pub tells : TellsFork cell held.level held.prefix held.left held.right (words_at before)
    pub same : after ≡ before

  -- a fork's cell tells this now
  pub record SetsFork (cell : ℕ) (held : Fork) (before after : List Val) : Type 0 where
    pub tells : TellsFork cell held.level held.prefix held.left held.right (words_at after)
    pub others : KeepsButFork cell before after

  -- the link to one side of a fork is this now, where its cell told this fork
  pub record SetsSide (cell : ℕ) (held : Fork) (greater : Bool) (link : ℕ) (before after : List Val) : Type 0 where
    pub tells : TellsFork cell held.level held.prefix held.left held.right (words_at before) →
        TellsFork cell held.level held.prefix (if greater then held.left else link) (if greater then link else held.right)
        (words_at after)
    pub others : KeepsButFork cell before after

  -- a fork's cell is free now
  pub record FreesFork (cell : ℕ) (before after : List Val) : Type 0 where
    pub free : (words_at after cell).1 ≡ 0
    pub others : KeepsButFork cell before after

  -- the first fork's cell that is free was looked for, and nothing was set
  pub record FreeFork (cell : ℕ) (before after : List Val) : Type 0 where
    pub free : (words_at before cell).1 ≡ 0
    pub same : after ≡ before

  pub record NoFreeFork (before after : List Val) : Type 0 where
    pub taken : (cell : ℕ) → cell < cells.capacity → (words_at before cell).1 ≢ 0
    pub same : after ≡ before

  abbrev pub SeeksFork : Option ℕ → List Val → List Val → Type 0
  SeeksFork None before after = NoFreeFork before after
  SeeksFork (Some cell) before after = FreeFork cell before after

  -- ---- the link to the whole trie

  -- the link to the whole trie is this now, where it was that one
  pub record SetsRoot (was now : ℕ) (before after : List Val) : Type 0 where
    pub is : root_in cells.first cells.capacity before ≡ was → root_in cells.first cells.capacity after ≡ now
    pub others : (o : ℕ) → o ≢ cells.first + 2 * cells.capacity → value_at after o ≡ value_at before o

  -- ---- a tip more

  -- a trie has got this tip, by a fork in this cell, and keeps those that it had
  pub record Gains (key at cell under bits link : ℕ) (t : Trie) (before after : List Val) : Type 0 where
    pub grown : Trie
    pub is : link ≡ link_to grown
    pub held : HoldsIn cells.first cells.capacity after grown
    pub more : HasGained key at cell under bits t grown
    pub open more use *
    pub stays : (c : ℕ) → (Uses c t → ⊥) → c ≢ cell → words_at after c ≡ words_at before c

  -- A TIP IS ADDED below a link, by a fork in this cell where that is free; this link leads there now
  pub record AddsTip (key at cell link under now : ℕ) (before after : List Val) : Type 0 where
    pub alone : link ≡ 0 → (now ≡ 2 * at + 1) × (after ≡ before)
    pub gains : (bits : ℕ) (t : Trie) → link ≡ link_to t → HoldsIn cells.first cells.capacity before t →
        Below under bits t → key / 2 ^ under ≡ bits → ((p k : ℕ) → Has p k t → k ≢ key) →
        key_told before at ≡ Some key → (words_at before cell).1 ≡ 0 → Gains key at cell under bits now t before after
    pub others : KeepsButForks cells.first cells.capacity before after

  -- it is added beside the tip of this place, whatever the level below which that stands
  abbrev pub AddsBeside : (key at cell place now : ℕ) → List Val → List Val → Type 0
  AddsBeside key at cell place now before after = (under : ℕ) → AddsTip key at cell (2 * place + 1) under now before after

  -- it is added beside all tips of the fork of this cell
  abbrev pub AddsOver : (key at cell over : ℕ) (held : Fork) (now : ℕ) → List Val → List Val → Type 0
  AddsOver key at cell over held now before after =
      TellsFork over held.level held.prefix held.left held.right (words_at before) →
      (under : ℕ) → under ≤ 64 → AddsTip key at cell (2 * over + 2) under now before after

  -- A KEY IS ADDED TO THE ORDER, by a fork in this cell where that is free
  pub record AddsKey (key at cell : ℕ) (before after : List Val) : Type 0 where
    pub alone : root_in cells.first cells.capacity before ≡ 0 → root_in cells.first cells.capacity after ≡ 2 * at + 1
    pub unforked : root_in cells.first cells.capacity before ≡ 0 → (c : ℕ) → words_at after c ≡ words_at before c
    pub gains : (t : Trie) → root_in cells.first cells.capacity before ≡ link_to t →
        HoldsIn cells.first cells.capacity before t → Below 64 0 t → ((p k : ℕ) → Has p k t → k ≢ key) →
        key_told before at ≡ Some key → (words_at before cell).1 ≡ 0 →
        Gains key at cell 64 0 (root_in cells.first cells.capacity after) t before after
    pub others : KeepsButOrder before after

  -- ---- a tip less

  -- a trie has no other tip than this one
  pub record LeavesNone (key at link : ℕ) (t : Trie) : Type 0 where
    pub is : link ≡ 0
    pub alone : (p k : ℕ) → Has p k t → (p ≡ at) × (k ≡ key)
    pub bare : (c : ℕ) → Uses c t → ⊥

  -- a trie has lost this tip, and keeps the others; a fork's cell on which it does not stand any more is free
  pub record LeavesRest (key under bits link : ℕ) (t : Trie) (after : List Val) : Type 0 where
    pub rest : Trie
    pub is : link ≡ link_to rest
    pub held : HoldsIn cells.first cells.capacity after rest
    pub less : HasLost key under bits t rest
    pub open less use *
    pub freed : (c : ℕ) → Uses c t → ((words_at after c).1 ≡ 0) ⊎ Uses c rest

  pub record Loses (key at under bits link : ℕ) (t : Trie) (before after : List Val) : Type 0 where
    pub left : LeavesNone key at link t ⊎ LeavesRest key under bits link t after
    pub stays : (c : ℕ) → (Uses c t → ⊥) → words_at after c ≡ words_at before c

  -- THE TIP OF A KEY IS TAKEN OUT below a link; this link leads there now
  pub record DropsTip (key at link under now : ℕ) (before after : List Val) : Type 0 where
    pub loses : (bits : ℕ) (t : Trie) → link ≡ link_to t → HoldsIn cells.first cells.capacity before t →
        Below under bits t → Has at key t → Loses key at under bits now t before after
    pub others : KeepsButForks cells.first cells.capacity before after

  -- A KEY IS TAKEN OUT OF THE ORDER
  pub record DropsKey (key at : ℕ) (before after : List Val) : Type 0 where
    pub loses : (t : Trie) → root_in cells.first cells.capacity before ≡ link_to t →
        HoldsIn cells.first cells.capacity before t → Below 64 0 t → Has at key t →
        Loses key at 64 0 (root_in cells.first cells.capacity after) t before after
    pub others : KeepsButOrder before after
