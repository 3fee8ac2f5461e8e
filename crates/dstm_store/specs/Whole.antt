-- What it says that a map stands for a whole store.
use Rattle.std.specs.Prelude.{◌≡◌, ◌<◌, List, [], length}
use Rattle.dstm_model.specs.declared.value.Val.{Val}
use Rattle.dstm_model.specs.declared.layout.Layout.{Layout}
use Rattle.dstm_model.specs.Layout.{IsValid}
use Rattle.dstm_model.specs.Store.{Store}
use Rattle.dstm_model.specs.Objects.{objects_of, IsBank}
use Rattle.dstm_list.specs.List.{IsList}
use Rattle.dstm_tree.specs.Objects.{IsTree}

-- The map has the layout's objects and no others, and those of each structure stand for its part of the
-- store. A tree that is not declared has no objects and no items.
pub record StandsFor (layout : Layout) (map : List Val) (store : Store) : Type 0 where
  pub objects : length map ≡ objects_of layout
  pub laid_out : store.layout ≡ layout
  pub bank : IsBank layout map store
  pub list : IsList layout map store
  pub tree : 0 < layout.tree → IsTree layout map store
  pub no_tree : layout.tree ≡ 0 → store.items ≡ []

-- a lawful map stands for a store
abbrev pub IsLawful : Layout → List Val → Type 0
IsLawful layout map = (store : Store) × StandsFor layout map store

-- a map stands for no two stores
abbrev pub StandsForOne : Type 0
StandsForOne =
    (layout : Layout) (map : List Val) (one two : Store) → IsValid layout →
    StandsFor layout map one → StandsFor layout map two → one ≡ two
