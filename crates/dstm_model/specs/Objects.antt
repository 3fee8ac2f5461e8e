-- The objects of a layout, and what it says that their values stand for a store.
--
-- Objects stand in this order, and a structure that is not declared has none:
--     bank    one for each account
--     list    its head, the head of its free chain, its nodes 1 to n
--     tree    its root, the head of its free chain, its nodes 1 to n
use Rattle.std.specs.Prelude.{◌≡◌, ℕ, ◌+◌, ◌*◌, ◌<◌, ◌==◌, if◌then◌else◌, List, length, sum, slice_index}
use Rattle.dstm_model.specs.declared.value.Val.{Val}
use Rattle.dstm_model.specs.declared.layout.Layout.{Layout}
use Rattle.dstm_model.specs.declared.op.Op.{Op}
use Rattle.dstm_model.specs.declared.reply.Reply.{Reply}
use Rattle.dstm_model.specs.Map.{value_at}
use Rattle.dstm_model.specs.Store.{Store, apply}

-- how many objects a structure with room for n keys has
abbrev pub structure_objects : ℕ → ℕ
structure_objects n = if n == 0 then 0 else n + 2

-- the parts of a structure whose objects begin at `begin`: its head or root is the first, the head of its
-- free chain the second, and its nodes are numbered from 1
abbrev pub free_object : ℕ → ℕ
free_object begin = begin + 1

abbrev pub node_object : ℕ → ℕ → ℕ
node_object begin i = begin + 1 + i

-- where the list's objects begin, and those of the tree
abbrev pub list_begin : Layout → ℕ
list_begin layout = layout.accounts

abbrev pub tree_begin : Layout → ℕ
tree_begin layout = list_begin layout + structure_objects layout.list

-- how many objects there are
abbrev pub objects_of : Layout → ℕ
objects_of layout = tree_begin layout + structure_objects layout.tree

-- the value with this low part, and the high part 0
abbrev pub plain : ℕ → Val
plain n = record { low = n; high = 0 }

-- the accounts hold the store's balances, whose sum is that of the opening balances
pub record IsBank (layout : Layout) (map : List Val) (store : Store) : Type 0 where
  pub accounts : length store.balances ≡ layout.accounts
  pub values : (a : ℕ) → a < layout.accounts → value_at map a ≡ plain (slice_index store.balances a)
  pub total : sum store.balances ≡ layout.accounts * layout.opening

-- whatever store the map before stands for, the reply is that of the operation on it, and the map after
-- stands for the store after. `StandsFor` is of the whole store, or of one structure.
abbrev pub Does : (List Val → Store → Type 0) → Op → List Val → List Val → Reply → Type 0
Does StandsFor op before after reply =
    (store : Store) → StandsFor before store →
    (reply ≡ (apply op store).reply) × StandsFor after (apply op store).store
