-- Which layouts are valid, and which operations fit one.
use Rattle.std.specs.Prelude.{◌≡◌, ℕ, ◌<◌, ◌≤◌}
use Rattle.dstm_model.specs.declared.layout.Layout.{Layout}
use Rattle.dstm_model.specs.declared.layout.TheConstants.{MAX_ACCOUNTS, MAX_OPENING, MAX_LIST_NODES, MAX_TREE_NODES, KEY_LIMIT, AMOUNT_LIMIT}
use Rattle.dstm_model.specs.declared.op.Which.{Which}
use Rattle.dstm_model.specs.declared.op.Which.TheVariants as which
use Rattle.dstm_model.specs.declared.op.Cond.{Cond}
use Rattle.dstm_model.specs.declared.op.Cond.TheVariants as cond
use Rattle.dstm_model.specs.declared.op.Op.{Op}
use Rattle.dstm_model.specs.declared.op.Op.TheVariants.{Transfer, Balance, Total, Insert, Remove, Member, Put, Get, Await, OrElse}

-- each size is in its range, or 0 where its structure is not declared
pub record IsValid (layout : Layout) : Type 0 where
  pub accounts : layout.accounts ≤ MAX_ACCOUNTS
  pub opening : layout.opening ≤ MAX_OPENING
  pub unopened : layout.accounts ≡ 0 → layout.opening ≡ 0
  pub list : layout.list ≤ MAX_LIST_NODES
  pub tree : layout.tree ≤ MAX_TREE_NODES

-- how many keys a structure has room for
abbrev pub capacity : Which → Layout → ℕ
capacity which.List layout = layout.list
capacity which.Tree layout = layout.tree

-- the structure is declared, and the key in range
abbrev pub FitsKey : Layout → Which → ℕ → Type 0
FitsKey layout w key = (0 < capacity w layout) × (key < KEY_LIMIT)

-- a condition is about an account or a structure that is there
abbrev pub FitsCond : Layout → Cond → Type 0
FitsCond layout (cond.Balance account least) = (account < layout.accounts) × (least < AMOUNT_LIMIT)
FitsCond layout (cond.Key w key) = FitsKey layout w key

-- an operation's structure is declared, its accounts exist, and its numbers are in range
abbrev pub FitsLayout : Layout → Op → Type 0
FitsLayout layout (Transfer source target amount) = (source < layout.accounts) × (target < layout.accounts) × (amount < AMOUNT_LIMIT)
FitsLayout layout (Balance account) = account < layout.accounts
FitsLayout layout Total = 0 < layout.accounts
FitsLayout layout (Insert w key) = FitsKey layout w key
FitsLayout layout (Remove w key) = FitsKey layout w key
FitsLayout layout (Member w key) = FitsKey layout w key
FitsLayout layout (Put key value) = FitsKey layout which.Tree key
FitsLayout layout (Get key) = FitsKey layout which.Tree key
FitsLayout layout (Await c) = FitsCond layout c
FitsLayout layout OrElse = Unit {0}
