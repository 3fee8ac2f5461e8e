-- Which objects an operation is about.
use Rattle.std.specs.Prelude.{◌≡◌, ◌⊎◌, ◌<◌, ℕ}
use Rattle.dstm_model.specs.declared.layout.Layout.{Layout}
use Rattle.dstm_model.specs.declared.op.Op.{Op}
use Rattle.dstm_model.specs.declared.op.Op.TheVariants.{Transfer, Balance, Total, Insert, Remove, Member}
use Rattle.dstm_model.specs.declared.op.Op.TheVariants.{Put, Get, Await, OrElse}
use Rattle.dstm_model.specs.declared.op.Which.{Which}
use Rattle.dstm_model.specs.declared.op.Which.TheVariants as which
use Rattle.dstm_list.specs.List.{IsOfList}
use Rattle.dstm_tree.specs.Steps.{IsOfTree}

-- the objects of a structure
abbrev pub IsOf : Which → Layout → ℕ → Type 0
IsOf which.List layout o = IsOfList layout o
IsOf which.Tree layout o = IsOfTree layout o

-- the accounts that an operation names, or all objects of its structure
abbrev pub Concerns : Layout → Op → ℕ → Type 0
Concerns layout (Transfer source target amount) o = (o ≡ source) ⊎ (o ≡ target)
Concerns layout (Balance account) o = o ≡ account
Concerns layout Total o = o < layout.accounts
Concerns layout (Insert which key) o = IsOf which layout o
Concerns layout (Remove which key) o = IsOf which layout o
Concerns layout (Member which key) o = IsOf which layout o
Concerns layout (Put key value) o = IsOfTree layout o
Concerns layout (Get key) o = IsOfTree layout o
Concerns layout (Await condition) o = ⊥
Concerns layout OrElse o = ⊥
