-- The two sides of a node. What stands on the side that is spoken of is called near, and what stands on the
-- other one far.
use Rattle.std.specs.Prelude.{ℕ, ◌<◌}
use Rattle.dstm_tree.specs.declared.side.Side.{Side}
use Rattle.dstm_tree.specs.declared.side.Side.TheVariants.{Left, Right}

abbrev pub other : Side → Side
other Left = Right
other Right = Left

-- the first on the left, the second on the right
abbrev pub on : {A : Type 0} → Side → A → A → A
on Left a b = a
on Right a b = b

-- a key stands on this side of another one
abbrev pub IsToward : Side → ℕ → ℕ → Type 0
IsToward Left key root = key < root
IsToward Right key root = root < key
