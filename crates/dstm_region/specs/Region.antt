-- Which objects a region has, where it fits, and the regions of a layout.
use Rattle.std.specs.Prelude.{ℕ, ◌+◌, ◌^◌, ◌<◌, ◌≤◌}
use Rattle.dstm_model.specs.declared.layout.Layout.{Layout}
use Rattle.dstm_model.specs.Objects.{list_begin, tree_begin}
use Rattle.dstm_region.specs.declared.region.Region.{Region}

-- how many objects a region has: two heads, and its nodes
abbrev pub size_of : Region → ℕ
size_of region = region.nodes + 2

-- object o is one of the region's
abbrev pub IsInside : Region → ℕ → Type 0
IsInside region o = (region.first ≤ o) × (o < region.first + size_of region)

-- a memory with n objects has those of the region
abbrev pub IsWithin : Region → ℕ → Type 0
IsWithin region n = region.first + size_of region ≤ n

-- the numbers of the region's objects have 32 bits
abbrev pub IsNumbered : Region → Type 0
IsNumbered region = region.first + size_of region ≤ 2 ^ 32

-- the regions of a layout's list and of its tree
abbrev pub list_region : Layout → Region
list_region layout = record { first = list_begin layout; nodes = layout.list }

abbrev pub tree_region : Layout → Region
tree_region layout = record { first = tree_begin layout; nodes = layout.tree }
