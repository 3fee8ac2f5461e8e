-- The regions of a valid layout fit in its objects.
use Rattle.std.proofs.Common.{◌≡◌, ℕ, zero, suc, ◌+◌, ◌<◌, ◌≤◌, arith}
use Rattle.dstm_model.specs.declared.layout.Layout.{Layout}
use Rattle.dstm_model.specs.Layout.{IsValid}
use Rattle.dstm_model.specs.Objects.{structure_objects, objects_of, tree_begin}
use Rattle.dstm_model.proofs.Objects.{structure_objects-declared}
use Rattle.dstm_region.specs.Region.{IsWithin, IsNumbered, list_region, tree_region}

structure_objects-most : (n : ℕ) → structure_objects n ≤ n + 2
structure_objects-most zero = omega arith
structure_objects-most (suc n) = omega (arith, structure_objects-declared (suc n) (omega arith))

pub list-within : (layout : Layout) → 0 < layout.list → IsWithin (list_region layout) (tree_begin layout)
list-within layout declared = omega (arith, structure_objects-declared layout.list declared)

pub list-numbered : {layout : Layout} → IsValid layout → IsNumbered (list_region layout)
list-numbered {layout} valid = omega (arith, valid.accounts, valid.list)

pub tree-within : (layout : Layout) → 0 < layout.tree → IsWithin (tree_region layout) (objects_of layout)
tree-within layout declared = omega (arith, structure_objects-declared layout.tree declared)

pub tree-numbered : {layout : Layout} → IsValid layout → IsNumbered (tree_region layout)
tree-numbered {layout} valid =
    omega (arith, valid.accounts, valid.list, valid.tree, structure_objects-most layout.list)
