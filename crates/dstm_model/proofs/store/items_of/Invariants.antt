use Rattle.std.proofs.Common.{◌≡◌, ◌++◌, map}
use Rattle.dstm_model.specs.Store.{item_of}
use Rattle.dstm_model.proofs.store.items_of.Given as goal

-- the items so far and those that are still to come
abbrev pub invariant-loop-key : goal.invariant-loop-key
invariant-loop-key l = l.items.items ++ map item_of l.key-iterator ≡ map item_of l.tree.entries
