use Rattle.std.proofs.Common.{◌≡◌, ◌++◌}
use Rattle.dstm_store.proofs.OpeningValues.{names_to}
use Rattle.dstm_store.proofs.opened.push_structure.Given as goal

abbrev pub invariant-loop-free : goal.invariant-loop-free
invariant-loop-free l = l.values.items ≡ l.fn.values.items ++ names_to l.free
