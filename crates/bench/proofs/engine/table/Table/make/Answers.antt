use Rattle.std.proofs.Common.{All, Global, Vec, subst, sym, ℕ}
use Rattle.dstm_core.specs.declared.shape.Shape.{Shape}
use Rattle.bench.specs.Places.{Exist}
use Rattle.bench.proofs.engine.table.Table.make.Goals as goal

pub invariant_of-result : goal.invariant_of-result
invariant_of-result c = record {
  home = c.in_ok-caller.ensures;
  exist = subst (λ (s : Shape). All (λ (places : Vec ℕ Global). Exist s places.items) c.in_ok-lists.lists.items)
      (sym c.in_ok-stm.ensures.shape) c.in_ok-lists.ensures;
}
