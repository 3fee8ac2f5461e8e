use Rattle.std.proofs.Common.{◌≡◌, ℕ, ◌<◌, ◌≤◌}
use Rattle.std.specs.Prelude.{length}
use Rattle.dstm_core.specs.Left.{value_left}
use Rattle.dstm_model.specs.Map.{value_at}
use Rattle.dstm_engine.proofs.closing.settle.Given as goal

abbrev pub invariant-loop-o : goal.invariant-loop-o
invariant-loop-o l = record {
  objects : length l.values.items ≡ l.shape.objects;
  settled : (k : ℕ) → k < l.o → value_at l.values.items k ≡ value_left l.shape l.initial.values.items l.words k;
  rest : (k : ℕ) → l.o ≤ k → value_at l.values.items k ≡ value_at l.initial.values.items k;
}
