use Rattle.std.proofs.Common.{◌≡◌, ℕ, ◌<◌}
use Rattle.std.specs.Prelude.{length}
use Rattle.dstm_model.specs.Map.{value_at}
use Rattle.dstm_tl2_engine.specs.Closing.{value_left}
use Rattle.dstm_tl2_engine.proofs.closing.settle.Given as goal

abbrev pub invariant-loop-o : goal.invariant-loop-o
invariant-loop-o l = record {
  same : length l.values.items ≡ length l.initial.values.items;
  settled : (k : ℕ) → k < l.o → value_at l.values.items k ≡ value_left l.objects l.words k;
}
