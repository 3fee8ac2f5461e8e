use Rattle.std.proofs.Common.{◌≡◌, ℕ, ◌<◌, ◌≤◌}
use Rattle.std.specs.Prelude.{unwrap_or}
use Rattle.dstm_model.specs.Map.{value_at}
use Rattle.dstm_mem.specs.Flat.{written_in}
use Rattle.dstm_mem.proofs.flat.settle.Given as goal

abbrev pub invariant-loop-i : goal.invariant-loop-i
invariant-loop-i l = record {
  settled : (k : ℕ) → k < l.i →
      value_at l.values k ≡ unwrap_or (written_in l.notes k) (value_at l.initial.values k);
  rest : (k : ℕ) → l.i ≤ k → value_at l.values k ≡ value_at l.initial.values k;
}
