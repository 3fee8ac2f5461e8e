use Rattle.std.proofs.Common.{◌≡◌, ◌≢◌, ℕ, ◌+◌, ◌<◌}
use Rattle.dstm_engine.specs.Opened.{read_at}
use Rattle.dstm_mem.specs.Slots.{place_at}
use Rattle.dstm_engine.proofs.opened.place_reads.Given as goal

abbrev pub invariant-loop-i : goal.invariant-loop-i
invariant-loop-i l = record {
  done : (k : ℕ) → k < l.i → (place_at l.places (read_at l.reads k).object).read ≡ k + 1;
  others : (o : ℕ) → ((k : ℕ) → k < l.i → (read_at l.reads k).object ≢ o) →
      (place_at l.places o).read ≡ (place_at l.initial.places o).read;
  writes : (o : ℕ) → (place_at l.places o).write ≡ (place_at l.initial.places o).write;
}
