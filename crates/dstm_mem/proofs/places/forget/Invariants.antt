use Rattle.std.proofs.Common.{◌≡◌, ◌⊎◌, ℕ, ◌<◌}
use Rattle.dstm_mem.specs.Slots.{place_at, slot_at}
use Rattle.dstm_mem.proofs.places.forget.Given as goal

abbrev pub invariant-loop-slot : goal.invariant-loop-slot
invariant-loop-slot g l = record {
  done : (k : ℕ) → k < l.slot-index → ((place_at l.places (g.S.Slot.sort.object (slot_at g.S.Slot.sort l.slots k))).read ≡ 0)
      × ((place_at l.places (g.S.Slot.sort.object (slot_at g.S.Slot.sort l.slots k))).write ≡ 0);
  reads : (o : ℕ) → ((place_at l.places o).read ≡ 0)
      ⊎ ((place_at l.places o).read ≡ (place_at l.initial.places o).read);
  writes : (o : ℕ) → ((place_at l.places o).write ≡ 0)
      ⊎ ((place_at l.places o).write ≡ (place_at l.initial.places o).write);
}
