use Rattle.std.proofs.Common.{◌≤◌}
use Rattle.dstm_model.specs.Store.{Store}
use Rattle.dstm_model.specs.Objects.{list_begin}
use Rattle.dstm_store.specs.Whole.{StandsFor}
use Rattle.dstm_store.proofs.Walks.{Walk}
use Rattle.dstm_store.proofs.read.read_list.Given as goal

abbrev pub invariant-loop-step : goal.invariant-loop-step
invariant-loop-step l = record {
  within : l.at ≤ l.layout.list;
  walk : (store : Store) → (stands : StandsFor l.layout l.values store) →
      Walk (list_begin l.layout) l.layout.list l.values l.keys.items l.at l._step stands.list.holds.cells;
}
