use Rattle.std.proofs.Common.{◌≡◌, List, length}
use Rattle.dstm_model.specs.declared.value.Val.{Val}
use Rattle.dstm_model.specs.Objects.{objects_of}
use Rattle.dstm_mem.specs.Memory.{with_set}
use Rattle.dstm_mem.specs.Flat.{written_in}
use Rattle.dstm_store.specs.Whole.{IsLawful}
use Rattle.dstm_store_tests.proofs.tests.maps.all_answer_so.Given as goal

abbrev pub invariant-loop-op : goal.invariant-loop-op
invariant-loop-op l = record {
  objects : length l.mem.mem.values.items ≡ objects_of l.layout;
  lawful : (map : List Val) → map ≡ l.mem.mem.values.items →
      IsLawful l.layout (with_set map (written_in l.mem.mem.notes.items));
}
