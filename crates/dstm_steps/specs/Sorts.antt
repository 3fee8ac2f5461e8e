-- Which objects the slots are of, and which of them count.
use Rattle.std.specs.Prelude.{Bool, None, false, true}
use Rattle.dstm_mem.specs.Slots.{Sort}
use Rattle.dstm_model.specs.Map.{no_value}
use Rattle.dstm_steps.specs.declared.slots.ReadSlot.{ReadSlot}
use Rattle.dstm_steps.specs.declared.slots.WriteSlot.{WriteSlot}

abbrev pub is_kept : ReadSlot → Bool
is_kept slot = slot.kept

abbrev pub no_read : ReadSlot
no_read = record { object = 0; word = 0; value = no_value; kept = false }

abbrev pub no_write : WriteSlot
no_write = record { object = 0; old = no_value; new = None }

abbrev pub reads_sort : Sort ReadSlot
reads_sort = record { object = λ (slot : ReadSlot). slot.object; counts = is_kept; none = no_read }

abbrev pub writes_sort : Sort WriteSlot
writes_sort = record { object = λ (slot : WriteSlot). slot.object; counts = λ (slot : WriteSlot). true; none = no_write }
