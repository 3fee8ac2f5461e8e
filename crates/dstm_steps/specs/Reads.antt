-- The reads that a caller keeps.
use Rattle.std.specs.Prelude.{ℕ, List, [], ◌∷◌, map, if◌then◌else◌}
use Rattle.dstm_core.specs.declared.state.Read.{Read}
use Rattle.dstm_steps.specs.declared.slots.ReadSlot.{ReadSlot}

-- the objects and the words of the slots that are kept
abbrev pub kept : List ReadSlot → List (ℕ × ℕ)
kept [] = []
kept (slot ∷ slots) = if slot.kept then (slot.object, slot.word) ∷ kept slots else kept slots

-- the objects and the words of reads
abbrev pub words_of : List Read → List (ℕ × ℕ)
words_of reads = map (λ (read : Read). (read.object, read.word)) reads
