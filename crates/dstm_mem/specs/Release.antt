-- What a memory whose reads can be let go admits at every moment.
use Rattle.std.specs.Prelude.{◌≡◌, ◌↔◌, ℕ, List, IsTrue, None}
use Rattle.dstm_model.specs.declared.value.Val.{Val}
use Rattle.dstm_mem.specs.declared.memory.Mem.{Ghosts}
use Rattle.dstm_mem.specs.Memory.{AgreesWith}

-- Of the same memory before its first open and at any moment, both live: it admits exactly those of the maps
-- that it admitted that have every value that it holds.
abbrev pub AdmitsWhatItHolds : {S E : Type 0} → Ghosts S E → Type 0
AdmitsWhatItHolds {S} {E} M =
    (before now : S) (map : List Val) → M.place before ≡ M.place now →
    IsTrue (M.is_live before) → IsTrue (M.is_live now) → ((o : ℕ) → M.held before o ≡ None) →
    M.Admits now map ↔ (M.Admits before map × AgreesWith map (M.held now))
