-- The lists of an attempt beside what the machine has recorded of it.
use Rattle.std.proofs.Common.{◌≡◌, ◌≢◌, ◌∙◌, ℕ, ◌<◌, ◌≤◌, List, true, Some, None, is_some, refl, sym, ap, length, get_or, map, arith, Option, IfSome, IsSome}
use Rattle.std.proofs.lemmas.List.{get_or_default}
use Rattle.dstm_model.specs.declared.value.Val.{Val}
use Rattle.dstm_tl2.specs.State.{no_write, read_of, recorded}
use Rattle.dstm_tl2_steps.specs.declared.opened.ReadSlot.{ReadSlot}
use Rattle.dstm_tl2_steps.specs.Opened.{read_slot, write_at}
use Rattle.dstm_tl2_steps.specs.Reads.{slot_read}
use Rattle.dstm_tl2_steps.proofs.Slots.{read_has_slot, recorded-slots}

pub not_nothing : {A : Type 0} (o : Option A) → is_some o ≡ true → o ≢ None
not_nothing None h = absurd (cc)
not_nothing (Some x) h = λ q. cc

-- what the machine has read has a slot
pub slot_there : (slots : List ReadSlot) (o : ℕ) → is_some (read_of o (map slot_read slots)) ≡ true →
    IsSome (read_slot slots o)
slot_there slots o there = read_has_slot slots o (not_nothing (read_of o (map slot_read slots)) there)

-- it has the word that was recorded
pub slot_word : (slots : List ReadSlot) (o word : ℕ) → IsSome (read_slot slots o) →
    IfSome (read_slot slots o) (λ slot. word ≡ slot.word) → word ≡ recorded o (map slot_read slots)
slot_word slots o word there is = go (read_slot slots o) refl there is
  where
    go : (found : Option ReadSlot) → read_slot slots o ≡ found → IsSome found →
        IfSome found (λ slot. word ≡ slot.word) → word ≡ recorded o (map slot_read slots)
    go None q there is = absurd (cc)
    go (Some slot) q there is = is ∙ sym (recorded-slots slots o slot q)

-- the object of a write that was found in the list at its place
pub object_at : {writes items : List (ℕ × Val)} (i count : ℕ) {write : ℕ × Val} → items ≡ writes →
    count ≤ length writes → i < count → write ≡ get_or items i write → (write_at writes i).0 ≡ write.0
object_at {writes = writes} i count {write = write} same few left is =
    ap (λ (w : ℕ × Val). w.0)
    (get_or_default writes i no_write write (omega arith) ∙ ap (λ ws. get_or ws i write) (sym same) ∙ sym is)
