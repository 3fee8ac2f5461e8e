-- The values that a caller puts stay in every longer run.
use Rattle.std.proofs.Common.{◌≡◌, ◌⊎◌, ℕ, ◌+◌, ◌<◌, ◌∙◌, List, [], ◌∷◌, ◌++◌, length, refl, sym, ap, subst, arith, append_assoc, slice_index_or, slice_get}
use Prim.Native.Nat.{zero, suc}
use Rattle.dstm_core.specs.Events.{Event}
use Rattle.dstm_core.specs.declared.event.Kind.TheVariants.{PutHigh, PutNew}
use Rattle.dstm_core.specs.declared.shape.Shape.{Shape}
use Rattle.dstm_core.specs.declared.state.Write.{Write}
use Rattle.dstm_core.specs.Histories.{new_value, new_values}
use Rattle.dstm_core.specs.Runs.{Core}
use Rattle.dstm_core.specs.State.{or_write}
use Rattle.dstm_core.specs.Traces.{at, word, IsPastOf}
use Rattle.dstm_core.specs.Words.{Word, place}
use Rattle.dstm_model.specs.declared.value.Val.{Val}
use Rattle.dstm_core.proofs.Static.{Numbered}
use Rattle.dstm_opacity.proofs.Kept.{put_stays}
use Rattle.dstm_words.specs.Seats.{Home, view_of}
use Rattle.dstm_steps.specs.declared.slots.WriteSlot.{WriteSlot}
use Rattle.dstm_steps.specs.declared.steps.Steps.{Steps}
use Rattle.dstm_steps.specs.Under.{Began, Went}
use Rattle.dstm_steps.specs.Writes.{to_put, puts_of, no_slot, AreWrites, Holds}

-- what is put stays
pub holds_put : {L : Type 0} {holds : L → List Val → Type 0} {home : Home L} {b : Began} {old new : Steps L} {e : Event}
    {n : ℕ} (w : Word) → Went holds home b old new e → (e.kind ≡ PutHigh) ⊎ (e.kind ≡ PutNew) →
    e.place ≡ place home.terms.shape w → e.put ≡ n → Holds home new w n
holds_put {home = home} {old = old} {e = e} w went kind here put more core =
    let s : Shape = home.terms.shape in
    let es : List Event = went.log.0 ++ (view_of old.seat).log in
    let stays : at (more ++ e ∷ es) e.place ≡ e.put = put_stays s more es e (rw (← went.log.1) core) kind in
    ap (λ log. at (more ++ log) (place s w)) went.log.1 ∙ ap (at (more ++ e ∷ es)) (sym here) ∙ stays ∙ put

-- and what stays in every longer run stays in those of a later log
pub holds_later : {L : Type 0} (home : Home L) (old new : Steps L) (w : Word) (n : ℕ) →
    IsPastOf (view_of old.seat).log (view_of new.seat).log → Holds home old w n → Holds home new w n
holds_later home old new w n past h more core =
    let s : Shape = home.terms.shape in
    let log : List Event = (view_of old.seat).log in
    let whole : more ++ (view_of new.seat).log ≡ (more ++ past.later) ++ log =
    ap (λ es. more ++ es) (sym past.whole) ∙ sym (append_assoc more past.later log) in
    ap (λ es. word s es w) whole ∙ h (more ++ past.later) (subst (Core s) whole core)

-- ---- the slots and the writes

pub slots_length : (slots : List WriteSlot) (ws : List Write) → AreWrites slots ws → length slots ≡ length ws
slots_length [] [] m = refl
slots_length (x ∷ slots) (w ∷ ws) m = let y = slots_length slots ws m.1 in omega arith
slots_length [] (w ∷ ws) m = absurd m
slots_length (x ∷ slots) [] m = absurd m

pub slot_object : (slots : List WriteSlot) (ws : List Write) (i : ℕ) → AreWrites slots ws → i < length slots →
    (or_write (slice_get ws i)).object ≡ (slice_index_or slots i no_slot).object
slot_object (x ∷ slots) (w ∷ ws) zero m h = m.0
slot_object (x ∷ slots) (w ∷ ws) (suc i) m h = slot_object slots ws i m.1 (omega arith)
slot_object [] ws i m h = absurd (omega arith)
slot_object (x ∷ slots) [] i m h = absurd m

-- the new values of writes whose locators are one after the other, and hold what is to be put
pub all_put : (s : Shape) (run : List Event) (first : ℕ) (slots : List WriteSlot) (ws : List Write) →
    AreWrites slots ws → Numbered first ws →
    ((j : ℕ) → j < length slots → new_value s run (first + j) ≡ to_put (slice_index_or slots j no_slot)) →
    new_values s run ws ≡ puts_of slots
all_put s run first [] [] m n h = refl
all_put s run first (x ∷ slots) (w ∷ ws) m n h =
    let here : new_value s run w.locator ≡ to_put x =
    ap (new_value s run) (let q = n.0 in omega arith) ∙ h 0 (omega arith) in
    let later = all_put s run (first + 1) slots ws m.1 n.1
    (λ j l. ap (new_value s run) (omega arith) ∙ h (suc j) (omega arith)) in
    cc
all_put s run first [] (w ∷ ws) m n h = absurd m
all_put s run first (x ∷ slots) [] m n h = absurd m
