-- The locks that an attempt holds, by what it writes.
use Rattle.std.proofs.Common.{◌+◌, ◌<◌, ◌≤◌, ◌==◌, ◌∙◌, ◌∷◌, ◌≡◌, List, None, Some, [], add-one, ap, arith, drop, eqb-true, false, inl, inr, length, map, refl, sym, take, true, ℕ, ◌⊎◌, option_map}
use Rattle.std.proofs.lemmas.Bool.{cases_Bool}
use Rattle.std.proofs.lemmas.List.{get_or-drop, get_or-take, length-drop, length-take-le}
use Rattle.std.proofs.Math.Seq.{drop-cons}
use Rattle.dstm_mem.specs.Memory.{value_in}
use Rattle.dstm_model.specs.declared.value.Val.{Val}
use Rattle.dstm_tl2.specs.Rules.{new_hold}
use Rattle.dstm_tl2.specs.State.{LocalState, hold_of, no_write}
use Rattle.dstm_tl2_steps.specs.Opened.{write_at}
use Rattle.dstm_tl2_steps.specs.Under.{IsFirst}
use Rattle.dstm_tl2_steps.proofs.Slots.{WritesApart, write_none}

-- the lock held of an object, where all of some writes are locked
pub hold_of-writes : (state : LocalState) (writes : List (ℕ × Val)) (o : ℕ) →
    hold_of o (map (new_hold state) writes) ≡ option_map (λ v. new_hold state (o, v)) (value_in writes o)
hold_of-writes state [] o = refl
hold_of-writes state (w ∷ writes) o = by (hold_of-writes state writes o) (cases_Bool (w.0 == o))
  where
    by : hold_of o (map (new_hold state) writes) ≡ option_map (λ v. new_hold state (o, v)) (value_in writes o) →
        (w.0 == o ≡ true) ⊎ (w.0 == o ≡ false) → hold_of o (map (new_hold state) (w ∷ writes))
        ≡ option_map (λ v. new_hold state (o, v)) (value_in (w ∷ writes) o)
    by ih (inl q) = rw q (ap (λ n. Some (new_hold state (n, w.1))) (eqb-true w.0 o q))
    by ih (inr q) = rw q ih

-- an object that is not written is not locked
pub unheld : (state : LocalState) (writes : List (ℕ × Val)) (o : ℕ) → value_in writes o ≡ None →
    hold_of o (map (new_hold state) writes) ≡ None
unheld state writes o none = hold_of-writes state writes o ∙ ap (option_map (λ v. new_hold state (o, v))) none

-- the first of the writes name no object twice either
pub apart_take : (writes : List (ℕ × Val)) (n : ℕ) → WritesApart writes → n ≤ length writes → WritesApart (take n writes)
apart_take writes n apart le i j lower lt same =
    let long = length-take-le n writes le in
    apart i j lower (omega arith)
    (ap (λ (w : ℕ × Val). w.0) (sym (get_or-take n writes i no_write (omega arith))) ∙ same
    ∙ ap (λ (w : ℕ × Val). w.0) (get_or-take n writes j no_write (omega arith)))

-- the object of a write is not among those written later, nor among those written before
pub later_unnamed : (writes : List (ℕ × Val)) (i : ℕ) → WritesApart writes → i < length writes →
    value_in (drop (i + 1) writes) (write_at writes i).0 ≡ None
later_unnamed writes i apart lt =
    write_none (drop (i + 1) writes) (write_at writes i).0 (λ j r.
    let long = length-drop (i + 1) writes in
    let within = r.within in
    apart i (i + 1 + j) (omega arith) (omega arith)
    (sym r.object ∙ ap (λ (w : ℕ × Val). w.0) (get_or-drop (i + 1) writes j no_write)))

-- the locks of the writes from a place on
pub holds_from : (state : LocalState) (writes : List (ℕ × Val)) (i : ℕ) → i < length writes →
    map (new_hold state) (drop i writes)
    ≡ new_hold state (write_at writes i) ∷ map (new_hold state) (drop (i + 1) writes)
holds_from state writes i lt = rw (drop-cons writes i no_write lt, add-one i) refl

-- The first lock of those from a place on is that of the write there, and it is held once.
pub first_from : (state : LocalState) (writes : List (ℕ × Val)) (i : ℕ) → WritesApart writes → i < length writes →
    state.holds ≡ map (new_hold state) (drop i writes) →
    IsFirst state (write_at writes i) (map (new_hold state) (drop (i + 1) writes))
first_from state writes i apart lt holds = record {
  held = holds ∙ holds_from state writes i lt;
  once = unheld state (drop (i + 1) writes) (write_at writes i).0 (later_unnamed writes i apart lt);
}
