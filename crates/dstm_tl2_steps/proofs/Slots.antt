-- The reads and the writes of an attempt, by object.
use Rattle.std.proofs.Common.{◌++◌, ◌<◌, ◌==◌, ◌∙◌, ◌∷◌, ◌≡◌, ◌≢◌, Bool, List, None, Option, Some, [], ap, arith, cond, false, inl, inr, length, map, refl, sym, true, ℕ, ◌⊎◌, IsSome, is_some, option_map, slice_set}
use Prim.Native.Nat.{zero, suc}
use Rattle.std.proofs.lemmas.Bool.{cases_Bool, eqb-true, eq-eqb, ne_eqb}
use Rattle.dstm_mem.proofs.Finding.{find_none, lookup_find}
use Rattle.dstm_mem.specs.Memory.{value_in}
use Rattle.dstm_mem.specs.Slots.{IsSlotOf}
use Rattle.dstm_model.specs.declared.value.Val.{Val}
use Rattle.dstm_model.specs.Map.{IsUnnamed, NamesOnce}
use Rattle.dstm_tl2.specs.State.{no_write, or_read, read_of, recorded, write_of}
use Rattle.dstm_tl2_steps.specs.Opened.{read_at, read_slot, set_writes, with_value, write_at}
use Rattle.dstm_mem.specs.Slots.{pairs_sort}
use Rattle.dstm_tl2_steps.specs.Reads.{slot_read}
use Rattle.dstm_tl2_steps.specs.declared.opened.ReadSlot.{ReadSlot}

-- no write is the object's
pub write_none : (writes : List (ℕ × Val)) (o : ℕ) → ((i : ℕ) → IsSlotOf pairs_sort writes o i → ⊥) → value_in writes o ≡ None
write_none writes o none =
    lookup_find (λ p. p == o) writes
    ∙ ap (option_map (λ (w : ℕ × Val). w.1)) (find_none (λ (w : ℕ × Val). w.0 == o) no_write writes
    (λ i lt q. none i (record { within = lt; counts = refl; object = eqb-true (write_at writes i).0 o q })))

-- ---- another value for an object

-- the only write of the object that is not the first is the only one of the others
module _ (w : ℕ × Val) (writes : List (ℕ × Val)) (o n : ℕ) (r : IsSlotOf pairs_sort (w ∷ writes) o (suc n))
    (only : (i : ℕ) → IsSlotOf pairs_sort (w ∷ writes) o i → i ≡ suc n) where
  later_write : IsSlotOf pairs_sort writes o n
  later_write = record { within = let within = r.within in omega arith; counts = refl; object = r.object }

  later_only : (i : ℕ) → IsSlotOf pairs_sort writes o i → i ≡ n
  later_only i q =
      let e = only (suc i) (record { within = let within = q.within in omega arith; counts = refl; object = q.object }) in omega arith

  not_first : w.0 == o ≡ false
  not_first =
      ne_eqb w.0 o (λ same. let e = only 0 (record { within = omega arith; counts = refl; object = same }) in absurd (omega arith))

-- the write with another value, in its place
pub with_value_is : (writes : List (ℕ × Val)) (o n : ℕ) (v : Val) → IsSlotOf pairs_sort writes o n →
    ((i : ℕ) → IsSlotOf pairs_sort writes o i → i ≡ n) → slice_set writes n ((write_at writes n).0, v) ≡ with_value o v writes
with_value_is [] o n v r only = let w = r.within in absurd (omega arith)
with_value_is (w ∷ writes) o zero v r only = rw (eq-eqb w.0 o r.object) (ap (λ x. (x, v) ∷ writes) r.object)
with_value_is (w ∷ writes) o (suc n) v r only =
    rw (not_first w writes o n r only)
    (ap (λ xs. w ∷ xs) (with_value_is writes o n v (later_write w writes o n r only) (later_only w writes o n r only)))

-- the object has the value then, and the others are as before
pub value_in-with_value : (o : ℕ) (v : Val) (writes : List (ℕ × Val)) → IsSome (value_in writes o) →
    value_in (with_value o v writes) o ≡ Some v
value_in-with_value o v [] some = absurd (let z : is_some {T = Val} None ≡ true = some in cc)
value_in-with_value o v (w ∷ writes) some = by (value_in-with_value o v writes) (cases_Bool (w.0 == o)) some
  where
    by : (IsSome (value_in writes o) → value_in (with_value o v writes) o ≡ Some v) →
        (w.0 == o ≡ true) ⊎ (w.0 == o ≡ false) → IsSome (value_in (w ∷ writes) o) →
        value_in (with_value o v (w ∷ writes)) o ≡ Some v
    by ih (inl q) some = rw q (rw (eq-eqb o o refl) refl)
    by ih (inr q) some = rw q (rw q (ih (rw q at some)))

pub value_in-with_other : (o : ℕ) (v : Val) (writes : List (ℕ × Val)) (p : ℕ) → p ≢ o →
    value_in (with_value o v writes) p ≡ value_in writes p
value_in-with_other o v [] p other = refl
value_in-with_other o v (w ∷ writes) p other = by (value_in-with_other o v writes p other) (cases_Bool (w.0 == o))
  where
    by : value_in (with_value o v writes) p ≡ value_in writes p → (w.0 == o ≡ true) ⊎ (w.0 == o ≡ false) →
        value_in (with_value o v (w ∷ writes)) p ≡ value_in (w ∷ writes) p
    by ih (inl q) =
        let here : w.0 == p ≡ false = ne_eqb w.0 p (λ z. other (sym z ∙ eqb-true w.0 o q)) in
        let there : o == p ≡ false = ne_eqb o p (λ z. other (sym z)) in
        rw q (rw (there, here) refl)
    by ih (inr q) = rw q (ap (λ x. cond (w.0 == p) (Some w.1) x) ih)

-- ---- what was set

-- what is opened is not set
pub set_push : (sets : List Bool) (writes : List (ℕ × Val)) (w : ℕ × Val) → length sets ≡ length writes →
    set_writes (sets ++ false ∷ []) (writes ++ w ∷ []) ≡ set_writes sets writes
set_push [] [] w long = refl
set_push [] (x ∷ writes) w long = absurd (omega arith)
set_push (s ∷ sets) [] w long = absurd (omega arith)
set_push (s ∷ sets) (x ∷ writes) w long = ap (λ xs. cond s (x ∷ xs) xs) (set_push sets writes w (omega arith))

-- what is set has the new value
pub value_in-set_here : (sets : List Bool) (writes : List (ℕ × Val)) (o n : ℕ) (v : Val) →
    length sets ≡ length writes → IsSlotOf pairs_sort writes o n → ((i : ℕ) → IsSlotOf pairs_sort writes o i → i ≡ n) →
    value_in (set_writes (slice_set sets n true) (with_value o v writes)) o ≡ Some v
value_in-set_here sets [] o n v long r only = let w = r.within in absurd (omega arith)
value_in-set_here [] (w ∷ writes) o n v long r only = absurd (omega arith)
value_in-set_here (s ∷ sets) (w ∷ writes) o zero v long r only = rw (eq-eqb w.0 o r.object) (rw (eq-eqb o o refl) refl)
value_in-set_here (s ∷ sets) (w ∷ writes) o (suc n) v long r only =
    by (cases_Bool s)
    (value_in-set_here sets writes o n v (omega arith) (later_write w writes o n r only) (later_only w writes o n r only))
  where
    differ : w.0 == o ≡ false
    differ = not_first w writes o n r only

    by : (s ≡ true) ⊎ (s ≡ false) → value_in (set_writes (slice_set sets n true) (with_value o v writes)) o ≡ Some v →
        value_in (set_writes (slice_set (s ∷ sets) (suc n) true) (with_value o v (w ∷ writes))) o ≡ Some v
    by (inl set) ih = rw differ (rw set (rw differ ih))
    by (inr unset) ih = rw differ (rw unset ih)

-- and the others what they were set to before
pub value_in-set_other : (sets : List Bool) (writes : List (ℕ × Val)) (o n : ℕ) (v : Val) (p : ℕ) → p ≢ o →
    IsSlotOf pairs_sort writes o n → ((i : ℕ) → IsSlotOf pairs_sort writes o i → i ≡ n) → n < length sets →
    value_in (set_writes (slice_set sets n true) (with_value o v writes)) p ≡ value_in (set_writes sets writes) p
value_in-set_other sets [] o n v p other r only lt = let w = r.within in absurd (omega arith)
value_in-set_other [] (w ∷ writes) o n v p other r only lt = absurd (omega arith)
value_in-set_other (s ∷ sets) (w ∷ writes) o zero v p other r only lt = by (cases_Bool s)
  where
    here : w.0 == p ≡ false
    here = ne_eqb w.0 p (λ z. other (sym z ∙ r.object))

    there : o == p ≡ false
    there = ne_eqb o p (λ z. other (sym z))

    by : (s ≡ true) ⊎ (s ≡ false) →
        value_in (set_writes (slice_set (s ∷ sets) 0 true) (with_value o v (w ∷ writes))) p
        ≡ value_in (set_writes (s ∷ sets) (w ∷ writes)) p
    by (inl set) = rw (eq-eqb w.0 o r.object) (rw set (rw (there, here) refl))
    by (inr unset) = rw (eq-eqb w.0 o r.object) (rw unset (rw there refl))
value_in-set_other (s ∷ sets) (w ∷ writes) o (suc n) v p other r only lt =
    by (cases_Bool s)
    (value_in-set_other sets writes o n v p other (later_write w writes o n r only) (later_only w writes o n r only)
    (omega arith))
  where
    by : (s ≡ true) ⊎ (s ≡ false) →
        value_in (set_writes (slice_set sets n true) (with_value o v writes)) p ≡ value_in (set_writes sets writes) p →
        value_in (set_writes (slice_set (s ∷ sets) (suc n) true) (with_value o v (w ∷ writes))) p
        ≡ value_in (set_writes (s ∷ sets) (w ∷ writes)) p
    by (inl set) ih = rw (not_first w writes o n r only) (rw set (ap (λ x. cond (w.0 == p) (Some w.1) x) ih))
    by (inr unset) ih = rw (not_first w writes o n r only) (rw unset ih)

-- ---- lists that name each object once

-- the objects are of a table of this size
abbrev pub WritesBelow : ℕ → List (ℕ × Val) → Type 0
WritesBelow objects writes = (i : ℕ) → i < length writes → (write_at writes i).0 < objects

-- no object stands twice
abbrev pub ReadsApart : List ReadSlot → Type 0
ReadsApart slots = (i j : ℕ) → i < j → j < length slots → (read_at slots i).object ≢ (read_at slots j).object

abbrev pub WritesApart : List (ℕ × Val) → Type 0
WritesApart writes = (i j : ℕ) → i < j → j < length writes → (write_at writes i).0 ≢ (write_at writes j).0

-- so the writes name each object once, in the words of a history
pub writes_once : (objects : ℕ) (writes : List (ℕ × Val)) → WritesBelow objects writes → WritesApart writes →
    NamesOnce objects writes
writes_once objects [] below apart = tt
writes_once objects (w ∷ writes) below apart = (
  below 0 (omega arith),
  unnamed writes (λ i lt same. apart 0 (suc i) (omega arith) (omega arith) (sym same)),
  writes_once objects writes (λ i lt. below (suc i) (omega arith))
      (λ i j lower lt. apart (suc i) (suc j) (omega arith) (omega arith)),
)
  where
    unnamed : (ws : List (ℕ × Val)) → ((i : ℕ) → i < length ws → (write_at ws i).0 ≢ w.0) → IsUnnamed w.0 ws
    unnamed [] others = tt
    unnamed (x ∷ ws) others = (others 0 (omega arith), unnamed ws (λ i lt. others (suc i) (omega arith)))

-- ---- the reads as the machine has them

-- the machine's read of an object is that of the list
pub read_of-slots : (slots : List ReadSlot) (o : ℕ) →
    read_of o (map slot_read slots) ≡ option_map slot_read (read_slot slots o)
read_of-slots [] o = refl
read_of-slots (s ∷ slots) o = by (read_of-slots slots o) (cases_Bool (s.object == o))
  where
    by : read_of o (map slot_read slots) ≡ option_map slot_read (read_slot slots o) →
        (s.object == o ≡ true) ⊎ (s.object == o ≡ false) →
        read_of o (map slot_read (s ∷ slots)) ≡ option_map slot_read (read_slot (s ∷ slots) o)
    by ih (inl q) = rw q refl
    by ih (inr q) = rw q ih

pub unread_of : (slots : List ReadSlot) (o : ℕ) → read_slot slots o ≡ None → read_of o (map slot_read slots) ≡ None
unread_of slots o none = read_of-slots slots o ∙ ap (option_map slot_read) none

-- an object that the machine has read has a slot
pub read_has_slot : (slots : List ReadSlot) (o : ℕ) → read_of o (map slot_read slots) ≢ None →
    IsSome (read_slot slots o)
read_has_slot slots o some = by (read_slot slots o) (λ none. some (unread_of slots o none))
  where
    by : (x : Option ReadSlot) → x ≢ None → IsSome x
    by None q = absurd (q refl)
    by (Some s) q = refl

-- the word recorded of an object is that of its slot
pub recorded-slots : (slots : List ReadSlot) (o : ℕ) (slot : ReadSlot) → read_slot slots o ≡ Some slot →
    recorded o (map slot_read slots) ≡ slot.word
recorded-slots slots o slot is =
    ap (λ x. (or_read x).word) (read_of-slots slots o) ∙ ap (λ x. (or_read (option_map slot_read x)).word) is

-- ---- the writes

-- the machine's write of an object is what the list gives it
pub write_of-value_in : (writes : List (ℕ × Val)) (o : ℕ) → write_of o writes ≡ value_in writes o
write_of-value_in [] o = refl
write_of-value_in (w ∷ writes) o = ap (λ x. cond (w.0 == o) (Some w.1) x) (write_of-value_in writes o)

-- what stands in the list is written
pub is_written_at : (writes : List (ℕ × Val)) (i : ℕ) → i < length writes →
    IsSome (value_in writes (write_at writes i).0)
is_written_at [] i lt = absurd (omega arith)
is_written_at (w ∷ writes) zero lt = rw (eq-eqb w.0 w.0 refl) refl
is_written_at (w ∷ writes) (suc i) lt =
    by (write_at writes i).0 (is_written_at writes i (omega arith)) (cases_Bool (w.0 == (write_at writes i).0))
  where
    by : (o : ℕ) → IsSome (value_in writes o) → (w.0 == o ≡ true) ⊎ (w.0 == o ≡ false) →
        IsSome (value_in (w ∷ writes) o)
    by o ih (inl q) = rw q refl
    by o ih (inr q) = rw q ih
