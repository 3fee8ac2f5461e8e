-- What is open of an object, by where it stands.
use Rattle.std.proofs.Common.{◌+◌, ◌++◌, ◌==◌, ◌∙◌, ◌∷◌, ◌≡◌, List, None, Some, [], ap, arith, cond, false, filter, inl, inr, length, map, refl, sym, true, ℕ, ◌⊎◌}
use Prim.Native.Nat.{zero, suc}
use Rattle.std.specs.Prelude.{if◌then◌else◌, is_some, option_map, slice_set}
use Rattle.std.proofs.lemmas.Bool.{cases_Bool, eqb-true, eq-eqb}
use Rattle.std.proofs.lemmas.List.Elements.{filter-append}
use Rattle.dstm_engine.proofs.Base.{Read, ReadSlot, Val, WriteSlot, drop_read, kept, read_of, word_of, words_of}
use Rattle.dstm_mem.specs.Slots.{IsSlotOf}
use Rattle.dstm_engine.specs.Opened.{read_at, read_slot, with_set_slot, without_read, write_at}
use Rattle.dstm_steps.specs.Sorts.{is_kept, reads_sort, writes_sort}
use Rattle.dstm_engine.specs.Mirror.{slot_word}

-- ---- a value that is set

-- the slot with a value set, in its place
pub set_slot_is : (slots : List WriteSlot) (o n : ℕ) (v : Val) → IsSlotOf writes_sort slots o n →
    ((i : ℕ) → IsSlotOf writes_sort slots o i → i ≡ n) →
    slice_set slots n (record (write_at slots n) { new = Some v }) ≡ with_set_slot o v slots
set_slot_is [] o n v r only = let w = r.within in absurd (omega arith)
set_slot_is (s ∷ slots) o zero v r only = rw (eq-eqb s.object o r.object) refl
set_slot_is (s ∷ slots) o (suc n) v r only = elim (cases_Bool (s.object == o)) [
  | inl q ↦
      let e = only 0 (record { within = omega arith; counts = refl; object = eqb-true s.object o q }) in
      absurd (omega arith)
  | inr q ↦ rw q (ap (λ xs. s ∷ xs) (set_slot_is slots o n v later rest))
]
  where
    later : IsSlotOf writes_sort slots o n
    later = record { within = let w = r.within in omega arith; counts = refl; object = r.object }

    rest : (i : ℕ) → IsSlotOf writes_sort slots o i → i ≡ n
    rest i q = let e = only (suc i) (record { within = let w = q.within in omega arith; counts = refl; object = q.object }) in omega arith

-- the words of the reads are those of the slots that were not let go
pub words_all : (slots : List ReadSlot) → kept slots ≡ map slot_word (filter is_kept slots)
words_all [] = refl
words_all (s ∷ slots) =
    let ih = words_all slots in
    elim (cases_Bool s.kept) [
      | inl q ↦ rw q (ap (λ xs. (s.object, s.word) ∷ xs) ih)
      | inr q ↦ rw q ih
    ]

-- one read more
pub words_push : (reads : List Read) (r : Read) → words_of (reads ++ r ∷ []) ≡ words_of reads ++ (r.object, r.word) ∷ []
words_push [] r = refl
words_push (x ∷ reads) r = ap (λ xs. (x.object, x.word) ∷ xs) (words_push reads r)

-- the first slot is that of the first read, and the others are those of the others
first_slot : (s : ReadSlot) (slots : List ReadSlot) (r : Read) (reads : List Read) →
    map slot_word (s ∷ slots) ≡ words_of (r ∷ reads) →
    (slot_word s ≡ (r.object, r.word)) × (map slot_word slots ≡ words_of reads)
first_slot s slots r reads h = (cc, cc)

-- so what holds of none, and with one more slot and its read, holds of slots and their reads
along : (P : List ReadSlot → List Read → Type 0) → P [] [] →
    ((s : ReadSlot) (slots : List ReadSlot) (r : Read) (reads : List Read) → slot_word s ≡ (r.object, r.word) →
    r.object ≡ s.object → map slot_word slots ≡ words_of reads → P slots reads → P (s ∷ slots) (r ∷ reads)) →
    (slots : List ReadSlot) (reads : List Read) → map slot_word slots ≡ words_of reads → P slots reads
along P none more [] [] h = none
along P none more [] (r ∷ reads) h = absurd (cc)
along P none more (s ∷ slots) [] h = absurd (cc)
along P none more (s ∷ slots) (r ∷ reads) h =
    let same = first_slot s slots r reads h in
    more s slots r reads same.0 (ap (λ (p : ℕ × ℕ). p.0) (sym same.0)) same.1 (along P none more slots reads same.1)

-- and one less
pub words_without : (slots : List ReadSlot) (reads : List Read) (o : ℕ) → map slot_word slots ≡ words_of reads →
    map slot_word (without_read o slots) ≡ words_of (drop_read o reads)
words_without slots reads o =
    along (λ slots reads. map slot_word (without_read o slots) ≡ words_of (drop_read o reads)) refl
    (λ s slots r reads word object rest without. elim (cases_Bool (s.object == o)) [
      | inl q ↦ rw (q, ap (λ n. n == o) object ∙ q) rest
      | inr q ↦
          rw (q, ap (λ n. n == o) object ∙ q) (ap (λ p. p ∷ map slot_word (without_read o slots)) word
          ∙ ap (λ xs. (r.object, r.word) ∷ xs) without)
    ]) slots reads

-- a read of an object has the word of its slot
pub slot_read : (slots : List ReadSlot) (reads : List Read) (o : ℕ) → map slot_word slots ≡ words_of reads →
    word_of (read_of o reads) ≡ option_map (λ (s : ReadSlot). s.word) (read_slot slots o)
slot_read slots reads o =
    along (λ slots reads. word_of (read_of o reads) ≡ option_map (λ (s : ReadSlot). s.word) (read_slot slots o)) refl
    (λ s slots r reads word object rest read. elim (cases_Bool (s.object == o)) [
      | inl q ↦ rw (ap (λ n. n == o) object ∙ q, q) (ap (λ (p : ℕ × ℕ). Some p.1) (sym word))
      | inr q ↦ rw (ap (λ n. n == o) object ∙ q, q) read
    ]) slots reads

-- ---- a read that is let go

kept_yes : (s : ReadSlot) (slots : List ReadSlot) → s.kept ≡ true →
    filter is_kept (s ∷ slots) ≡ s ∷ filter is_kept slots
kept_yes s slots k = ap (λ b. cond b (s ∷ filter is_kept slots) (filter is_kept slots)) k

kept_no : (s : ReadSlot) (slots : List ReadSlot) → s.kept ≡ false → filter is_kept (s ∷ slots) ≡ filter is_kept slots
kept_no s slots k = ap (λ b. cond b (s ∷ filter is_kept slots) (filter is_kept slots)) k

-- its slot is no longer kept
pub drop_kept : (slots : List ReadSlot) (o i : ℕ) → IsSlotOf reads_sort slots o i → ((j : ℕ) → IsSlotOf reads_sort slots o j → j ≡ i) →
    filter is_kept (slice_set slots i (record (read_at slots i) { kept = false }))
    ≡ without_read o (filter is_kept slots)
drop_kept [] o i r only = let w = r.within in absurd (omega arith)
drop_kept (s ∷ slots) o zero r only = rw (r.counts, eq-eqb s.object o r.object) refl
drop_kept (s ∷ slots) o (suc i) r only = by (drop_kept slots o i later rest) (cases_Bool s.kept)
  where
    later : IsSlotOf reads_sort slots o i
    later = record { within = let w = r.within in omega arith; counts = r.counts; object = r.object }

    rest : (j : ℕ) → IsSlotOf reads_sort slots o j → j ≡ i
    rest j q =
        let e = only (suc j) (record { within = let w = q.within in omega arith; counts = q.counts; object = q.object }) in
        omega arith

    by : filter is_kept (slice_set slots i (record (read_at slots i) { kept = false }))
        ≡ without_read o (filter is_kept slots) → (s.kept ≡ true) ⊎ (s.kept ≡ false) →
        filter is_kept (slice_set (s ∷ slots) (suc i) (record (read_at (s ∷ slots) (suc i)) { kept = false }))
        ≡ without_read o (filter is_kept (s ∷ slots))
    by ih (inl k) = elim (cases_Bool (s.object == o)) [
      | inl q ↦
          let e = only 0 (record { within = omega arith; counts = k; object = eqb-true s.object o q }) in
          absurd (omega arith)
      | inr q ↦
          kept_yes s (slice_set slots i (record (read_at slots i) { kept = false })) k ∙ ap (λ xs. s ∷ xs) ih
          ∙ sym (ap (without_read o) (kept_yes s slots k)
          ∙ ap (λ b. if b then filter is_kept slots else s ∷ without_read o (filter is_kept slots)) q)
    ]
    by ih (inr k) =
        kept_no s (slice_set slots i (record (read_at slots i) { kept = false })) k ∙ ih
        ∙ sym (ap (without_read o) (kept_no s slots k))

pub length-without : (slots : List ReadSlot) (o : ℕ) → is_some (read_slot slots o) ≡ true →
    length (without_read o slots) + 1 ≡ length slots
length-without [] o some = absurd (cc)
length-without (s ∷ slots) o some = elim (cases_Bool (s.object == o)) [
  | inl q ↦ rw q (omega arith)
  | inr q ↦ let x = length-without slots o (rw q at some) in rw q (omega arith)
]

pub without_none : (slots : List ReadSlot) (o : ℕ) → read_slot slots o ≡ None → without_read o slots ≡ slots
without_none [] o none = refl
without_none (s ∷ slots) o none = elim (cases_Bool (s.object == o)) [
  | inl q ↦ absurd (let z : Some s ≡ None = rw q at none in cc)
  | inr q ↦ rw q (ap (λ xs. s ∷ xs) (without_none slots o (rw q at none)))
]

pub filter_again : (slots : List ReadSlot) → filter is_kept (filter is_kept slots) ≡ filter is_kept slots
filter_again [] = refl
filter_again (s ∷ slots) =
    let ih = filter_again slots in
    elim (cases_Bool s.kept) [
      | inl k ↦
          ap (filter is_kept) (kept_yes s slots k) ∙ kept_yes s (filter is_kept slots) k ∙ ap (λ xs. s ∷ xs) ih
          ∙ sym (kept_yes s slots k)
      | inr k ↦ ap (filter is_kept) (kept_no s slots k) ∙ ih ∙ sym (kept_no s slots k)
    ]

-- one read more
pub filter_push : (slots : List ReadSlot) (s : ReadSlot) → s.kept ≡ true →
    filter is_kept (slots ++ s ∷ []) ≡ filter is_kept slots ++ s ∷ []
filter_push slots s k =
    filter-append is_kept slots (s ∷ []) ∙ ap (λ b. filter is_kept slots ++ cond b (s ∷ []) []) k
