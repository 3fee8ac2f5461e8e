-- The slots that a loop has before it are the reads that are left to check.
use Rattle.std.proofs.Common.{◌≡◌, ℕ, ◌+◌, ◌≤◌, ◌<◌, List, [], ◌∷◌, ◌∙◌, true, false, length, length-drop, drop, refl, sym, ap, arith, add-one, slice_index_or, None, slice_get}
use Rattle.std.proofs.Math.Seq.{drop-cons}
use Rattle.std.proofs.lemmas.List.{drop_more, length-map}
use Rattle.std.proofs.lemmas.Option.{slice_get-get_or}
use Rattle.dstm_core.specs.declared.state.Read.{Read}
use Rattle.dstm_core.specs.State.{or_read}
use Rattle.dstm_model.specs.Map.{no_value}
use Rattle.dstm_steps.specs.Reads.{kept, words_of}
use Rattle.dstm_steps.specs.declared.slots.ReadSlot.{ReadSlot}

abbrev head_or : List (ℕ × ℕ) → ℕ × ℕ
head_or [] = (0, 0)
head_or (p ∷ ps) = p

abbrev tail_of : List (ℕ × ℕ) → List (ℕ × ℕ)
tail_of [] = []
tail_of (p ∷ ps) = ps

words_length : (reads : List Read) → length (words_of reads) ≡ length reads
words_length reads = length-map reads (λ (read : Read). (read.object, read.word))

-- the read at a place is the first of those that are left
pub record Next (reads : List Read) (i o w : ℕ) (rest : List (ℕ × ℕ)) : Type 0 where
  pub left : i < length reads
  pub object : (or_read (slice_get reads i)).object ≡ o
  pub word : (or_read (slice_get reads i)).word ≡ w
  pub later : words_of (drop (i + 1) reads) ≡ rest

pub next_left : (reads : List Read) (i o w : ℕ) (rest : List (ℕ × ℕ)) →
    words_of (drop i reads) ≡ (o, w) ∷ rest → Next reads i o w rest
next_left reads i o w rest q = record {
  left = left;
  object = ap (λ (r : Read). r.object) first ∙ ap (λ ps. (head_or ps).0) parts;
  word = ap (λ (r : Read). r.word) first ∙ ap (λ ps. (head_or ps).1) parts;
  later = ap tail_of parts;
}
  where
    left : i < length reads
    left = let n : length (words_of (drop i reads)) ≡ length ((o, w) ∷ rest) = ap length q in
        omega (arith, words_length (drop i reads), length-drop i reads)

    read : Read
    read = slice_index_or reads i (or_read None)

    first : or_read (slice_get reads i) ≡ read
    first = ap or_read (slice_get-get_or reads i (or_read None) left)

    parts : (read.object, read.word) ∷ words_of (drop (i + 1) reads) ≡ (o, w) ∷ rest
    parts = sym (ap words_of (drop_more reads i (or_read None) left)) ∙ q

pub none_left : (reads : List Read) (i : ℕ) → words_of (drop i reads) ≡ [] → i ≤ length reads → i ≡ length reads
none_left reads i q l =
    let n : length (words_of (drop i reads)) ≡ 0 = ap length q in
    omega (arith, words_length (drop i reads), length-drop i reads)

-- ---- slots

abbrev pub no_slot : ReadSlot
no_slot = record { object = 0; word = 0; value = no_value; kept = false }

pub first_of_rest : (slots : List ReadSlot) (i : ℕ) → i < length slots →
    drop i slots ≡ slice_index_or slots i no_slot ∷ drop (i + 1) slots
first_of_rest slots i h = drop-cons slots i no_slot h ∙ rw (add-one i) refl

-- a slot that is kept is the next read
pub slot_next : (slots : List ReadSlot) (reads : List Read) (i c : ℕ) →
    kept (drop i slots) ≡ words_of (drop c reads) → i < length slots → (slice_index_or slots i no_slot).kept ≡ true →
    Next reads c (slice_index_or slots i no_slot).object (slice_index_or slots i no_slot).word
    (kept (drop (i + 1) slots))
slot_next slots reads i c same h is =
    next_left reads c _ _ _ (sym same ∙ ap kept (first_of_rest slots i h)
    ∙ rw is refl)

-- and one that is not is none
pub slot_skip : (slots : List ReadSlot) (reads : List Read) (i c : ℕ) →
    kept (drop i slots) ≡ words_of (drop c reads) → i < length slots → (slice_index_or slots i no_slot).kept ≡ false →
    kept (drop (i + 1) slots) ≡ words_of (drop c reads)
slot_skip slots reads i c same h is = sym (rw is refl) ∙ sym (ap kept (first_of_rest slots i h)) ∙ same
