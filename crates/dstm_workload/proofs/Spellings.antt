-- Fields that no word is, by their length.
use Rattle.std.proofs.Common.{◌≡◌, ◌≢◌, ℕ, ◌≤◌, ◌<◌, Bool, false, List, [], ◌∷◌, length, None, codes, refl, ap, arith}
use Rattle.std.specs.{Str.bytes_eq, List.find}
use Rattle.std.proofs.lemmas.{Bool.false_from_ne_true, Slice.Eq.bytes_eq-Decides}
use Rattle.dstm_workload.specs.declared.word.Word.{Word}
use Rattle.dstm_workload.specs.declared.word.Word.TheVariants as word
use Rattle.dstm_workload.specs.Words.{spelling, words, word_spelled}

none_where : {A : Type 0} (p : A → Bool) (xs : List A) → ((x : A) → p x ≡ false) → find p xs ≡ None
none_where p [] none = refl
none_where p (x ∷ xs) none = rw (none x) (none_where p xs none)

-- texts of other lengths are other texts
pub other_length : (xs ys : List ℕ) → length xs ≢ length ys → bytes_eq xs ys ≡ false
other_length xs ys other = false_from_ne_true _ (λ same. other (ap length ((bytes_eq-Decides xs ys).0 same)))

pub none_longer : (field : List ℕ) → 9 ≤ length field → word_spelled field ≡ None
unfolding word_spelled
none_longer field long =
    none_where (λ w. bytes_eq (spelling w) field) words (λ w. other_length (spelling w) field (short w))
  where
    short : (w : Word) → length (spelling w) ≢ length field
    short word.Tx e = omega (arith, e, long)
    short other e = omega (arith, e, long)

-- of the words, these are the longest
pub none_of_7_or_8 : (field : List ℕ) → 7 ≤ length field → bytes_eq (codes "balance") field ≡ false →
    bytes_eq (codes "workers") field ≡ false → bytes_eq (codes "transfer") field ≡ false → word_spelled field ≡ None
unfolding word_spelled
none_of_7_or_8 field long balance workers transfer =
    none_where (λ w. bytes_eq (spelling w) field) words other
  where
    by_length : (w : Word) → length (spelling w) < 7 → bytes_eq (spelling w) field ≡ false
    by_length w less = other_length (spelling w) field (λ e. omega (arith, e, less, long))

    other : (w : Word) → bytes_eq (spelling w) field ≡ false
    other word.Workers = workers
    other word.Transfer = transfer
    other word.Balance = balance
    other w = by_length w (omega arith)
