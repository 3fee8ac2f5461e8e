-- How far a transfer has come, and that a read or a write brings it on.
use Rattle.std.proofs.Common.{◌≡◌, ℕ, ◌+◌, ◌-◌, ◌≤◌, List, ◌++◌, length, take, drop}
use Rattle.std.proofs.Common.{sym, ap, ◌∙◌, subst, arith, take-append-drop}
use Rattle.std.proofs.lemmas.List.{take-append-le, take-take, drop-drop}
use Rattle.std.proofs.Math.Seq.{take-add}
use Rattle.std.proofs.KnownBytes.{Appends-trans, Consumes-trans}
use Rattle.std.specs.Prelude.{Option}
use Rattle.std.specs.Io.KnownBytes.{Appends, Consumes}

-- the first `filled` bytes of the buffer are those that the source gave, and no fault was counted
pub record HasRead (left left' : Option (List ℕ)) (faults faults' : ℕ) (buffer : List ℕ) (filled limit : ℕ)
    : Type 0 where
  pub taken : Consumes left left' (take filled buffer)
  pub no_fault : faults' ≡ faults
  pub within : filled ≤ length buffer
  pub short : length buffer ≤ limit + 1

-- a read put `count` bytes behind them
pub has_read_more : (a b c : Option (List ℕ)) (f f' f'' : ℕ) (old new : List ℕ) (filled limit count : ℕ)
    → HasRead a b f f' old filled limit → take filled new ≡ take filled old
    → Consumes b c (take count (drop filled new)) → f'' ≡ f'
    → filled + count ≤ length new → length new ≤ limit + 1 → HasRead a c f f'' new (filled + count) limit
has_read_more a b c f f' f'' old new filled limit count before front taken no_fault within short =
    let first : Consumes a b (take filled new) = subst (Consumes a b) (sym front) before.taken in
    record {
      taken = subst (Consumes a c) (sym (take-add filled count new)) (Consumes-trans a b c _ _ first taken);
      no_fault = no_fault ∙ before.no_fault;
      within = within;
      short = short;
    }

-- the first `written` bytes were added to the sink, and no fault was counted
pub record HasWritten (taken taken' : Option (List ℕ)) (faults faults' : ℕ) (bytes : List ℕ) (written : ℕ)
    : Type 0 where
  pub added : Appends taken taken' (take written bytes)
  pub no_fault : faults' ≡ faults
  pub within : written ≤ length bytes

-- a write of the other bytes took `count` of them
pub has_written_more : (a b c : Option (List ℕ)) (f f' f'' : ℕ) (bytes : List ℕ) (written count : ℕ)
    → HasWritten a b f f' bytes written → count ≤ length bytes - written
    → Appends b c (take count (take (length bytes - written) (drop written bytes))) → f'' ≡ f'
    → HasWritten a c f f'' bytes (written + count)
has_written_more a b c f f' f'' bytes written count before fits added no_fault =
    let rest = drop written bytes in
    let joined = ap (λ l. take written bytes ++ l) (take-take count (length bytes - written) rest fits)
    ∙ sym (take-add written count bytes) in
    let already = before.within in
    record {
      added = subst (Appends a c) joined (Appends-trans a b c _ _ before.added added);
      no_fault = no_fault ∙ before.no_fault;
      within = omega arith;
    }

-- bytes that were copied to the front of a buffer, and those that stand behind them where they came from
pub split_at_read : (bytes copied behind : List ℕ) (position count : ℕ)
    → copied ≡ take count (drop position bytes) → length copied ≡ count
    → drop position bytes ≡ take count (copied ++ behind) ++ drop (position + count) bytes
split_at_read bytes copied behind position count is long =
    let left = drop position bytes in
    let front : take count (copied ++ behind) ≡ take count left =
    take-append-le count copied behind (omega arith) ∙ ap (take count) is ∙ take-take count count left (omega arith) in
    sym (take-append-drop count left) ∙ ap (λ l. l ++ drop count left) (sym front)
    ∙ ap (λ l. take count (copied ++ behind) ++ l) (drop-drop count position bytes)
