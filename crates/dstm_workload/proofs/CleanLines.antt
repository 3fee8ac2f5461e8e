-- The lines of a text are printable where its bytes are printable or end lines.
use Rattle.std.proofs.Common.{◌≡◌, ℕ, Bool, true, false, List, [], ◌∷◌, cond, eqb, refl, arith}
use Rattle.std.proofs.lemmas.Bool.{and_from, and_parts}
use Rattle.std.specs.List.{list_all, onto_first}
use Rattle.dstm_text.specs.Lines.{is_empty, line_feed, lines_of, pieces, without_empty_end}
use Rattle.dstm_workload.specs.Entries.{are_printable, is_clean, is_printable}

printable_by : (b : ℕ) → is_clean b ≡ true → eqb b line_feed ≡ false → is_printable b ≡ true
printable_by b clean other = grind arith

one_more : (ends : Bool) (b : ℕ) (ps : List (List ℕ)) → (ends ≡ false → is_printable b ≡ true) →
    are_printable ps ≡ true → are_printable (cond ends ([] ∷ ps) (onto_first b ps)) ≡ true
one_more true b ps here all = all
one_more false b [] here all = and_from (list_all is_printable (b ∷ [])) true (and_from (is_printable b) true (here refl) refl) refl
one_more false b (q ∷ qs) here all =
    let parts = and_parts (list_all is_printable q) (are_printable qs) all in
    and_from (list_all is_printable (b ∷ q)) (are_printable qs)
    (and_from (is_printable b) (list_all is_printable q) (here refl) parts.0) parts.1

clean_pieces : (bytes : List ℕ) → list_all is_clean bytes ≡ true → are_printable (pieces line_feed bytes) ≡ true
clean_pieces [] clean = refl
clean_pieces (b ∷ bs) clean =
    let parts = and_parts (is_clean b) (list_all is_clean bs) clean in
    one_more (eqb b line_feed) b (pieces line_feed bs) (printable_by b parts.0) (clean_pieces bs parts.1)

less_the_end : (ps : List (List ℕ)) → are_printable ps ≡ true → are_printable (without_empty_end ps) ≡ true
less_the_end [] all = refl
less_the_end (p ∷ []) all =
    elim (is_empty p) as (λ t. are_printable (cond t [] (p ∷ [])) ≡ true) [ true ↦ refl | false ↦ all ]
less_the_end (p ∷ q ∷ ps) all =
    let parts = and_parts (list_all is_printable p) (are_printable (q ∷ ps)) all in
    and_from (list_all is_printable p) (are_printable (without_empty_end (q ∷ ps))) parts.0 (less_the_end (q ∷ ps) parts.1)

pub clean_lines : (bytes : List ℕ) → list_all is_clean bytes ≡ true → are_printable (lines_of bytes) ≡ true
clean_lines bytes clean = less_the_end (pieces line_feed bytes) (clean_pieces bytes clean)
