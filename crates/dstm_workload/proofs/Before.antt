-- The text of a workload before a line `---`.
use Rattle.std.proofs.Common.{◌≡◌, ℕ, false, eqb, List, [], ◌∷◌, ◌++◌, Some, codes, refl, sym, ap, ◌∙◌, arith}
use Rattle.std.proofs.Common.{append_assoc, append-nil}
use Rattle.std.specs.Str.{bytes_eq}
use Rattle.std.proofs.lemmas.List.Elements.{All-from_recursion}
use Rattle.dstm_text.specs.Lines.{line_feed, lines_of, split_lines}
use Rattle.dstm_text.proofs.LineLaws.{IsFreeOf, lines_of-append}
use Rattle.dstm_text.proofs.LineSearch.{Lacks, onto, split-append, split-at}
use Rattle.dstm_workload.specs.declared.workload.Workload.{Workload}
use Rattle.dstm_workload.specs.Entry.{Entry}
use Rattle.dstm_workload.specs.Workload.{IsValidWorkload}
use Rattle.dstm_workload.specs.Writing.{joined, text_of_workload}
use Rattle.dstm_workload.proofs.EntryLaws.{fields_of_entry}
use Rattle.dstm_workload.proofs.TextAgain.{texts_of, entries, lines_are, lines_behind}

abbrev mark : List ℕ
mark = codes "---"

-- ---- no line of the text is the mark

entry_lacks : (e : Entry) → bytes_eq (joined (fields_of_entry e)) mark ≡ false
entry_lacks e = grind arith

entries_lack : (es : List Entry) → Lacks mark (texts_of es)
entries_lack [] = tt
entries_lack (e ∷ es) = (entry_lacks e, entries_lack es)

-- ---- the text is cut at the mark behind it

mark_line : (rest : List ℕ) → lines_of (codes "---\n" ++ rest) ≡ mark ∷ lines_of rest
mark_line rest =
    let free : IsFreeOf line_feed mark =
    All-from_recursion (λ b. eqb b line_feed ≡ false) mark (refl, (refl, (refl, tt))) in
    lines_of-append mark rest free

pub split_before : (workload : Workload) (rest : List ℕ) → IsValidWorkload workload →
    split_lines mark (lines_of (text_of_workload workload ++ codes "---\n" ++ rest))
    ≡ (lines_of (text_of_workload workload), Some (lines_of rest))
split_before workload rest valid =
    let lines = texts_of (entries workload valid) in
    let behind : List ℕ = codes "---\n" ++ rest in
    let whole = lines_are workload valid in
    ap (split_lines mark)
    (ap lines_of (append_assoc (text_of_workload workload) (codes "---\n") rest)
    ∙ lines_behind workload valid behind ∙ ap (λ (ls : List (List ℕ)). lines ++ ls) (mark_line rest))
    ∙ split-append mark lines (mark ∷ lines_of rest) (entries_lack (entries workload valid))
    ∙ ap (onto lines) (split-at mark mark (lines_of rest) refl)
    ∙ ap (λ (ls : List (List ℕ)). (ls, Some (lines_of rest))) (append-nil lines ∙ sym whole)
