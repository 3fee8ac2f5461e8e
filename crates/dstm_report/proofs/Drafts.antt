-- A report as far as it has been read: its lines so far are those that were read.
use Rattle.std.proofs.Common.{◌≡◌, ℕ, ◌+◌, ◌<◌, ◌≤◌, Bool, true, false, eqb, cond, List, [], ◌∷◌, ◌++◌, map}
use Rattle.std.proofs.Common.{Option, Some, None, Result, Ok, Err, codes, decimal, refl, ap, sym, subst, ◌∙◌}
use Rattle.std.proofs.Common.{append_assoc, arith}
use Rattle.std.specs.List.{All, flat_map}
use Rattle.std.specs.Str.{bytes_eq}
use Rattle.std.proofs.lemmas.Bool.{cond_both, ltb-true, eqb-true}
use Rattle.std.proofs.lemmas.List.{append-nil, map_push}
use Rattle.std.proofs.lemmas.List.Elements.{All-nil, All-push}
use Rattle.std.proofs.lemmas.Option.{none-some, cond_some}
use Rattle.dstm_model.specs.declared.state.Item.{Item}
use Rattle.dstm_text.specs.Lines.{pieces, lines_of}
use Rattle.dstm_report.specs.declared.draft.Draft.{Draft}
use Rattle.dstm_report.specs.declared.draft.Part.{Part}
use Rattle.dstm_report.specs.declared.draft.Part.TheVariants as part
use Rattle.dstm_report.specs.declared.draft.TheConstants.{MAX_NUMBER}
use Rattle.dstm_report.specs.declared.report.Row.{Row}
use Rattle.dstm_report.specs.declared.report.Report.{Report}
use Rattle.dstm_report.specs.Parser.{row_of, numbers_of, items_of, count_of, part_of, rank, can_follow, with_row}
use Rattle.dstm_report.specs.Parser.{with_bank, with_list, with_tree, with_count, add_part, add_words, add_line}
use Rattle.dstm_report.specs.Parser.{or_line, finished, then_on, completed, header_of, is_version, blank, parsed}
use Rattle.dstm_report.specs.Reading.{HasRow, IsNumber, IsHeld, AreLinesOf}
use Rattle.dstm_report.specs.Text.{number_field, item_text, item_field, report_text}
use Rattle.dstm_report.proofs.Words.{Printed}
use Rattle.dstm_report.proofs.RoundTrip.{row_line, row_pieces, fields_pieces, numbers_lines, items_lines, header_line}
use Rattle.dstm_report.proofs.RoundTrip.{end_text, lines_behind_header, report_lines, number_words, item_words, IsWord}
use Rattle.dstm_report.proofs.RoundTrip.{header_words, end_words, reads_back}
use Rattle.dstm_report.proofs.ReadAsPrinted.{Only, same_cons, map_some, if_some, same_text, row_of_is, numbers_of_is, items_of_is}
use Rattle.dstm_report.proofs.ReadAsPrinted.{count_of_is, header_of_is, is_word}

-- ---- the lines so far

-- the line `end`, once it was read
abbrev pub end_so_far : Part → ℕ → List (List ℕ)
end_so_far part.End count = end_text count ∷ []
end_so_far p count = []

abbrev pub behind_bank : Draft → List (List ℕ)
behind_bank draft =
    numbers_lines (codes "list") draft.report.list ++ (items_lines draft.report.version (codes "tree") draft.report.tree
    ++ end_so_far draft.part draft.report.count)

-- the lines behind the header
abbrev pub so_far : Draft → List (List ℕ)
so_far draft = map row_line draft.report.rows ++ (numbers_lines (codes "bank") draft.report.bank ++ behind_bank draft)

-- what comes in later parts is not there yet
pub record IsDraft (draft : Draft) : Type 0 where
  pub held : IsHeld draft.report
  pub no_bank : rank draft.part < 1 → draft.report.bank ≡ None
  pub no_list : rank draft.part < 2 → draft.report.list ≡ None
  pub no_tree : rank draft.part < 3 → draft.report.tree ≡ None

-- a line more
pub record HasGrown (draft more : Draft) (text : List ℕ) : Type 0 where
  pub draft_still : IsDraft more
  pub same_version : more.report.version ≡ draft.report.version
  pub grown : so_far more ≡ so_far draft ++ text ∷ []

no_end : (p : Part) (count : ℕ) → rank p < 4 → end_so_far p count ≡ []
no_end part.End count before = absurd (omega (arith, before))
no_end p count before = refl

-- ---- where a line goes

abbrev pub whole : (R B L T E : List (List ℕ)) → List (List ℕ)
whole R B L T E = R ++ (B ++ (L ++ (T ++ E)))

pub end_put : (R B L T : List (List ℕ)) (t : List ℕ) → whole R B L T (t ∷ []) ≡ whole R B L T [] ++ t ∷ []
end_put R B L T t = simp (append_assoc, append-nil)

-- ---- each kind of line

-- a line more: the draft holds what it held and what was read, and nothing of later parts
grows : (draft more : Draft) (text : List ℕ) → IsHeld more.report → (rank more.part < 1 → more.report.bank ≡ None) →
    (rank more.part < 2 → more.report.list ≡ None) → (rank more.part < 3 → more.report.tree ≡ None) →
    more.report.version ≡ draft.report.version → so_far more ≡ so_far draft ++ text ∷ [] → HasGrown draft more text
grows draft more text held bank list tree version lines = record {
  draft_still = record { held = held; no_bank = bank; no_list = list; no_tree = tree };
  same_version = version;
  grown = lines;
}

grow_row : Printed → Only → {draft : Draft} (text : List ℕ) (row : Row) → IsDraft draft → rank draft.part ≡ 0 →
    row_of draft.report.version (pieces 32 text) ≡ Some row → HasGrown draft (with_row draft row) text
grow_row printed only {draft = draft} text row is first read =
    let version = draft.report.version in
    let rows = draft.report.rows in
    let spelled = row_of_is only version (pieces 32 text) row read in
    let shown : text ≡ row_line row = same_text 32 text (row_line row)
    (spelled.spelled ∙ sym (row_pieces printed spelled.reply spelled.replies spelled.has spelled.are)) in
    grows draft (with_row draft row) text (assumption (All-push (HasRow version) rows row is.held.rows spelled.has)) is.no_bank
    is.no_list is.no_tree refl (rw (
      map_push row_line rows row,
      is.no_bank (omega (arith, first)),
      is.no_list (omega (arith, first)),
      is.no_tree (omega (arith, first)),
      no_end draft.part draft.report.count (omega (arith, first)),
      shown,
    ) (simp (append_assoc, append-nil)))

-- the line of a structure with numbers
numbers_shown : Printed → Only → {name : List ℕ} (text : List ℕ) {word : List ℕ} (rest : List (List ℕ))
    (numbers : List ℕ) → IsWord name → pieces 32 text ≡ word ∷ rest → word ≡ name → numbers_of rest ≡ Some numbers →
    All IsNumber numbers × (text ≡ name ++ flat_map number_field numbers)
numbers_shown printed only {name = name} text rest numbers is_name words named found =
    let read = numbers_of_is only rest numbers found in (
      read.1,
      same_text 32 text (name ++ flat_map number_field numbers)
          (words ∙ same_cons named read.0
          ∙ sym (fields_pieces decimal name numbers is_name (number_words printed numbers read.1))),
    )

grow_bank : {draft : Draft} {text : List ℕ} (numbers : List ℕ) → IsDraft draft → rank draft.part < 1 →
    All IsNumber numbers × (text ≡ codes "bank" ++ flat_map number_field numbers) →
    HasGrown draft (with_bank draft numbers) text
grow_bank {draft = draft} {text = text} numbers is first (new, shown) =
    grows draft (with_bank draft numbers) text (assumption new) (λ before. absurd (omega (arith, before)))
    (λ before. is.no_list (omega (arith, first))) (λ before. is.no_tree (omega (arith, first))) refl (rw (
      is.no_bank first,
      is.no_list (omega (arith, first)),
      is.no_tree (omega (arith, first)),
      no_end draft.part draft.report.count (omega (arith, first)),
      shown,
    ) (simp (append_assoc, append-nil)))

grow_list : {draft : Draft} {text : List ℕ} (numbers : List ℕ) → IsDraft draft → rank draft.part < 2 →
    All IsNumber numbers × (text ≡ codes "list" ++ flat_map number_field numbers) →
    HasGrown draft (with_list draft numbers) text
grow_list {draft = draft} {text = text} numbers is first (new, shown) =
    grows draft (with_list draft numbers) text (assumption new) (λ before. absurd (omega (arith, before)))
    (λ before. absurd (omega (arith, before))) (λ before. is.no_tree (omega (arith, first))) refl (rw (
      is.no_list first,
      is.no_tree (omega (arith, first)),
      no_end draft.part draft.report.count (omega (arith, first)),
      shown,
    ) (simp (append_assoc, append-nil)))

grow_tree : Printed → Only → {draft : Draft} (text : List ℕ) {word : List ℕ} (rest : List (List ℕ)) (items : List Item) →
    IsDraft draft → rank draft.part < 3 → pieces 32 text ≡ word ∷ rest → word ≡ codes "tree" →
    items_of draft.report.version rest ≡ Some items → HasGrown draft (with_tree draft items) text
grow_tree printed only {draft = draft} text rest items is first words named read =
    let version = draft.report.version in
    let items_are = items_of_is only version rest items read in
    let line = codes "tree" ++ flat_map (item_field version) items in
    let shown : text ≡ line = same_text 32 text line (words ∙ same_cons named items_are.0
    ∙ sym (fields_pieces (item_text version) (codes "tree") items (record { in_line = refl; in_words = refl })
    (item_words printed version items items_are.1))) in
    grows draft (with_tree draft items) text (assumption (items_are.1)) (λ before. absurd (omega (arith, before)))
    (λ before. absurd (omega (arith, before))) (λ before. absurd (omega (arith, before))) refl
    (rw (is.no_tree first, no_end draft.part draft.report.count (omega (arith, first)), shown)
    (simp (append_assoc, append-nil)))

grow_end : Printed → Only → {draft : Draft} (text : List ℕ) {word : List ℕ} (rest : List (List ℕ)) (count : ℕ) →
    IsDraft draft → rank draft.part < 4 → pieces 32 text ≡ word ∷ rest → word ≡ codes "end" →
    count_of rest ≡ Some count → HasGrown draft (with_count draft count) text
grow_end printed only {draft = draft} text rest count is first words named read =
    let count_is = count_of_is only rest count read in
    let shown : text ≡ end_text count = same_text 32 text (end_text count)
    (words ∙ same_cons named count_is.0 ∙ sym (end_words printed count count_is.1)) in
    grows draft (with_count draft count) text (assumption (count_is.1)) (λ before. absurd (omega (arith, before)))
    (λ before. absurd (omega (arith, before))) (λ before. absurd (omega (arith, before))) refl
    (rw (no_end draft.part draft.report.count first, shown) (simp (append_assoc, append-nil)))

-- ---- any line

abbrev IsNamed : List ℕ → Part → Type 0
IsNamed word part.Rows = Unit {0}
IsNamed word part.Bank = word ≡ codes "bank"
IsNamed word part.List = word ≡ codes "list"
IsNamed word part.Tree = word ≡ codes "tree"
IsNamed word part.End = word ≡ codes "end"

abbrev end_or_row : List ℕ → Part
end_or_row word = cond (bytes_eq word (codes "end")) part.End part.Rows

abbrev from_tree : List ℕ → Part
from_tree word = cond (bytes_eq word (codes "tree")) part.Tree (end_or_row word)

abbrev from_list : List ℕ → Part
from_list word = cond (bytes_eq word (codes "list")) part.List (from_tree word)

part_named : (word : List ℕ) → IsNamed word (part_of word)
part_named word =
    cond_both (bytes_eq word (codes "bank")) part.Bank (from_list word) (IsNamed word) (is_word word (codes "bank"))
    (λ _. cond_both (bytes_eq word (codes "list")) part.List (from_tree word) (IsNamed word)
    (is_word word (codes "list"))
    (λ _. cond_both (bytes_eq word (codes "tree")) part.Tree (end_or_row word) (IsNamed word)
    (is_word word (codes "tree"))
    (λ _. cond_both (bytes_eq word (codes "end")) part.End part.Rows (IsNamed word) (is_word word (codes "end"))
    (λ _. tt))))

pub add_line_grows : Printed → Only → (text : List ℕ) {draft : Draft} (more : Draft) → IsDraft draft →
    add_line text draft ≡ Some more → HasGrown draft more text
add_line_grows printed only text {draft = draft} more is added = by_words (pieces 32 text) refl added
  where
    by_part : (word : List ℕ) (rest : List (List ℕ)) (p : Part) → pieces 32 text ≡ word ∷ rest → IsNamed word p →
        can_follow draft.part p ≡ true → add_part p (word ∷ rest) rest draft ≡ Some more → HasGrown draft more text
    by_part word rest part.Rows words named fits read =
        let found = map_some (with_row draft) (row_of draft.report.version (word ∷ rest)) more read in
        subst (λ m. HasGrown draft m text) found.2
        (grow_row printed only text found.0 is (eqb-true (rank draft.part) 0 fits)
        (ap (row_of draft.report.version) words ∙ found.1))
    by_part word rest part.Bank words named fits read =
        let found = map_some (with_bank draft) (numbers_of rest) more read in
        let line = numbers_shown printed only text rest found.0 (record { in_line = refl; in_words = refl }) words named found.1 in
        subst (λ m. HasGrown draft m text) found.2 (grow_bank found.0 is (ltb-true (rank draft.part) 1 fits) line)
    by_part word rest part.List words named fits read =
        let found = map_some (with_list draft) (numbers_of rest) more read in
        let line = numbers_shown printed only text rest found.0 (record { in_line = refl; in_words = refl }) words named found.1 in
        subst (λ m. HasGrown draft m text) found.2 (grow_list found.0 is (ltb-true (rank draft.part) 2 fits) line)
    by_part word rest part.Tree words named fits read =
        let found = map_some (with_tree draft) (items_of draft.report.version rest) more read in
        subst (λ m. HasGrown draft m text) found.2
        (grow_tree printed only text rest found.0 is (ltb-true (rank draft.part) 3 fits) words named found.1)
    by_part word rest part.End words named fits read =
        let found = map_some (with_count draft) (count_of rest) more read in
        subst (λ m. HasGrown draft m text) found.2
        (grow_end printed only text rest found.0 is (ltb-true (rank draft.part) 4 fits) words named found.1)

    by_words : (words : List (List ℕ)) → pieces 32 text ≡ words → add_words words draft ≡ Some more →
        HasGrown draft more text
    by_words [] words read = absurd (none-some more read)
    by_words (word ∷ rest) words read =
        let parts = if_some (can_follow draft.part (part_of word)) _ more read in
        by_part word rest (part_of word) words (part_named word) parts.0 parts.1

-- ---- all lines

pub err_ok : {A : Type 0} (n : ℕ) (x : A) → Err n ≡ Ok x → ⊥
err_ok n x is = let no : ⊥ = cc in no

or_line_ok : {A : Type 0} (n : ℕ) (o : Option A) (x : A) → or_line n o ≡ Ok x → o ≡ Some x
or_line_ok n None x is = absurd (err_ok n x is)
or_line_ok {A} n (Some y) x is = let same : y ≡ x = cc in ap (λ (z : A). Some z) same

pub then_on_ok : (n : ℕ) (o : Option Draft) (next : Draft → Result Report ℕ) (report : Report) →
    then_on (or_line n o) next ≡ Ok report → (more : Draft) × (o ≡ Some more) × (next more ≡ Ok report)
then_on_ok n None next report is = absurd (err_ok n report is)
then_on_ok n (Some more) next report is = (more, refl, is)

rank_end : (p : Part) → rank p ≡ 4 → p ≡ part.End
rank_end part.End is = refl
rank_end p is = absurd (omega (arith, is))

-- the lines so far by the part of the last line
pub whole_end : (draft : Draft) {p : Part} → draft.part ≡ p →
    so_far draft ≡ whole (map row_line draft.report.rows) (numbers_lines (codes "bank") draft.report.bank)
    (numbers_lines (codes "list") draft.report.list)
    (items_lines draft.report.version (codes "tree") draft.report.tree) (end_so_far p draft.report.count)
whole_end draft is = rw is refl

-- the lines left are those of the report that the draft does not have yet
pub record AreLeft (draft : Draft) (texts : List (List ℕ)) (report : Report) : Type 0 where
  pub held : IsHeld report
  pub same_version : report.version ≡ draft.report.version
  pub all : so_far draft ++ texts ≡ lines_behind_header report

pub completed_left : Printed → Only → (texts : List (List ℕ)) (n : ℕ) {draft : Draft} (report : Report) →
    IsDraft draft → completed texts n draft ≡ Ok report → AreLeft draft texts report
completed_left printed only [] n {draft = draft} report is read =
    let parts = cond_some (eqb (rank draft.part) 4) draft.report report (or_line_ok n (finished draft) report read) in
    let ended = rank_end draft.part (eqb-true (rank draft.part) 4 parts.0) in
    subst (AreLeft draft []) parts.1 (record {
      held = is.held;
      same_version = refl;
      all = append-nil (so_far draft) ∙ whole_end draft ended;
    })
completed_left printed only (text ∷ texts) n {draft = draft} report is read =
    let found = then_on_ok n (add_line text draft) (completed texts (n + 1)) report read in
    let grown = add_line_grows printed only text found.0 is found.1 in
    let left = completed_left printed only texts (n + 1) report grown.draft_still found.2 in
    record {
      held = left.held;
      same_version = left.same_version ∙ grown.same_version;
      all = sym (append_assoc (so_far draft) (text ∷ []) texts)
          ∙ ap (λ (ls : List (List ℕ)). ls ++ texts) (sym grown.grown) ∙ left.all;
    }

pub blank_is_draft : (version : ℕ) → version ≤ MAX_NUMBER → IsDraft (blank version)
blank_is_draft version small = record {
  held = record {
    version = small;
    rows = All-nil (HasRow version);
    bank = tt;
    list = tt;
    tree = tt;
    count = omega arith;
  };
  no_bank = λ before. refl;
  no_list = λ before. refl;
  no_tree = λ before. refl;
}

version_read : (version : ℕ) (o : Option ℕ) → is_version version o ≡ true → o ≡ Some version
version_read version None is = absurd (let no : ⊥ = cc in no)
version_read version (Some n) is = ap (λ (m : ℕ). Some m) (eqb-true n version is)

-- the line is a header of the version
pub header_is : Printed → Only → (version : ℕ) (text : List ℕ) →
    is_version version (header_of (pieces 32 text)) ≡ true → (text ≡ header_line version) × (version ≤ MAX_NUMBER)
header_is printed only version text is =
    let words = header_of_is only (pieces 32 text) version (version_read version (header_of (pieces 32 text)) is) in
    (same_text 32 text (header_line version) (words.0 ∙ sym (header_words printed version words.1)), words.1)

if_ok : {A : Type 0} (test : Bool) (n : ℕ) (r : Result A ℕ) (x : A) → cond test r (Err n) ≡ Ok x →
    (test ≡ true) × (r ≡ Ok x)
if_ok true n r x is = (refl, is)
if_ok false n r x is = absurd (err_ok n x is)

pub read_is_printed : Printed → Only → (version : ℕ) (lines : List (List ℕ)) (report : Report) →
    parsed version lines ≡ Ok report → AreLinesOf version report lines
read_is_printed printed only version [] report is = absurd (err_ok 1 report is)
read_is_printed printed only version (text ∷ texts) report is =
    let parts = if_ok (is_version version (header_of (pieces 32 text))) 1 _ report is in
    let header = header_is printed only version text parts.0 in
    let left = completed_left printed only texts 2 report (blank_is_draft version header.1) parts.1 in
    record {
      same_version = left.same_version;
      held = left.held;
      printed = same_cons (header.0 ∙ ap header_line (sym left.same_version)) left.all
          ∙ sym (report_lines printed left.held);
    }

pub printed_is_read : Printed → {version : ℕ} {lines : List (List ℕ)} {report : Report} →
    AreLinesOf version report lines → parsed version lines ≡ Ok report
printed_is_read printed {version = version} {report = report} are =
    ap (parsed version) are.printed
    ∙ subst (λ (v : ℕ). parsed v (lines_of (report_text report)) ≡ Ok report) are.same_version
    (reads_back printed report are.held)
