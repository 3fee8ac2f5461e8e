-- Lines are refused at the first of them up to which they begin no report's text.
use Rattle.std.proofs.Common.{◌≡◌, ℕ, ◌+◌, ◌-◌, ◌≤◌, Bool, true, false, cond, List, [], ◌∷◌, ◌++◌, length, take, drop}
use Rattle.std.proofs.Common.{Option, Some, None, Result, Ok, Err, codes, refl, ap, sym, subst, ◌∙◌, ◌⊎◌, inl, inr}
use Rattle.std.proofs.Common.{append_assoc, arith, ⊎_elim, map}
use Rattle.std.proofs.lemmas.Bool.{cond-true, cond-false, cases_order}
use Rattle.std.proofs.lemmas.List.{append-nil, take_at, take-take, take-append-drop, length_push}
use Rattle.std.proofs.lemmas.Option.{same_Some}
use Rattle.dstm_text.specs.Lines.{pieces, lines_of}
use Rattle.dstm_report.specs.declared.draft.Draft.{Draft}
use Rattle.dstm_report.specs.declared.draft.Part.{Part}
use Rattle.dstm_report.specs.declared.draft.Part.TheVariants as part
use Rattle.dstm_report.specs.declared.draft.TheConstants.{MAX_NUMBER}
use Rattle.dstm_report.specs.declared.report.Report.{Report}
use Rattle.dstm_text.specs.Options.{◌>>=◌}
use Rattle.dstm_report.specs.Parser.{add_line, or_line, finished, then_on, completed, header_of, is_version}
use Rattle.dstm_report.specs.Parser.{blank, parsed}
use Rattle.dstm_report.specs.Reading.{AreLinesOf, BeginReport, IsFirstMisplaced, AreRefusedAt}
use Rattle.dstm_report.specs.Text.{report_text}
use Rattle.dstm_report.proofs.Words.{Printed}
use Rattle.dstm_report.proofs.RoundTrip.{row_line, numbers_lines, items_lines, header_line, end_text}
use Rattle.dstm_report.proofs.RoundTrip.{lines_behind_header, report_lines}
use Rattle.dstm_report.proofs.ReadAsPrinted.{Only, same_cons, bind_some}
use Rattle.dstm_report.proofs.Drafts.{so_far, whole_end, end_put, IsDraft, add_line_grows, err_ok}
use Rattle.dstm_report.proofs.Drafts.{blank_is_draft, header_is, read_is_printed, printed_is_read}

-- ---- behind some lines

-- the draft with these lines more, if they can stand there
abbrev after : List (List ℕ) → Draft → Option Draft
after [] draft = Some draft
after (text ∷ texts) draft = add_line text draft >>= λ more. after texts more

completed_after : (front rest : List (List ℕ)) (n : ℕ) (draft more : Draft) → after front draft ≡ Some more →
    completed (front ++ rest) n draft ≡ completed rest (n + length front) more
completed_after [] rest n draft more is =
    let same : n ≡ n + 0 = omega arith in
    ap (completed rest n) (same_Some draft more is) ∙ ap (λ (m : ℕ). completed rest m more) same
completed_after (text ∷ front) rest n draft more is =
    let found = bind_some (add_line text draft) _ more is in
    let count : n + 1 + length front ≡ n + length (text ∷ front) = omega arith in
    ap (λ (o : Option Draft). then_on (or_line n o) (completed (front ++ rest) (n + 1))) found.1
    ∙ completed_after front rest (n + 1) found.0 more found.2 ∙ ap (λ (m : ℕ). completed rest m more) count

-- what is known of a draft behind some lines
record HasRead (draft more : Draft) (texts : List (List ℕ)) : Type 0 where
  draft_still : IsDraft more
  same_version : more.report.version ≡ draft.report.version
  grown : so_far more ≡ so_far draft ++ texts

after_reads : Printed → Only → (texts : List (List ℕ)) {draft : Draft} (more : Draft) → IsDraft draft →
    after texts draft ≡ Some more → HasRead draft more texts
after_reads printed only [] {draft = draft} more is read =
    subst (λ (d : Draft). HasRead draft d []) (same_Some draft more read)
    (record { draft_still = is; same_version = refl; grown = sym (append-nil (so_far draft)) })
after_reads printed only (text ∷ texts) {draft = draft} more is read =
    let found = bind_some (add_line text draft) _ more read in
    let first = add_line_grows printed only text found.0 is found.1 in
    let rest = after_reads printed only texts more first.draft_still found.2 in
    record {
      draft_still = rest.draft_still;
      same_version = rest.same_version ∙ first.same_version;
      grown = rest.grown ∙ ap (λ (ls : List (List ℕ)). ls ++ texts) first.grown
          ∙ append_assoc (so_far draft) (text ∷ []) texts;
    }

-- a draft can be ended
draft_begins : (draft : Draft) →
    (rest : List (List ℕ)) × (so_far draft ++ rest ≡ lines_behind_header draft.report)
draft_begins draft = go draft.part refl
  where
    go : (p : Part) → draft.part ≡ p →
        (rest : List (List ℕ)) × (so_far draft ++ rest ≡ lines_behind_header draft.report)
    go part.End is = ([], append-nil (so_far draft) ∙ whole_end draft is)
    go p is =
        let report = draft.report in (
          end_text report.count ∷ [],
          ap (λ (ls : List (List ℕ)). ls ++ end_text report.count ∷ []) (whole_end draft is)
              ∙ sym (end_put (map row_line report.rows) (numbers_lines (codes "bank") report.bank)
              (numbers_lines (codes "list") report.list) (items_lines report.version (codes "tree") report.tree)
              (end_text report.count)),
        )

-- ---- lines that begin a report

none_begin : (version : ℕ) → version ≤ MAX_NUMBER → BeginReport version []
none_begin version small = record {
  report = (blank version).report;
  behind = lines_of (report_text (blank version).report);
  whole = record { same_version = refl; held = (blank_is_draft version small).held; printed = refl };
}

read_lines_begin : Printed → Only → (version : ℕ) (text : List ℕ) (front : List (List ℕ)) (last : Draft) →
    is_version version (header_of (pieces 32 text)) ≡ true → after front (blank version) ≡ Some last →
    BeginReport version (text ∷ front)
read_lines_begin printed only version text front last first read =
    let header = header_is printed only version text first in
    let known = after_reads printed only front last (blank_is_draft version header.1) read in
    let ends = draft_begins last in
    record {
      report = last.report;
      behind = ends.0;
      whole = record {
        same_version = known.same_version;
        held = known.draft_still.held;
        printed = same_cons (header.0 ∙ ap header_line (sym known.same_version))
            (ap (λ (ls : List (List ℕ)). ls ++ ends.0) (sym known.grown) ∙ ends.1)
            ∙ sym (report_lines printed known.draft_still.held);
      };
    }

begin_less : {version : ℕ} (a b : List (List ℕ)) → BeginReport version (a ++ b) → BeginReport version a
begin_less {version = version} a b begun = record {
  report = begun.report;
  behind = b ++ begun.behind;
  whole = subst (AreLinesOf version begun.report) (append_assoc a b begun.behind) begun.whole;
}

begin_take : {version : ℕ} (m : ℕ) {lines : List (List ℕ)} → BeginReport version lines → BeginReport version
    (take m lines)
begin_take {version = version} m {lines = lines} begun =
    begin_less (take m lines) (drop m lines) (subst (BeginReport version) (sym (take-append-drop m lines)) begun)

begin_shorter : {version : ℕ} (m n : ℕ) (lines : List (List ℕ)) → m ≤ n → BeginReport version (take n lines) →
    BeginReport version (take m lines)
begin_shorter {version = version} m n lines le begun =
    subst (BeginReport version) (take-take m n lines le) (begin_take m begun)

whole_begins : {version : ℕ} {lines : List (List ℕ)} {report : Report} → AreLinesOf version report lines →
    BeginReport version lines
whole_begins {version = version} {lines = lines} {report = report} are = record {
  report = report;
  behind = [];
  whole = subst (AreLinesOf version report) (sym (append-nil lines)) are;
}

-- ---- where reading stops

-- at a line that cannot stand there
record StopsAt (texts : List (List ℕ)) (n : ℕ) (draft : Draft) (line : ℕ) : Type 0 where
  front : List (List ℕ)
  text : List ℕ
  rest : List (List ℕ)
  last : Draft
  are : texts ≡ front ++ text ∷ rest
  read : after front draft ≡ Some last
  none : add_line text last ≡ None
  place : line ≡ n + length front

-- or behind the last line
record StopsBehind (texts : List (List ℕ)) (n : ℕ) (draft : Draft) (line : ℕ) : Type 0 where
  last : Draft
  read : after texts draft ≡ Some last
  place : line ≡ n + length texts

same_err : {A : Type 0} (m n : ℕ) → ◌≡◌ {A = Result A ℕ} (Err m) (Err n) → n ≡ m
same_err m n is = cc

or_line_err : {A : Type 0} (n : ℕ) (o : Option A) (line : ℕ) → or_line n o ≡ Err line → line ≡ n
or_line_err {A} n None line is = same_err {A = A} n line is
or_line_err n (Some x) line is = absurd (err_ok line x (sym is))

stops : (texts : List (List ℕ)) (n : ℕ) (draft : Draft) (line : ℕ) → completed texts n draft ≡ Err line →
    StopsAt texts n draft line ⊎ StopsBehind texts n draft line
stops [] n draft line is =
    let same = or_line_err n (finished draft) line is in
    inr (record { last = draft; read = refl; place = omega (arith, same) })
stops (text ∷ texts) n draft line is =
    go (add_line text draft) refl (λ more told. stops texts (n + 1) more line told) is
  where
    go : (o : Option Draft) → add_line text draft ≡ o →
        ((more : Draft) → completed texts (n + 1) more ≡ Err line →
        StopsAt texts (n + 1) more line ⊎ StopsBehind texts (n + 1) more line) →
        then_on (or_line n o) (completed texts (n + 1)) ≡ Err line →
        StopsAt (text ∷ texts) n draft line ⊎ StopsBehind (text ∷ texts) n draft line
    go None added next told =
        let same = same_err {A = Report} n line told in
        inl (record {
          front = [];
          text = text;
          rest = texts;
          last = draft;
          are = refl;
          read = refl;
          none = added;
          place = omega (arith, same);
        })
    go (Some more) added next told =
        ⊎_elim (λ at. inl (record {
          front = text ∷ at.front;
          text = at.text;
          rest = at.rest;
          last = at.last;
          are = ap (λ (ts : List (List ℕ)). text ∷ ts) at.are;
          read = ap (λ (o : Option Draft). o >>= λ d. after at.front d) added ∙ at.read;
          none = at.none;
          place = omega (arith, at.place);
        })) (λ behind. inr (record {
          last = behind.last;
          read = ap (λ (o : Option Draft). o >>= λ d. after texts d) added ∙ behind.read;
          place = omega (arith, behind.place);
        })) (next more told)

-- ---- refusals

-- a line that cannot stand there: no text begins with it
stops_at : Printed → Only → (version : ℕ) (text : List ℕ) {texts : List (List ℕ)} {line : ℕ} →
    is_version version (header_of (pieces 32 text)) ≡ true → StopsAt texts 2 (blank version) line →
    IsFirstMisplaced version (text ∷ texts) line
stops_at printed only version text {texts = texts} {line = line} header at =
    let front = text ∷ at.front in
    let lines : text ∷ texts ≡ front ++ at.text ∷ at.rest = ap (λ (ts : List (List ℕ)). text ∷ ts) at.are in
    let before : take (line - 1) (text ∷ texts) ≡ front =
    ap (take (line - 1)) lines ∙ take_at front (at.text ∷ at.rest) (line - 1) (omega (arith, at.place)) in
    let here : take line (text ∷ texts) ≡ front ++ at.text ∷ [] =
    ap (take line) (lines ∙ sym (append_assoc front (at.text ∷ []) at.rest))
    ∙ take_at (front ++ at.text ∷ []) at.rest line (omega (arith, at.place, length_push front at.text)) in
    record {
      before = subst (BeginReport version) (sym before)
          (read_lines_begin printed only version text at.front at.last header at.read);
      none = λ begun. no_start (subst (BeginReport version) here begun);
    }
  where
    no_start : BeginReport version ((text ∷ at.front) ++ at.text ∷ []) → ⊥
    no_start begun =
        let rest = at.text ∷ begun.behind in
        let stopped : completed (at.front ++ rest) 2 (blank version) ≡ Err (2 + length at.front) =
        completed_after at.front rest 2 (blank version) at.last at.read
        ∙ ap (λ (o : Option Draft). then_on (or_line (2 + length at.front) o)
        (completed begun.behind (2 + length at.front + 1))) at.none in
        let told : parsed version (text ∷ (at.front ++ rest)) ≡ Err (2 + length at.front) =
        cond-true (is_version version (header_of (pieces 32 text))) _ _ header ∙ stopped in
        let lines : ((text ∷ at.front) ++ at.text ∷ []) ++ begun.behind ≡ text ∷ (at.front ++ rest) =
        append_assoc (text ∷ at.front) (at.text ∷ []) begun.behind in
        err_ok (2 + length at.front) begun.report
        (sym (ap (parsed version) lines ∙ told) ∙ printed_is_read printed begun.whole)

pub refused_is : Printed → Only → (version : ℕ) (lines : List (List ℕ)) (line : ℕ) → version ≤ MAX_NUMBER →
    parsed version lines ≡ Err line → AreRefusedAt version lines line
refused_is printed only version [] line small is =
    let same = same_err {A = Report} 1 line is in
    inr (record {
      started = none_begin version small;
      none = λ some. err_ok 1 some.0 (printed_is_read printed some.1);
      behind = omega (arith, same);
    })
refused_is printed only version (text ∷ texts) line small is =
    go (is_version version (header_of (pieces 32 text))) refl is
  where
    go : (first : Bool) → is_version version (header_of (pieces 32 text)) ≡ first →
        cond first (completed texts 2 (blank version)) (Err 1) ≡ Err line → AreRefusedAt version (text ∷ texts) line
    go false header told =
        let same : 1 ≡ line = sym (same_err {A = Report} 1 line told) in
        inl (subst (IsFirstMisplaced version (text ∷ texts)) same (record {
          before = none_begin version small;
          none = λ begun. err_ok 1 begun.report
              (sym (cond-false (is_version version (header_of (pieces 32 text))) _ _ header)
              ∙ printed_is_read printed begun.whole);
        }))
    go true header told =
        ⊎_elim (λ at. inl (stops_at printed only version text header at)) (λ behind. inr (record {
          started = read_lines_begin printed only version text texts behind.last header behind.read;
          none = λ some. err_ok line some.0
              (sym (cond-true (is_version version (header_of (pieces 32 text))) _ _ header ∙ told)
              ∙ printed_is_read printed some.1);
          behind = omega (arith, behind.place);
        })) (stops texts 2 (blank version) line told)

-- ---- there is one such place

pub same_place : (version : ℕ) (lines : List (List ℕ)) (m n : ℕ) → AreRefusedAt version lines m →
    AreRefusedAt version lines n → m ≡ n
same_place version lines m n (inl first) (inl second) =
    ⊎_elim (λ same. same) (λ other. ⊎_elim
    (λ less. absurd (first.none (begin_shorter m (n - 1) lines (omega (arith, less)) second.before)))
    (λ more. absurd (second.none (begin_shorter n (m - 1) lines (omega (arith, more)) first.before))) other)
    (cases_order m n)
same_place version lines m n (inl first) (inr second) = absurd (first.none (begin_take m second.started))
same_place version lines m n (inr first) (inl second) = absurd (second.none (begin_take n first.started))
same_place version lines m n (inr first) (inr second) = first.behind ∙ sym second.behind

pub not_refused : (version : ℕ) (lines : List (List ℕ)) (report : Report) (line : ℕ) → AreLinesOf version report lines →
    AreRefusedAt version lines line → ⊥
not_refused version lines report line are (inl first) = first.none (begin_take line (whole_begins are))
not_refused version lines report line are (inr early) = early.none (report, are)

pub is_refused : Printed → Only → (version : ℕ) (lines : List (List ℕ)) (line : ℕ) → version ≤ MAX_NUMBER →
    AreRefusedAt version lines line → parsed version lines ≡ Err line
is_refused printed only version lines line small refused = go (parsed version lines) refl
  where
    go : (read : Result Report ℕ) → parsed version lines ≡ read → parsed version lines ≡ Err line
    go (Ok report) is =
        absurd (not_refused version lines report line (read_is_printed printed only version lines report is) refused)
    go (Err other) is =
        is ∙ ap (λ (n : ℕ). Err n)
        (same_place version lines other line (refused_is printed only version lines other small is) refused)

same_ok : {A : Type 0} (x y : A) → ◌≡◌ {A = Result A ℕ} (Ok x) (Ok y) → x ≡ y
same_ok x y is = cc

pub same_report : Printed → (version : ℕ) (lines : List (List ℕ)) (one other : Report) →
    AreLinesOf version one lines → AreLinesOf version other lines → one ≡ other
same_report printed version lines one other first second =
    same_ok one other (sym (printed_is_read printed first) ∙ printed_is_read printed second)

pub either_way : Printed → Only → (version : ℕ) (lines : List (List ℕ)) → version ≤ MAX_NUMBER →
    ((report : Report) × AreLinesOf version report lines) ⊎ ((line : ℕ) × AreRefusedAt version lines line)
either_way printed only version lines small = go (parsed version lines) refl
  where
    go : (read : Result Report ℕ) → parsed version lines ≡ read →
        ((report : Report) × AreLinesOf version report lines) ⊎ ((line : ℕ) × AreRefusedAt version lines line)
    go (Ok report) is = inl (report, read_is_printed printed only version lines report is)
    go (Err line) is = inr (line, refused_is printed only version lines line small is)
