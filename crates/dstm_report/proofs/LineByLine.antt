-- Lawful reports are those of which each line is good, and a report has one first bad line.
use Rattle.std.proofs.Common.{◌≡◌, ◌≢◌, ℕ, zero, suc, ◌+◌, ◌<◌, ◌↔◌, List, [], ◌∷◌, ◌++◌, length, take, get_or, Some}
use Rattle.std.proofs.Common.{refl, ap, sym, subst, ◌∙◌, append_assoc, arith, ⊎_elim}
use Rattle.std.specs.List.{slice_get}
use Rattle.std.proofs.lemmas.Bool.{cases_order}
use Rattle.std.proofs.lemmas.List.{append-nil, get_or-take, length-take-le, take-take}
use Rattle.std.proofs.lemmas.Option.{none-some, same_Some, slice_get_within, slice_get-get_or, slice_get_read}
use Rattle.dstm_model.specs.Store.{state_of}
use Rattle.dstm_workload.specs.declared.workload.Workload.{Workload}
use Rattle.dstm_report.specs.declared.report.Row.{Row}
use Rattle.dstm_report.specs.declared.report.Report.{Report}
use Rattle.dstm_report.specs.declared.verdict.Verdict.{Verdict}
use Rattle.dstm_report.specs.declared.verdict.Verdict.TheVariants.{Lawful, NotLawful}
use Rattle.dstm_report.specs.Lawful.{IsGoodRow, RowsAreGood, IsLawful, IsGoodLine, IsFirstBadLine, Tells, declared_as}
use Rattle.dstm_report.specs.Lawful.{store_after, bank_line, list_line, tree_line, end_line}

-- ---- rows by their places

good_row_at : (workload : Workload) (before rows : List Row) (i : ℕ) (row : Row) → RowsAreGood workload before rows →
    slice_get rows i ≡ Some row → IsGoodRow workload (before ++ take i rows) row
good_row_at workload before [] i row good at = absurd (none-some row at)
good_row_at workload before (first ∷ rows) zero row good at =
    let here : IsGoodRow workload (before ++ []) first =
    subst (λ (b : List Row). IsGoodRow workload b first) (sym (append-nil before)) good.0 in
    subst (λ (r : Row). IsGoodRow workload (before ++ []) r) (same_Some first row at) here
good_row_at workload before (first ∷ rows) (suc i) row good at =
    subst (λ (b : List Row). IsGoodRow workload b row) (append_assoc before (first ∷ []) (take i rows))
    (good_row_at workload (before ++ first ∷ []) rows i row good.1 at)

rows_from_places : (workload : Workload) (before rows : List Row) →
    ((i : ℕ) (row : Row) → slice_get rows i ≡ Some row → IsGoodRow workload (before ++ take i rows) row) →
    RowsAreGood workload before rows
rows_from_places workload before [] each = tt
rows_from_places workload before (first ∷ rows) each = (
  subst (λ (b : List Row). IsGoodRow workload b first) (append-nil before) (each 0 first refl),
  rows_from_places workload (before ++ first ∷ []) rows
      (λ i row at. subst (λ (b : List Row). IsGoodRow workload b row)
      (sym (append_assoc before (first ∷ []) (take i rows))) (each (suc i) row at)),
)

-- ---- lawful reports

pub lines_are_good : {workload : Workload} {report : Report} → IsLawful workload report → (line : ℕ) →
    IsGoodLine workload report line
lines_are_good {workload = workload} {report = report} lawful line = record {
  header = λ e. lawful.version;
  row = λ i row at e. good_row_at workload [] report.rows i row lawful.rows at;
  bank = λ e. lawful.bank;
  list = λ e. lawful.list;
  tree = λ e. lawful.tree;
  count = λ e. lawful.count;
  whole = λ e. lawful.whole;
}

pub lawful_by_lines : (workload : Workload) (report : Report) → ((line : ℕ) → IsGoodLine workload report line) →
    IsLawful workload report
lawful_by_lines workload report good = record {
  version = (good 1).header refl;
  rows = rows_from_places workload [] report.rows (λ i row at. (good (i + 2)).row i row at refl);
  bank = (good (bank_line report)).bank refl;
  list = (good (list_line report)).list refl;
  tree = (good (tree_line report)).tree refl;
  count = (good (end_line report)).count refl;
  whole = (good (end_line report)).whole refl;
}

-- ---- one first bad line

same_line : {workload : Workload} {report : Report} {m n : ℕ} → IsFirstBadLine workload report m →
    IsFirstBadLine workload report n → m ≡ n
same_line {m = m} {n = n} first second =
    ⊎_elim (λ same. same) (λ other. ⊎_elim (λ below. absurd (first.bad (second.first m below)))
    (λ above. absurd (second.bad (first.first n above))) other) (cases_order m n)

pub tells_lawful : (workload : Workload) (report : Report) (verdict : Verdict) → Tells workload report verdict →
    (verdict ≡ Lawful) ↔ IsLawful workload report
tells_lawful workload report Lawful tells = (λ e. tells, λ lawful. refl)
tells_lawful workload report (NotLawful line) tells =
    (λ e. absurd (let no : ⊥ = cc in no), λ lawful. absurd (tells.bad (lines_are_good lawful line)))

pub tells_line : (workload : Workload) (report : Report) (verdict : Verdict) → Tells workload report verdict →
    (line : ℕ) → (verdict ≡ NotLawful line) ↔ IsFirstBadLine workload report line
tells_line workload report Lawful tells line =
    (λ e. absurd (let no : ⊥ = cc in no), λ first. absurd (first.bad (lines_are_good tells line)))
tells_line workload report (NotLawful n) tells line = (
  λ e. let same : n ≡ line = cc in subst (IsFirstBadLine workload report) same tells,
  λ first. ap (λ (m : ℕ). NotLawful m) (same_line tells first),
)

-- ---- where the first bad line is

-- the header of another version
pub bad_header : (workload : Workload) (report : Report) → report.version ≢ workload.version →
    IsFirstBadLine workload report 1
bad_header workload report other = record {
  bad = λ here. other (here.header refl);
  first = λ earlier lt. record {
    header = λ e. absurd (omega arith);
    row = λ i row at e. absurd (omega arith);
    bank = λ e. absurd (omega arith);
    list = λ e. absurd (omega arith);
    tree = λ e. absurd (omega arith);
    count = λ e. absurd (omega arith);
    whole = λ e. absurd (omega arith);
  };
}

-- the first row that is not good
pub bad_row : (workload : Workload) (report : Report) (i line : ℕ) (row : Row) → report.version ≡ workload.version →
    slice_get report.rows i ≡ Some row → RowsAreGood workload [] (take i report.rows) →
    ¬ (IsGoodRow workload (take i report.rows) row) → line ≡ i + 2 → IsFirstBadLine workload report line
bad_row workload report i line row version at good bad is =
    let within = slice_get_within report.rows i row at in
    let length_is = length-take-le i report.rows (omega arith) in
    record {
      bad = λ here. bad (here.row i row at is);
      first = λ earlier lt. record {
        header = λ e. version;
        row = λ j other at_j e.
            let below : j < i = omega arith in
            let there : slice_get (take i report.rows) j ≡ Some other =
            slice_get-get_or (take i report.rows) j other (omega arith)
            ∙ ap (λ (r : Row). Some r) (get_or-take i report.rows j other below)
            ∙ sym (slice_get-get_or report.rows j other (omega arith)) ∙ at_j in
            subst (λ (b : List Row). IsGoodRow workload b other) (take-take j i report.rows (omega arith))
            (good_row_at workload [] (take i report.rows) j other good there);
        bank = λ e. absurd (omega arith);
        list = λ e. absurd (omega arith);
        tree = λ e. absurd (omega arith);
        count = λ e. absurd (omega arith);
        whole = λ e. absurd (omega arith);
      };
    }

-- the same, as the code finds it
pub bad_row_found : (workload : Workload) (report : Report) {rows : List Row} (i : ℕ) {row : Row} →
    report.version ≡ workload.version →
    rows ≡ report.rows → i < length rows → row ≡ get_or rows i row → RowsAreGood workload [] (take i rows) →
    ¬ (IsGoodRow workload (take i rows) row) → IsFirstBadLine workload report (2 + i)
bad_row_found workload report {rows = rows} i {row = row} version same within at good bad =
    bad_row workload report i (2 + i) row version
    (subst (λ (rs : List Row). slice_get rs i ≡ Some row) same (slice_get_read rows (length rows) i row refl within at))
    (subst (λ (rs : List Row). RowsAreGood workload [] (take i rs)) same good)
    (subst (λ (rs : List Row). ¬ (IsGoodRow workload (take i rs) row)) same bad) (omega arith)

-- what is known where the rows are good
pub record RowsGood (workload : Workload) (report : Report) : Type 0 where
  pub version : report.version ≡ workload.version
  pub rows : RowsAreGood workload [] report.rows

abbrev pub IsBank : Workload → Report → Type 0
IsBank workload report =
    report.bank ≡ declared_as workload.layout.accounts (state_of (store_after workload report.rows)).bank

abbrev pub IsList : Workload → Report → Type 0
IsList workload report =
    report.list ≡ declared_as workload.layout.list (state_of (store_after workload report.rows)).list

abbrev pub IsTree : Workload → Report → Type 0
IsTree workload report =
    report.tree ≡ declared_as workload.layout.tree (state_of (store_after workload report.rows)).tree

pub bad_bank : {workload : Workload} {report : Report} (line : ℕ) → RowsGood workload report →
    ¬ (IsBank workload report) → line ≡ bank_line report → IsFirstBadLine workload report line
bad_bank {workload = workload} {report = report} line good bad is = record {
  bad = λ here. bad (here.bank is);
  first = λ earlier lt. record {
    header = λ e. good.version;
    row = λ j row at e. good_row_at workload [] report.rows j row good.rows at;
    bank = λ e. absurd (omega arith);
    list = λ e. absurd (omega arith);
    tree = λ e. absurd (omega arith);
    count = λ e. absurd (omega arith);
    whole = λ e. absurd (omega arith);
  };
}

pub bad_list : {workload : Workload} {report : Report} (line : ℕ) → RowsGood workload report → IsBank workload report →
    ¬ (IsList workload report) → line ≡ list_line report → IsFirstBadLine workload report line
bad_list {workload = workload} {report = report} line good bank bad is = record {
  bad = λ here. bad (here.list is);
  first = λ earlier lt. record {
    header = λ e. good.version;
    row = λ j row at e. good_row_at workload [] report.rows j row good.rows at;
    bank = λ e. bank;
    list = λ e. absurd (omega arith);
    tree = λ e. absurd (omega arith);
    count = λ e. absurd (omega arith);
    whole = λ e. absurd (omega arith);
  };
}

pub bad_tree : {workload : Workload} {report : Report} (line : ℕ) → RowsGood workload report → IsBank workload report →
    IsList workload report → ¬ (IsTree workload report) → line ≡ tree_line report → IsFirstBadLine workload report line
bad_tree {workload = workload} {report = report} line good bank list bad is = record {
  bad = λ here. bad (here.tree is);
  first = λ earlier lt. record {
    header = λ e. good.version;
    row = λ j row at e. good_row_at workload [] report.rows j row good.rows at;
    bank = λ e. bank;
    list = λ e. list;
    tree = λ e. absurd (omega arith);
    count = λ e. absurd (omega arith);
    whole = λ e. absurd (omega arith);
  };
}

pub bad_end : {workload : Workload} {report : Report} (line : ℕ) → RowsGood workload report → IsBank workload report →
    IsList workload report → IsTree workload report →
    ¬ ((report.count ≡ length report.rows) × (length report.rows ≡ length workload.jobs)) → line ≡ end_line report →
    IsFirstBadLine workload report line
bad_end {workload = workload} {report = report} line good bank list tree bad is = record {
  bad = λ here. bad (here.count is, here.whole is);
  first = λ earlier lt. record {
    header = λ e. good.version;
    row = λ j row at e. good_row_at workload [] report.rows j row good.rows at;
    bank = λ e. bank;
    list = λ e. list;
    tree = λ e. tree;
    count = λ e. absurd (omega arith);
    whole = λ e. absurd (omega arith);
  };
}
