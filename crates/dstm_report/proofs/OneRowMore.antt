-- One row more.
use Rattle.std.proofs.Common.{◌≡◌, ◌-◌, List, [], ◌∷◌, ◌++◌, length, suc, refl, ap, sym, subst, ◌∙◌}
use Rattle.std.proofs.Common.{append_assoc, eqb, arith}
use Rattle.std.specs.List.{find, slice_get}
use Rattle.std.proofs.lemmas.List.{append-nil}
use Rattle.dstm_model.specs.Store.{Store}
use Rattle.dstm_workload.specs.declared.workload.Job.{Job}
use Rattle.dstm_workload.specs.declared.workload.Workload.{Workload}
use Rattle.dstm_report.specs.declared.report.Row.{Row}
use Rattle.dstm_report.specs.Lawful.{after_rows, after_job, last_row, IsGoodRow, RowsAreGood}

pub RowsAreGood-push : {workload : Workload} (before rows : List Row) {row : Row} → RowsAreGood workload before rows →
    IsGoodRow workload (before ++ rows) row → RowsAreGood workload before (rows ++ row ∷ [])
RowsAreGood-push {workload = workload} before [] {row = row} good next =
    (subst (λ (b : List Row). IsGoodRow workload b row) (append-nil before) next, tt)
RowsAreGood-push {workload = workload} before (first ∷ rows) {row = row} good next = (
  good.0,
  RowsAreGood-push (before ++ first ∷ []) rows good.1
      (subst (λ (b : List Row). IsGoodRow workload b row) (sym (append_assoc before (first ∷ []) rows)) next),
)

pub after_rows-push : (jobs : List Job) (rows : List Row) (row : Row) (store : Store) →
    after_rows jobs (rows ++ row ∷ []) store ≡ after_job (find (λ job. eqb job.line row.line) jobs)
    (after_rows jobs rows store)
after_rows-push jobs [] row store = refl
after_rows-push jobs (first ∷ rows) row store =
    after_rows-push jobs rows row (after_job (find (λ job. eqb job.line first.line) jobs) store)

pub last_row-get : (rows : List Row) → last_row rows ≡ slice_get rows (length rows - 1)
last_row-get [] = refl
last_row-get (row ∷ []) = refl
last_row-get (row ∷ next ∷ rows) =
    let shorter : length (next ∷ rows) - 1 ≡ length rows = omega arith in
    let longer : length (row ∷ next ∷ rows) - 1 ≡ suc (length rows) = omega arith in
    last_row-get (next ∷ rows) ∙ ap (slice_get (next ∷ rows)) shorter ∙ ap (slice_get (row ∷ next ∷ rows)) (sym longer)
