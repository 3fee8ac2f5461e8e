-- Rows are followed one by one.
use Rattle.std.proofs.Common.{◌≡◌, ◌<◌, eqb, List, [], ◌∷◌, ◌++◌, Option, Some, ap, sym, subst, ◌∙◌}
use Rattle.std.specs.Prelude.{IfSome}
use Rattle.std.specs.List.{find, All, AllByRecursion}
use Rattle.std.proofs.lemmas.List.Elements.{recursion_from_All, All-from_recursion}
use Rattle.dstm_model.specs.Layout.{FitsLayout}
use Rattle.dstm_model.specs.Store.{Store, opening_store}
use Rattle.dstm_model.specs.Job.{apply_job}
use Rattle.dstm_workload.specs.declared.workload.Job.{Job}
use Rattle.dstm_workload.specs.declared.workload.Workload.{Workload}
use Rattle.dstm_workload.specs.Workload.{IsValidWorkload}
use Rattle.dstm_report.specs.declared.report.Row.{Row}
use Rattle.dstm_report.specs.declared.replay.Replay.{Replay}
use Rattle.dstm_report.specs.Lawful.{IsBefore, IsGoodRow, AnswersWhere, AreBlocked, last_row, after_job}
use Rattle.dstm_report.specs.Lawful.{store_after, first_job, jobs_left}
use Rattle.dstm_report.specs.Turns.{without_first}
use Rattle.dstm_report.specs.Replaying.{HasFollowed}
use Rattle.dstm_report.proofs.OneRowMore.{RowsAreGood-push, after_rows-push}
use Rattle.dstm_report.proofs.Rising.{each-filter, found_holds, find_line, turn_ends, rise_all}

-- ---- what is known of a workload's jobs

pub workers_are_small : {workload : Workload} → IsValidWorkload workload →
    All (λ job. job.worker < workload.workers) workload.jobs
workers_are_small valid k d lt = (valid.each k d lt).worker

jobs_fit : {workload : Workload} → IsValidWorkload workload →
    All (λ job. All (FitsLayout workload.layout) job.ops) workload.jobs
jobs_fit valid k d lt = (valid.each k d lt).fits

-- what holds of each job holds of each that is left
each_left : (P : Job → Type 0) (workload : Workload) (before : List Row) {left : List Job} → All P workload.jobs →
    left ≡ jobs_left workload.jobs before → AllByRecursion P left
each_left P workload before all is =
    subst (AllByRecursion P) (sym is) (each-filter P _ workload.jobs (recursion_from_All P workload.jobs all))

pub left_fit : {workload : Workload} {before : List Row} {replay : Replay} → IsValidWorkload workload →
    HasFollowed workload before replay → All (λ job. All (FitsLayout replay.store.layout) job.ops) replay.turns.left
left_fit {workload = workload} {before = before} {replay = replay} valid followed =
    subst (λ l. All (λ (job : Job). All (FitsLayout l) job.ops) replay.turns.left) (sym followed.layout)
    (All-from_recursion (λ (job : Job). All (FitsLayout workload.layout) job.ops) replay.turns.left
    (each_left (λ (job : Job). All (FitsLayout workload.layout) job.ops) workload before
    (jobs_fit valid) followed.turns))

pub left_small : {workload : Workload} {before : List Row} {replay : Replay} → IsValidWorkload workload →
    HasFollowed workload before replay → All (λ job. job.worker < workload.workers) replay.turns.left
left_small {workload = workload} {before = before} {replay = replay} valid followed =
    All-from_recursion (λ (job : Job). job.worker < workload.workers) replay.turns.left
    (each_left (λ (job : Job). job.worker < workload.workers) workload before (workers_are_small valid) followed.turns)

-- ---- the first job left of a row's worker

-- what is known where rows have been followed, and the row's worker has a job left
pub record HasNext (workload : Workload) (before : List Row) (row : Row) (replay : Replay) (job : Job) : Type 0 where
  pub valid : IsValidWorkload workload
  pub followed : HasFollowed workload before replay
  pub first : first_job row.worker replay.turns.left ≡ Some job

pub has_next : {workload : Workload} {before : List Row} (row : Row) {replay : Replay} {job : Job} →
    IsValidWorkload workload → HasFollowed workload before replay → Some job ≡ first_job row.worker replay.turns.left →
    HasNext workload before row replay job
has_next row valid followed is = record { valid = valid; followed = followed; first = sym is }

turn_is : {workload : Workload} {before : List Row} {row : Row} {replay : Replay} {job : Job} →
    HasNext workload before row replay job → first_job row.worker (jobs_left workload.jobs before) ≡ Some job
turn_is {row = row} h = ap (first_job row.worker) (sym h.followed.turns) ∙ h.first

pub next_fits : {workload : Workload} {before : List Row} {row : Row} {replay : Replay} {job : Job} →
    HasNext workload before row replay job → All (FitsLayout replay.store.layout) job.ops
next_fits {workload} {before} {row} {replay} {job} h =
    let Fits : Job → Type 0 = λ j. All (FitsLayout replay.store.layout) j.ops in
    subst (λ (o : Option Job). IfSome o Fits) h.first (found_holds Fits _ replay.turns.left
    (recursion_from_All Fits replay.turns.left (left_fit h.valid h.followed)))

-- ---- rows that are not good

-- the answer that the replay gives
abbrev pub OwnAnswer : Row → Replay → Job → Type 0
OwnAnswer row replay job =
    AnswersWhere (AreBlocked replay.turns.left replay.store) (apply_job job.ops replay.store) row.replies

-- ---- rows that are good

pub good_row : {workload : Workload} {before : List Row} {row : Row} {replay : Replay} {job : Job} →
    HasNext workload before row replay job →
    job.line ≡ row.line → IfSome (last_row before) (λ previous. IsBefore previous row) →
    OwnAnswer row replay job → IsGoodRow workload before row
good_row {workload} {before} {row} {replay} {job} h line number answer =
    let Answer : List Job → Store → Type 0 =
    λ left s. AnswersWhere (AreBlocked left s) (apply_job job.ops s) row.replies in
    record {
      job = job;
      turn = turn_is h;
      line = sym line;
      number = number;
      replies = subst (λ (left : List Job). Answer left (store_after workload before)) h.followed.turns
          (subst (λ (s : Store). Answer replay.turns.left s) h.followed.store answer);
    }

-- what following a row has changed
pub record HasPassed (row : Row) (job : Job) (replay after : Replay) : Type 0 where
  pub store : after.store ≡ after_job (Some job) replay.store
  pub layout : after.store.layout ≡ replay.store.layout
  pub turns : after.turns.left ≡ without_first row.worker replay.turns.left

pub followed_more : {workload : Workload} {before : List Row} {row : Row} {replay after : Replay} {job : Job} →
    HasNext workload before row replay job →
    job.line ≡ row.line → IsGoodRow workload before row → HasPassed row job replay after →
    HasFollowed workload (before ++ row ∷ []) after
followed_more {workload} {before} {row} {replay} {after} {job} h line good passed =
    let jobs = workload.jobs in
    let rise = rise_all jobs h.valid.rising in
    let named : find (λ j. eqb j.line row.line) jobs ≡ Some job =
    subst (λ l. find (λ j. eqb j.line l) jobs ≡ Some job) line (find_line _ _ 0 jobs job rise (turn_is h)) in
    record {
      good = RowsAreGood-push [] before h.followed.good good;
      layout = passed.layout ∙ h.followed.layout;
      store = passed.store ∙ ap (after_job (Some job)) h.followed.store
          ∙ sym (after_rows-push jobs before row (opening_store workload.layout)
          ∙ ap (λ (o : Option Job). after_job o (store_after workload before)) named);
      turns = passed.turns ∙ ap (without_first row.worker) h.followed.turns
          ∙ turn_ends jobs before row job rise (turn_is h) (sym line);
    }
