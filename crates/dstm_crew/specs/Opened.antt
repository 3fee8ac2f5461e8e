-- Private: the table of an alone round, before its caller has run.
use Rattle.std.specs.Prelude.{◌≡◌, ℕ, false, List, [], filter}
use Rattle.std.specs.List.{range_with_len}
use Rattle.dstm_model.specs.declared.value.Val.{Val}
use Rattle.dstm_workload.specs.declared.workload.Job.{Job}
use Rattle.dstm_workload.specs.declared.workload.Workload.{Workload}
use Rattle.dstm_options.specs.declared.options.Options.{Options}
use Rattle.dstm_jobs.specs.Tables.{AtRest, Caller, Founder, IsOf, Table, layout_of}
use Rattle.dstm_tables.specs.Callers.{begun, done, home_of, let_go, number_of, round_of}
use Rattle.dstm_tables.specs.Founders.{first_of, guests_of, home_there, out_of}
use Rattle.dstm_tables.specs.Tells.{HasLocators, attempts_of, callers_of, start_of, used_by, writes_all}
use Rattle.dstm_records.specs.Records.{IsMade}
use Rattle.dstm_records.specs.Rounds.{attempts_for, has_job, is_parallel}

-- the workers below this number that have one of these jobs, in rising order
abbrev pub with_jobs : (workers : ℕ) → List Job → List ℕ
with_jobs workers left = filter (has_job left) (range_with_len 0 workers)

-- A table on these values, with one caller that has done nothing yet. It is one of the engine of the options, and as these and
-- so many workers that have jobs left want it.
pub record IsOpened (workload : Workload) (options : Options) (waiting : ℕ) (values : List Val) (table : Table)
    (founder : Founder) (k : Caller) : Type 0 where
  pub engine : IsOf options.engine (first_of table)
  pub layout : layout_of (first_of table) ≡ workload.layout
  pub start : start_of (first_of table) ≡ values
  pub only : callers_of (first_of table) ≡ 1
  pub attempts : attempts_of (first_of table) ≡ attempts_for waiting
  pub locators : HasLocators (first_of table)
  -- in version 3 reads stay reads
  pub reads : workload.version ≡ 3 → writes_all (first_of table) ≡ false
  pub made : (number : ℕ) → is_parallel number ≡ false → IsMade options workload.version number waiting (first_of table)
  pub founded : home_there founder ≡ table
  pub out : out_of founder ≡ 1
  pub guests : guests_of founder ≡ 0
  pub home : home_of k ≡ table
  pub rest : AtRest k
  pub none_begun : begun k ≡ 0
  pub none_used : used_by (round_of k) (number_of k) ≡ 0
  pub none_let_go : let_go k ≡ 0
  pub none_done : done k ≡ []
