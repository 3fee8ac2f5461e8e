-- The first rounds of a run.
use Rattle.std.proofs.Common.{◌<◌, List, []}
use Rattle.std.specs.Prelude.{All}
use Rattle.std.proofs.lemmas.List.Elements.{All-from_recursion}
use Rattle.dstm_records.proofs.Base.{AreFirstRounds, IsClosed, Options, Round, Row, Workload}
use Rattle.dstm_store.specs.Opening.{opening_values}
use Rattle.dstm_records.proofs.Running.{each_closed}

-- no round was played
pub no_first_rounds : (workload : Workload) (options : Options) → AreFirstRounds workload options []
no_first_rounds workload options = record {
  rows = [];
  good = tt;
  each = tt;
  all_rows = All-from_recursion (λ (row : Row). row.round < 0) [] tt;
}

-- the first rounds of a run were closed
pub first_closed : (workload : Workload) (options : Options) (records : List Round) →
    AreFirstRounds workload options records → All (IsClosed workload.layout) records
first_closed workload options records first =
    All-from_recursion (IsClosed workload.layout) records
    (each_closed workload options first.rows 0 [] (opening_values workload.layout) records first.each)
