-- Private: a round of a run, from where the run stands before it to where it stands behind it.
use Rattle.std.specs.Prelude.{◌≡◌, ℕ, ◌+◌, ◌<◌, ◌≤◌, List, [], ◌∷◌, ◌++◌, length, vec_len, vec_capacity, All}
use Rattle.dstm_workload.specs.declared.workload.Workload.{Workload}
use Rattle.dstm_report.specs.declared.report.Row.{Row}
use Rattle.dstm_report.specs.Lawful.{RowsAreGood}
use Rattle.dstm_options.specs.declared.options.Options.{Options}
use Rattle.dstm_jobs.specs.Tables.{Round}
use Rattle.dstm_records.specs.Records.{AreRoundsOf}
use Rattle.dstm_records.specs.Running.{AddsRound, Begins, turns_behind}
use Rattle.dstm_crew.specs.declared.progress.Progress.{Progress}

-- What there is when a round begins: good rows of the rounds before, which left these values, and whose turn it is. There is
-- room for the rows of all jobs left, and for a record.
pub record CanPlay (workload : Workload) (number : ℕ) (progress : Progress) : Type 0 where
  pub begins : Begins workload number progress.rows.items progress.values.items
  pub turns : progress.turns ≡ turns_behind workload progress.rows.items
  pub room : length progress.rows.items + length progress.turns.left ≤ progress.rows.room
  pub room_for_record : vec_len progress.rounds < vec_capacity progress.rounds

-- a round was played: its rows and its record stand behind the others, and it has left values
pub record HasPlayed (workload : Workload) (options : Options) (number : ℕ) (old new : Progress) : Type 0 where
  pub now : List Row
  pub closed : Round
  pub rows_are : new.rows.items ≡ old.rows.items ++ now
  pub rounds_are : new.rounds.items ≡ old.rounds.items ++ closed ∷ []
  pub adds : AddsRound workload options number old.rows.items old.values.items closed now new.values.items
  pub turns_are : new.turns ≡ turns_behind workload new.rows.items

-- a round was broken off: no record was added, and all rows that were added are of it
pub record WasBrokenOff (number : ℕ) (old new : Progress) : Type 0 where
  pub none : new.rounds.items ≡ old.rounds.items
  pub unfinished : List Row
  pub rows_are : new.rows.items ≡ old.rows.items ++ unfinished
  pub in_round : All (λ row. row.round ≡ number) unfinished

-- A run has come so far: behind the records that were there stand those of its first rounds, from the values on with which it
-- began. They stand for its rows, but for those of one more round that was broken off.
pub record HasCome (workload : Workload) (options : Options) (old new : Progress) : Type 0 where
  pub more : List Round
  pub behind : new.rounds.items ≡ old.rounds.items ++ more
  pub rows : List Row
  pub good : RowsAreGood workload [] rows
  pub each : AreRoundsOf workload options rows 0 [] old.values.items more
  pub all_rows : All (λ row. row.round < length more) rows
  pub unfinished : List Row
  pub rows_are : new.rows.items ≡ rows ++ unfinished
  pub in_round : All (λ row. row.round ≡ length more) unfinished
