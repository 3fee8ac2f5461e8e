-- What the proofs speak of: the words of rows and rounds, of workloads and their jobs, of values, and of the machines.
pub use Rattle.std.proofs.lemmas.Bool.{cases_Bool, cases_eq, cond_both, eq-eqb, eqb-false, eqb-true, le-leb, leb-true}
pub use Rattle.std.proofs.lemmas.Bool.{lt-ltb, ltb-false, ltb-true, ne_eqb, not_from_false, or_parts}
pub use Rattle.dstm_core.specs.Runs.{Core, core}
pub use Rattle.dstm_core.specs.State.{drop_read, first, given, or_zero, res}
pub use Rattle.dstm_core.specs.declared.shape.Manager.TheVariants.{Greedy, Karma, Polite, Polka}
pub use Rattle.dstm_core.specs.declared.shape.Shape.{Shape}
pub use Rattle.dstm_core.specs.declared.state.Phase.TheVariants.{Outside, Paused, Putting, Running, Validating}
pub use Rattle.dstm_machines.specs.Traces.{Each, events_of}
pub use Rattle.dstm_model.specs.Answers.{AreBelow, Committed, NumbersFall}
pub use Rattle.dstm_model.specs.Job.{JobOutcome, apply_all, apply_job, open_branch, run_branch}
pub use Rattle.dstm_model.specs.Map.{Agrees, Entry, IsLegal, with_writes}
pub use Rattle.dstm_model.specs.declared.value.Val.{Val}
pub use Rattle.dstm_options.specs.declared.options.Options.{Options}
pub use Rattle.dstm_order.specs.Made.{AreMade, Call, events_in, generator_by, state_by}
pub use Rattle.dstm_order.specs.Retries.{AnyTask, TriesAgain}
pub use Rattle.dstm_records.specs.Handed.{DstmHanded, StoodTogether, Tl2Handed}
pub use Rattle.dstm_records.specs.Records.{AreFirstRounds, AreRoundsOf, GiveUpRightly, GivesReplies, IsDstmMade}
pub use Rattle.dstm_records.specs.Records.{IsGivenUpRightly, IsMade, IsParallel, IsReleasing, IsRoundOf, TellOf}
pub use Rattle.dstm_records.specs.Records.{TellsOf, is_given_up, job_of, seed_for}
pub use Rattle.dstm_records.specs.Rounds.{has_job, is_parallel, left_by, rows_in, workers_in, workers_left}
pub use Rattle.dstm_records.specs.Running.{AddsRound, Begins, IsClosed, count_left}
pub use Rattle.dstm_report.specs.Lawful.{AllBlocked, AnswersWhere, IsBefore, IsGoodRow, RowsAreGood, after_job}
pub use Rattle.dstm_report.specs.Lawful.{after_rows, first_job, is_named, jobs_left, last_row, store_after, store_left}
pub use Rattle.dstm_report.specs.declared.report.Row.{Row}
pub use Rattle.dstm_store.specs.Whole.{StandsFor}
pub use Rattle.dstm_jobs.specs.Answers.{IsAnsweredBy}
pub use Rattle.dstm_tables.specs.Tells.{entries_of}
pub use Rattle.dstm_jobs.specs.Tables.{IsOf, IsRun, Round}
pub use Rattle.dstm_tables.specs.Tells.{IsPast, SameOwn, all_done, attempts_of, begun_of, callers_of}
pub use Rattle.dstm_tables.specs.Tells.{committed_of, lets_go, start_of, values_of}
pub use Rattle.dstm_tables.specs.declared.tables.Round.TheVariants.{Dstm, Tl2}
pub use Rattle.dstm_workload.specs.Workload.{IsJob, IsValidWorkload}
pub use Rattle.dstm_workload.specs.declared.workload.Job.{Job}
pub use Rattle.dstm_workload.specs.declared.workload.Workload.{Workload}
