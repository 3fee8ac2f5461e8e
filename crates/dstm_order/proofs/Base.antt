-- What the proofs speak of: the words of calls, their tasks and what is due, of managers and of random numbers.
pub use Rattle.dstm_core.specs.declared.event.Kind.{Kind}
pub use Rattle.dstm_core.specs.declared.event.Kind.TheVariants.{Begin, Check, Commit, Draw, Enrol, Install, Kill}
pub use Rattle.dstm_core.specs.declared.event.Kind.TheVariants.{LookHigh, LookNew, LookNumber, LookObj, LookOld}
pub use Rattle.dstm_core.specs.declared.event.Kind.TheVariants.{LookOwner, LookRank, LookSelf, LookStatus, Pause}
pub use Rattle.dstm_core.specs.declared.event.Kind.TheVariants.{PutHigh, PutNew, PutOld, PutOwner, Quit, Rank, Release}
pub use Rattle.dstm_core.specs.declared.event.Kind.TheVariants.{Resume, Stamp, Validating as ToValidating}
pub use Rattle.dstm_core.specs.declared.shape.Manager.{Manager}
pub use Rattle.dstm_core.specs.declared.shape.Manager.TheVariants.{Greedy, Karma, Polite, Polka}
pub use Rattle.dstm_core.specs.declared.shape.Shape.{Shape}
pub use Rattle.dstm_core.specs.declared.shape.TheConstants.{MAX_RANK}
pub use Rattle.dstm_core.specs.declared.state.Phase.{Phase}
pub use Rattle.dstm_core.specs.declared.state.Phase.TheVariants.{Drawn, Outside, Paused, Putting, Running, Validating}
pub use Rattle.dstm_core.specs.declared.state.Read.{Read}
pub use Rattle.dstm_core.specs.declared.state.Resolution.{Resolution}
pub use Rattle.dstm_managers.specs.Meetings.{IsRank, most_rounds, most_turns}
pub use Rattle.dstm_managers.specs.declared.decider.Choice.{Choice}
pub use Rattle.dstm_order.specs.Calls.{IsCall, Obeys, answer, answer_of, cause, due_after, effort_of, has_quit, is_quit}
pub use Rattle.dstm_order.specs.Calls.{newest_of, quit_cause, stale_object, state_after}
pub use Rattle.dstm_order.specs.Efforts.{Effort, chosen, decider_of, effort_after, is_turn, most_missed, most_patience}
pub use Rattle.dstm_order.specs.Efforts.{no_effort, status_of, turn, turn_in, turn_of_conflict, turns_of, when_asked}
pub use Rattle.dstm_order.specs.Made.{AreMade, ByCalls, Call, events_in, generator_by, state_by}
pub use Rattle.dstm_order.specs.Order.{Due, IsDue, at_first, due, enemy_code, has_begun, has_ranks, has_stamps}
pub use Rattle.dstm_order.specs.Order.{in_beginning, in_checking, in_checks, in_conflict, in_giving_way, in_pass}
pub use Rattle.dstm_order.specs.Order.{in_putting, in_resolving, is_begin, is_paused, is_same, is_spent, just, next}
pub use Rattle.dstm_order.specs.Order.{next_or_first, on_choice, rises, when_passed, when_put, when_resolved}
pub use Rattle.dstm_order.specs.Order.Due.{Done, Step}
pub use Rattle.dstm_order.specs.Passes.{AreChecks, EndsInPass, EndsInRank, EveryCommitIsValidated, EveryMissCounts}
pub use Rattle.dstm_order.specs.Passes.{EveryOpenEndsInPass, EveryPassIsComplete, Validates, checks_needed, is_miss}
pub use Rattle.dstm_order.specs.Passes.{is_open, misses}
pub use Rattle.dstm_order.specs.Retries.{AnyTask, KeepsRank, KeepsReads, TriesAgain, is_new}
pub use Rattle.dstm_order.specs.Tasks.{Task, Work}
pub use Rattle.dstm_order.specs.Tasks.Task.{Beginning, Doing, Enrolling, Leaving}
pub use Rattle.dstm_order.specs.Tasks.Work.{Committing, Reading, Rechecking, Releasing, Writing}
pub use Rattle.dstm_order.specs.declared.again.Again.{Again}
pub use Rattle.dstm_order.specs.declared.again.Again.TheVariants.{Killed, Lost, Stale, Waited}
pub use Rattle.rand_pcg.specs.Lcg.{Lcg}
