-- What the proofs speak of: the words of the layers below, gathered from where they stand.
pub use Rattle.dstm_core.specs.Counts.{begin_count, is_begin}
pub use Rattle.dstm_core.specs.Events.{Event}
pub use Rattle.dstm_core.specs.Histories.{CoreRun, IsSight, entry_of, history_of, new_value, new_values, old_values, read_values, seen, version_value, will_of}
pub use Rattle.dstm_core.specs.Rules.{AllowedAs, after, begin, install, is_outside, leave}
pub use Rattle.dstm_core.specs.Runs.{Core, core, local}
pub use Rattle.dstm_core.specs.State.{LocalState, drop_read, first, given, is_resolved, keep_resolved, next_attempt, next_locator, next_write, or_unresolved, or_write, or_zero, own_attempt, read_of, record_resolved, res, version, write_of}
pub use Rattle.dstm_core.specs.Traces.{IsPastOf, at, events_of, word}
pub use Rattle.dstm_core.specs.Words.{IsValid, code_of, place}
pub use Rattle.dstm_core.specs.Words.Word.{CallersWord, HighWord, LowWord, OldWord, OwnerWord, StatusWord}
pub use Rattle.dstm_core.specs.declared.event.Kind.{Kind}
pub use Rattle.dstm_core.specs.declared.event.Kind.TheVariants.{Begin, Check, Commit, Draw, Enrol, Install, Kill, LookNumber, LookObj, LookSelf, Pause, PutHigh, PutNew, PutOld, PutOwner, Quit, Rank, Release, Resume, Stamp}
pub use Rattle.dstm_core.specs.declared.shape.Manager.{Manager}
pub use Rattle.dstm_core.specs.declared.shape.Shape.{Shape}
pub use Rattle.dstm_core.specs.declared.state.Phase.{Phase}
pub use Rattle.dstm_core.specs.declared.state.Phase.TheVariants.{Drawn, Outside, Putting, Running, Validating}
pub use Rattle.dstm_core.specs.declared.state.Read.{Read}
pub use Rattle.dstm_core.specs.declared.state.Resolution.{Resolution}
pub use Rattle.dstm_core.specs.declared.state.Write.{Write}
pub use Rattle.dstm_machines.specs.Traces.Access.{Add, Exchange}
pub use Rattle.dstm_managers.specs.Choices.{DeciderState, started}
pub use Rattle.dstm_mem.specs.Memory.{AgreesWith, HoldsAlso, HoldsAtMost, HoldsWithout, MarksAtMost, SetsOnly, value_in, with_set}
pub use Rattle.dstm_model.specs.Map.{Agrees, IsEntry, IsUnnamed, NamesOnce, no_value, value_at, with_writes}
pub use Rattle.dstm_model.specs.declared.value.Val.{Val}
pub use Rattle.dstm_opacity.specs.Committed.{Committed, attempt_of, done_by, has_committed, is_commit}
pub use Rattle.dstm_order.specs.Calls.{IsCall, Obeys, answer, answer_of, due_after, effort_of, newest_of, state_after}
pub use Rattle.dstm_order.specs.Efforts.{Effort, effort_after, no_effort}
pub use Rattle.dstm_order.specs.Made.{AreMade, ByCalls, Call, events_in, generator_by, state_by}
pub use Rattle.dstm_order.specs.Order.{Due, IsDue, at_first, due, has_begun, has_ranks, has_stamps, in_beginning, in_putting, in_resolving, is_spent, just, next, next_or_first, rises, when_passed, when_put, when_resolved}
pub use Rattle.dstm_order.specs.Order.Due.{Done, Step}
pub use Rattle.dstm_order.specs.Passes.{EndsInPass, EndsInRank, is_miss, is_open, misses}
pub use Rattle.dstm_order.specs.Retries.{KeepsReads, TriesAgain, is_new}
pub use Rattle.dstm_order.specs.Tasks.{Task, Work}
pub use Rattle.dstm_order.specs.Tasks.Task.{Beginning, Doing, Enrolling, Leaving}
pub use Rattle.dstm_order.specs.Tasks.Work.{Committing, Reading, Rechecking, Releasing, Writing}
pub use Rattle.dstm_order.specs.declared.TheConstants.{MAX_MISSED}
pub use Rattle.dstm_order.specs.declared.again.Again.{Again}
pub use Rattle.dstm_progress.specs.Alone.{AloneBound, AloneCommits, AreCalls, AreOf, IsAlone, IsUnmet, Made, PricesByCount, all_events, count, generator_after, is_release, last_answer}
pub use Rattle.dstm_progress.specs.Disturbed.{Disturbed, HasOther, count_of}
pub use Rattle.dstm_progress.specs.Ends.{IsCallIn, StaysAt, ended_as}
pub use Rattle.dstm_progress.specs.Oldest.{IsNoReading, IsOfOldest, IsOldest}
pub use Rattle.dstm_steps.specs.Finding.{IsFound, KeepsAttempt, word_of}
pub use Rattle.dstm_steps.specs.Reads.{kept, words_of}
pub use Rattle.dstm_steps.specs.Under.{Began, InTask, IsMirror, IsRunning, doing, effort_by, now, passed}
pub use Rattle.dstm_steps.specs.Writes.{AreWrites, IsLawful, or_old, puts_of, to_put}
pub use Rattle.dstm_steps.specs.declared.slots.ReadSlot.{ReadSlot}
pub use Rattle.dstm_steps.specs.declared.slots.WriteSlot.{WriteSlot}
pub use Rattle.dstm_steps.specs.declared.steps.Steps.{Steps}
pub use Rattle.dstm_words.specs.Seats.{Home, IsOf, IsRunOf, Joined, LeftBy, Makes, View, caller_state, caller_view, found_in, given_part, kept_part, made, number_or, view_of}
pub use Rattle.dstm_words.specs.declared.terms.Terms.{Terms}
pub use Rattle.rand_pcg.specs.Lcg.{Lcg}
