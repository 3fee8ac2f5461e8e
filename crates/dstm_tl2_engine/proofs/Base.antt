-- What the proofs speak of: the words of the layers below, gathered from where they stand.
pub use Rattle.dstm_machines.specs.Traces.{IsPastOf, events_of}
pub use Rattle.dstm_machines.specs.Traces.Access.{Add, Load}
pub use Rattle.dstm_mem.specs.Memory.{AgreesWith, HoldsAlso, MarksAtMost, value_in, with_set}
pub use Rattle.dstm_model.specs.Map.{Agrees, KeepsLaw, NamesOnce, no_value, value_at, with_writes}
pub use Rattle.dstm_model.specs.declared.value.Val.{Val}
pub use Rattle.dstm_tl2.specs.Failing.{fails, is_readable}
pub use Rattle.dstm_tl2.specs.Histories.{LawfulRun, entry_of, history_of, is_sample, prefix_at, read_values, sample_place, will_of, writes_of}
pub use Rattle.dstm_tl2.specs.Rules.{AllowedAs, Event, MayUnlock, after, begin, high_object, lock, low_object, new_hold, record_read}
pub use Rattle.dstm_tl2.specs.Runs.{Run, local, tl2, word}
pub use Rattle.dstm_tl2.specs.Sharing.{IsRunOf, shared, table_of}
pub use Rattle.dstm_tl2.specs.State.{Hold, LocalState, Read, first, hold_of, is_valid, look_of, marked, next_write, or_hold, or_writes, or_zero, read_of, recorded, to_check, with_high, with_low, without}
pub use Rattle.dstm_tl2.specs.Words.{Table, objects, place}
pub use Rattle.dstm_tl2.specs.Words.Word.{CallersWord, ClockWord, HighWord, LockWord, LowWord}
pub use Rattle.dstm_tl2.specs.declared.kind.Kind.{Kind}
pub use Rattle.dstm_tl2.specs.declared.kind.Kind.TheVariants.{Check, Draw, Enrol, Lock, LookAgain, LookHigh, LookLock, LookLow, Sample, Unlock, WriteHigh, WriteLow}
pub use Rattle.dstm_tl2.specs.declared.terms.Terms.{Terms}
pub use Rattle.dstm_tl2_order.specs.Calls.{IsCall, Obeys, answer_of, cause, due_after, newest_of, state_after}
pub use Rattle.dstm_tl2_order.specs.Laws.{CanLock}
pub use Rattle.dstm_tl2_order.specs.Made.{AreMade, ByCalls, Call, IsOnAttempt, LocksItsWrites, events_in, newest_answer, state_by}
pub use Rattle.dstm_tl2_order.specs.Order.{Due, IsDue, at_first, draws, due, has_sampled, in_checking, in_giving_back, in_locking, in_writing_back, is_spent, locks, next, next_or_first, when_locked}
pub use Rattle.dstm_tl2_order.specs.Order.Due.{Done, FreeAs, Just, LookAt, PutHigh, PutLow}
pub use Rattle.dstm_tl2_order.specs.Tasks.{Task, Work}
pub use Rattle.dstm_tl2_order.specs.Tasks.Task.{Beginning, Doing, Enrolling, Returning}
pub use Rattle.dstm_tl2_order.specs.Tasks.Work.{Committing, Finishing, Locking, Opening}
pub use Rattle.dstm_tl2_order.specs.declared.again.TlAgain.{TlAgain}
pub use Rattle.dstm_tl2_steps.specs.Opened.{OpenedAs, read_slot, slots_value, with_value}
pub use Rattle.dstm_tl2_steps.specs.Reads.{AtRest, slot_read}
pub use Rattle.dstm_tl2_steps.specs.Under.{Began, Lists, Under, made_by, now}
pub use Rattle.dstm_tl2_steps.specs.declared.steps.Steps.{Steps}
pub use Rattle.dstm_tl2_words.specs.Seats.{Home, IsOf, Joined, LeftBy, Makes, View, caller_state, caller_view, given_part, kept_part, made, number_or, view_of}
