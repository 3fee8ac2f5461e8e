-- What the proofs speak of: the words of TL2's machine, of values, and of truth values.
pub use Rattle.std.proofs.lemmas.Bool.{and_from, and_left, and_parts, and_right, cases_Bool, cases_eq, cases_lt}
pub use Rattle.std.proofs.lemmas.Bool.{cond-false, cond-true, cond_both, eq-eqb, eqb-false, eqb-true, leb-false, ne_eqb}
pub use Rattle.std.proofs.lemmas.Bool.{not-true, not_from_true, or_left, or_parts, or_right}
pub use Rattle.std.proofs.lemmas.Bool.Decides.{nat_tests}
pub use Rattle.dstm_machines.specs.Traces.{IsPastOf, at, continued, events_of}
pub use Rattle.dstm_model.specs.Map.{Agrees, Entry, IsEntry, IsLegal, IsUnnamed, NamesOnce, no_value, state_after}
pub use Rattle.dstm_model.specs.Map.{value_at, with_writes}
pub use Rattle.dstm_model.specs.declared.value.Val.{Val}
pub use Rattle.dstm_tl2.specs.Committed.{Committed, attempt_of, by_caller, commits, committed, committed_in, done_by}
pub use Rattle.dstm_tl2.specs.Failing.{fails, is_locked, is_readable}
pub use Rattle.dstm_tl2.specs.Histories.{DrawsLawfully, Lawful, LawfulRun, commits_at, entry_at, entry_of, history}
pub use Rattle.dstm_tl2.specs.Histories.{history_of, is_draw, is_sample, is_validated, prefix_at, read_values}
pub use Rattle.dstm_tl2.specs.Histories.{sample_place, will_of, writes_of}
pub use Rattle.dstm_tl2.specs.Rules.{AllowedAs, Event, IsReadable, IsTold, MayUnlock, after, high_object, lock}
pub use Rattle.dstm_tl2.specs.Rules.{low_object, new_hold, new_value, record_read, target}
pub use Rattle.dstm_tl2.specs.Runs.{Fits, Run, local, tl2, word}
pub use Rattle.dstm_tl2.specs.State.{Hold, LocalState, Look, Read, first, hold_of, is_valid, look_of, marked}
pub use Rattle.dstm_tl2.specs.State.{next_check, next_write, no_read, no_write, or_hold, or_look, or_read, or_value}
pub use Rattle.dstm_tl2.specs.State.{or_writes, or_zero, read_of, recorded, to_check, unwritten, with_high, with_low}
pub use Rattle.dstm_tl2.specs.State.{without, write_of}
pub use Rattle.dstm_tl2.specs.Words.{HasWord, Table, Word, initial, objects, place, word_count}
pub use Rattle.dstm_tl2.specs.Words.Word.{CallersWord, ClockWord, HighWord, LockWord, LowWord}
pub use Rattle.dstm_tl2.specs.declared.kind.Kind.{Kind}
pub use Rattle.dstm_tl2.specs.declared.kind.Kind.TheVariants.{Check, Draw, Enrol, Lock, LookAgain, LookHigh, LookLock}
pub use Rattle.dstm_tl2.specs.declared.kind.Kind.TheVariants.{LookLow, Sample, Unlock, WriteHigh, WriteLow}
