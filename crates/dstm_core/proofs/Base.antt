-- What the proofs speak of: the words of DSTM's machine, of values, and of truth values.
pub use Rattle.std.proofs.lemmas.Bool.{and_from, and_left, and_parts, and_right, cases_Bool, cases_eq, cases_lt}
pub use Rattle.std.proofs.lemmas.Bool.{cond_both, eq-eqb, eqb-false, eqb-true, ltb-false, ltb-true, ne_eqb, not-false}
pub use Rattle.std.proofs.lemmas.Bool.{not-true, or_cases, or_parts, or_right}
pub use Rattle.std.proofs.lemmas.Bool.Decides.{nat_tests}
pub use Rattle.dstm_core.specs.Events.{Event}
pub use Rattle.dstm_core.specs.Histories.{CoreRun, IsSight, Lawful, PutsLawfully, commits_at, current_value}
pub use Rattle.dstm_core.specs.Histories.{current_version, drawn, entry_at, entry_of, history, history_of, is_draw}
pub use Rattle.dstm_core.specs.Histories.{is_look_number, new_value, new_values, old_values, pass_place, prefix_at}
pub use Rattle.dstm_core.specs.Histories.{read_values, seen, version_value, will_of}
pub use Rattle.dstm_core.specs.Indexed.{IsIndexed, count_before, is_among, place_of, read_at, reads_at}
pub use Rattle.dstm_core.specs.Kinds.{is_one_of}
pub use Rattle.dstm_core.specs.Laws.{Installs, IsFinished, StaysInstalled, is_load, put_count}
pub use Rattle.dstm_core.specs.Rules.{AllowedAs, May, MayKill, MayRank, Rises, access, after, install, is_outside}
pub use Rattle.dstm_core.specs.Rules.{leave, rank_of, target}
pub use Rattle.dstm_core.specs.Runs.{Core, Fits, core, local}
pub use Rattle.dstm_core.specs.State.{LocalState, drop_read, first, given, is_live, is_other, is_resolved}
pub use Rattle.dstm_core.specs.State.{keep_resolved, next_attempt, next_locator, next_read, next_write, or_read}
pub use Rattle.dstm_core.specs.State.{or_unresolved, or_write, or_zero, own_attempt, read_of, record_resolved, res}
pub use Rattle.dstm_core.specs.State.{unresolved, version, version_by, write_of}
pub use Rattle.dstm_core.specs.Traces.{IsPastOf, at, events_of, word}
pub use Rattle.dstm_core.specs.Words.{HasWord, IsValid, Word, place, word_count}
pub use Rattle.dstm_core.specs.Words.Word.{CallersWord, HighWord, LowWord, NumbersWord, ObjectWord, OldWord, OwnerWord}
pub use Rattle.dstm_core.specs.Words.Word.{RankWord, StampsWord, StatusWord}
pub use Rattle.dstm_core.specs.declared.event.Kind.{Kind}
pub use Rattle.dstm_core.specs.declared.event.Kind.TheVariants.{Begin, Check, Commit, Draw, Enrol, Install, Kill}
pub use Rattle.dstm_core.specs.declared.event.Kind.TheVariants.{LookHigh, LookNew, LookNumber, LookObj, LookOld}
pub use Rattle.dstm_core.specs.declared.event.Kind.TheVariants.{LookOwner, LookRank, LookSelf, LookStatus, Pause}
pub use Rattle.dstm_core.specs.declared.event.Kind.TheVariants.{PutHigh, PutNew, PutOld, PutOwner, Quit, Rank, Release}
pub use Rattle.dstm_core.specs.declared.event.Kind.TheVariants.{Resume, Stamp, Validating as ToValidating}
pub use Rattle.dstm_core.specs.declared.shape.Manager.{Manager}
pub use Rattle.dstm_core.specs.declared.shape.Manager.TheVariants.{Greedy, Karma, Polite, Polka}
pub use Rattle.dstm_core.specs.declared.shape.Shape.{Shape}
pub use Rattle.dstm_core.specs.declared.shape.TheConstants.{MAX_ATTEMPTS, MAX_CALLERS, MAX_RANK}
pub use Rattle.dstm_core.specs.declared.state.Phase.{Phase}
pub use Rattle.dstm_core.specs.declared.state.Phase.TheVariants.{Drawn, Outside, Paused, Putting, Running, Validating}
pub use Rattle.dstm_core.specs.declared.state.Read.{Read}
pub use Rattle.dstm_core.specs.declared.state.Resolution.{Resolution}
pub use Rattle.dstm_core.specs.declared.state.Write.{Write}
pub use Rattle.dstm_machines.specs.Traces.{Each, continued}
pub use Rattle.dstm_model.specs.Map.{Agrees, Entry, IsEntry, IsUnnamed, KeepsLaw, NamesOnce, no_value, state_after}
pub use Rattle.dstm_model.specs.Map.{value_at, with_writes}
pub use Rattle.dstm_model.specs.declared.value.Val.{Val}
