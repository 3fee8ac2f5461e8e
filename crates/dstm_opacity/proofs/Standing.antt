-- What a caller has committed stands in the history.
use Rattle.std.proofs.Common.{◌++◌, List, refl, subst, sym, ℕ}
use Rattle.dstm_core.proofs.Base.{CoreRun, Event, IsPastOf, Val, commits_at, entry_at, history_of, local, will_of}
use Rattle.dstm_opacity.proofs.Base.{Shape}
use Rattle.dstm_machines.proofs.Callers.{part_stands, stands_later}
use Rattle.dstm_machines.proofs.Pasts.{past_self}
use Rattle.dstm_core.proofs.Pasts.{core_before}
use Rattle.dstm_opacity.proofs.Opacity.{history_is_serial, prefix_is_lawful}
use Rattle.dstm_opacity.specs.Committed.{Committed, attempt_of, commits_by, done_by}
use Rattle.dstm_opacity.specs.Telling.{Stands, StandsIn}
use Rattle.dstm_opacity.proofs.Stays.{same_told}
use Rattle.dstm_opacity.proofs.Told.{each_is_told}

pub done_stands : (s : Shape) (start : List Val) (holds : List Val → Type 0) (later before : List Event) (c : ℕ)
    (x : Committed) → CoreRun s start holds (later ++ before) → Stands x (done_by s start before before c) →
    StandsIn s start holds (history_of s start (later ++ before)) x.entry
done_stands s start holds later before c x run h =
    part_stands (commits_at s (will_of s (later ++ before))) (entry_at s start (later ++ before)) s.objects start holds
    (later ++ before) run.values (history_is_serial s start holds (later ++ before) run).legal
    (λ prefix rest is ok. prefix_is_lawful s start holds (later ++ before) prefix rest run is ok) c x
    (subst (Stands x) (sym (each_is_told s start (later ++ before) run.core c))
    (stands_later (commits_by c) (λ e es. attempt_of s start (later ++ before) c (local s es c)) later before x
    (subst (Stands x)
    (sym (same_told s start (later ++ before) before before run.core
    (core_before s before (later ++ before) past run.core) past (past_self before) c)) h)))
  where
    past : IsPastOf before (later ++ before)
    past = record { later = later; whole = refl }
