-- What was committed on a table, under each engine.
use Rattle.std.proofs.Common.{◌∙◌, ◌<◌, ◌∷◌, ℕ, List, [], Bool, true, false, cond, sym, subst, ◌&&◌}
use Rattle.std.specs.List.{AllByRecursion}
use Rattle.dstm_model.specs.declared.value.Val.{Val}
use Rattle.dstm_model.specs.Answers.{Committed}
use Rattle.dstm_model.specs.Map.{IsLegal}
use Rattle.dstm_machines.specs.Histories as histories
use Rattle.dstm_core.specs.declared.shape.Shape.{Shape}
use Rattle.dstm_core.specs.Events as core_events
use Rattle.dstm_core.specs.Histories as machine
use Rattle.dstm_core.specs.Runs.{Core, local}
use Rattle.dstm_core.specs.State.{own_attempt}
use Rattle.dstm_opacity.specs.Committed as core_committed
use Rattle.dstm_opacity.proofs.Merging as core_merging
use Rattle.dstm_opacity.proofs.Stays as core_stays
use Rattle.dstm_opacity.proofs.Told as core_told
use Rattle.dstm_opacity.proofs.Opacity.{history_is_serial}
use Rattle.dstm_tl2.specs.Histories as tl2_histories
use Rattle.dstm_tl2.specs.Rules.{Event}
use Rattle.dstm_tl2.specs.Runs.{Run}
use Rattle.dstm_tl2.specs.Sharing.{table_of}
use Rattle.dstm_tl2.specs.Words.{Table}
use Rattle.dstm_tl2.proofs.Legal.{committed_legal}
use Rattle.dstm_tl2.specs.Committed as tl2_committed
use Rattle.dstm_tl2.proofs.Standing as tl2_standing
use Rattle.dstm_tl2.proofs.Told as tl2_told
use Rattle.dstm_tables.proofs.Entries.{entries_reverse}
use Rattle.dstm_tables.specs.declared.tables.Round.{Round}
use Rattle.dstm_tables.specs.declared.tables.Round.TheVariants.{Dstm, Tl2}
use Rattle.dstm_tables.specs.Laws.{IsHistory}
use Rattle.dstm_tables.specs.Tells.{IsRun, SightsAgree}
use Rattle.dstm_tables.proofs.SightsByDstm.{dstm_sights_agree}
use Rattle.dstm_tables.proofs.SightsByTl2.{tl2_sights_agree}

dstm_within : (s : Shape) (start : List Val) (will : ℕ → Bool) (run es : List core_events.Event) → Core s es →
    AllByRecursion (λ done. done.caller < s.callers) (core_committed.committed s start will run es)
dstm_within s start will run [] core = tt
dstm_within s start will run (e ∷ es) core =
    one (machine.is_draw e.kind && will (own_attempt s (local s es e.caller))) (dstm_within s start will run es core.0)
  where
    one : (b : Bool) → AllByRecursion (λ (done : Committed). done.caller < s.callers) (core_committed.committed s start will run es) →
        AllByRecursion (λ (done : Committed). done.caller < s.callers)
        (cond b (record { caller = e.caller; number = e.found; entry = machine.entry_of s start run (local s es e.caller) }
        ∷ core_committed.committed s start will run es) (core_committed.committed s start will run es))
    one true rest = (core.1.caller, rest)
    one false rest = rest

tl2_within : (t : Table) (will : ℕ → Bool) (es : List Event) → Run t es →
    AllByRecursion (λ done. done.caller < t.callers) (tl2_committed.committed t will es)
tl2_within t will [] run = tt
tl2_within t will (e ∷ es) run = one (tl2_histories.commits_at will e es) (tl2_within t will es run.0)
  where
    one : (b : Bool) → AllByRecursion (λ (done : Committed). done.caller < t.callers) (tl2_committed.committed t will es) →
        AllByRecursion (λ (done : Committed). done.caller < t.callers)
        (cond b (histories.attempt_at (tl2_histories.commits_at will) (tl2_histories.entry_at t) e es
        ∷ tl2_committed.committed t will es) (tl2_committed.committed t will es))
    one true rest = (run.1.caller, rest)
    one false rest = rest

module _ {L : Type 0} (holds : L → List Val → Type 0) where
  pub is_history : (round : Round L) → IsRun holds round → IsHistory round
  is_history (Dstm r) run =
      let s = r.terms.shape in
      let start = r.terms.start.value.items in record {
        parts = core_told.each_is_told s start r.log run.run.core;
        falls = core_merging.in_order s start r.log run.run.core;
        within = dstm_within s start (machine.will_of s r.log) r.log r.log run.run.core;
        legal =
            subst (IsLegal start)
            (core_stays.entries_are_history s start r.log ∙ sym (entries_reverse (core_committed.committed_in s start r.log)))
            (history_is_serial s start (holds r.terms.law.value) r.log run.run).legal;
      }
  is_history (Tl2 r) run =
      let t = table_of r.terms in record {
        parts = tl2_told.each_is_told t r.log run.run.run;
        falls = tl2_standing.in_order t r.log run.run.run;
        within = tl2_within t (tl2_histories.will_of t r.log) r.log run.run.run;
        legal =
            subst (IsLegal t.start)
            (tl2_standing.entries_are_history t r.log ∙ sym (entries_reverse (tl2_committed.committed_in t r.log)))
            (committed_legal t r.log run.run.run);
      }

  pub sights_agree : (round : Round L) → IsRun holds round → SightsAgree round
  sights_agree (Dstm r) run = dstm_sights_agree r.terms r.log run
  sights_agree (Tl2 r) run = tl2_sights_agree r.terms r.log run
