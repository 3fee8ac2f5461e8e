-- What the laws of core runs say, from the lemmas.
use Rattle.std.proofs.Common.{◌≤◌, ◌-◌, ◌∷◌, ◌++◌, ℕ, inl, inr, List, arith}
use Rattle.dstm_core.proofs.Base.{Core, CoreRun, Event, Installs, IsFinished, Lawful, PutsLawfully, Shape, StaysInstalled, Val}
use Rattle.dstm_machines.proofs.Runs.{each_past}
use Rattle.dstm_core.proofs.Locators.{install_fresh, installed_stays}
use Rattle.dstm_core.proofs.Pasts.{core_past}
use Rattle.dstm_core.proofs.Stores.{low_once, high_once}

pub lawful_past : (s : Shape) (start : List Val) (holds : List Val → Type 0) (more es : List Event) →
    Lawful s start holds (more ++ es) → Lawful s start holds es
lawful_past s start holds more es law = each_past (PutsLawfully s start holds) more es law

pub core_run_past : {s : Shape} {start : List Val} {holds : List Val → Type 0} (more es : List Event) →
    CoreRun s start holds (more ++ es) → CoreRun s start holds es
core_run_past {s = s} {start = start} {holds = holds} more es run = record {
  values = run.values;
  core = core_past s more es run.core;
  law = lawful_past s start holds more es run.law;
}

pub finished_is : (code : ℕ) → IsFinished code → 4 ≤ code
finished_is code (inl h) = omega arith
finished_is code (inr h) = omega arith

pub installed_kept : (s : Shape) (more es : List Event) {e : Event} → Core s (more ++ e ∷ es) → Installs e →
    StaysInstalled s (e ∷ es) (more ++ e ∷ es) (e.put - 1)
installed_kept s more es {e = e} core i =
    let stays = installed_stays s more es e core i.kind i.succeeds in
    let used = (install_fresh s es e (core_past s more (e ∷ es) core) i.kind i.succeeds).1 in
    record {
      owner = stays.0;
      old = stays.1;
      low = (low_once s (more ++ e ∷ es) (e.put - 1) core used.below).once;
      high = (high_once s (more ++ e ∷ es) (e.put - 1) core used.below).once;
    }
