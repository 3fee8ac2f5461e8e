-- What an attempt that did a job leaves, under either engine.
use Rattle.std.proofs.Common.{◌≡◌, ◌∷◌, ℕ, Bool, true, List, Option, refl, subst, sym, All}
use Rattle.dstm_model.specs.declared.value.Val.{Val}
use Rattle.dstm_model.specs.declared.layout.Layout.{Layout}
use Rattle.dstm_model.specs.Answers.{Committed}
use Rattle.dstm_model.specs.Store.{IsPlain}
use Rattle.dstm_store.specs.Job.{Job as Body, DoesAll}
use Rattle.dstm_store.specs.Whole.{IsLawful}
use Rattle.dstm_compose.specs.declared.body.Outcome.TheVariants.{Ran}
use Rattle.dstm_compose.specs.Compose.{IsRight}
use Rattle.dstm_workload.specs.declared.workload.Job.{Job}
use Rattle.dstm_jobs.specs.Answers.{IsAnsweredBy, KeepsFew, StaysOut}
use Rattle.dstm_jobs.specs.declared.style.Style.{Style}
use Rattle.dstm_jobs.specs.declared.style.Style.TheVariants.{Branches, Loose}
use Rattle.dstm_jobs.specs.Tables.{Caller, Did}
use Rattle.dstm_jobs.specs.declared.trying.Finished.{Finished}
use Rattle.dstm_tables.specs.Callers.{done, law_of, number_of, round_of}
use Rattle.dstm_jobs.specs.Jobs.{DidJob, WasSightedByOpens}
use Rattle.dstm_tables.specs.Tells.{lets_go}
use Rattle.dstm_jobs.proofs.Same.{objects_of_law}
use Rattle.dstm_jobs.proofs.Answered.{IsRightFor, answered_branch, answered_plain}
use Rattle.dstm_jobs.proofs.Inside.{KeepsOutOf, inside}

-- where the attempts of a style let reads go, the newest transaction keeps few
abbrev pub FewReads : Style → Job → (k n : Caller) → Type 0
FewReads style job k n =
    style ≡ Loose → lets_go (round_of n) ≡ true → (by : Committed) → done n ≡ by ∷ done k → KeepsFew job by

-- what a run has left, where less is said of it
pub left_less : {is_right : List Val → List Val → Type 0} {leaves less : (ℕ → Option Val) → (ℕ → Bool) → Type 0} {k n : Caller}
    {number : ℕ} → ((held : ℕ → Option Val) (opened : ℕ → Bool) → leaves held opened → less held opened) →
    Did is_right leaves k n number → Did is_right less k n number
left_less weaker d = record {
  made = d.made;
  committed = d.committed;
  entry = d.entry;
  newest = d.newest;
  right = d.right;
  left = record {
    held = d.left.held;
    opened = d.left.opened;
    left = weaker d.left.held d.left.opened d.left.left;
    reads = d.left.reads;
    writes = d.left.writes;
  };
  sighted = d.sighted;
}

module _ (layout : Layout) (job : Job) (k n : Caller) (finished : Finished) (law : (law_of k).layout ≡ layout) where
  -- an attempt whose body kept out of what is foreign to the job
  abbrev DidInside : (is_right : List Val → List Val → Type 0) → Type 0
  DidInside is_right = Did is_right (KeepsOutOf layout job.ops) k n finished.number

  did_job : (style : Style) (is_right : List Val → List Val → Type 0) → (d : DidInside is_right) →
      (IsRightFor is_right layout d.entry → StaysOut layout job.ops d.entry →
      IsAnsweredBy layout job.ops finished.replies d.entry) →
      FewReads style job k n → (style ≡ Branches → WasSightedByOpens n) → DidJob style layout job k n finished
  did_job style is_right d answered few sighted =
      let by : Committed = record { caller = number_of k; number = finished.number; entry = d.entry } in record {
        made = d.made;
        committed = d.committed;
        by = by;
        newest = d.newest;
        is = record {
          number = refl;
          answered = answered (λ map lawful. d.right map (objects_of_law layout k n map law d.made.on lawful)
              (subst (λ (l : Layout). IsLawful l map) (sym law) lawful)) (inside layout job.ops d.entry d.left);
        };
        few_reads = λ loose lets. few loose lets by d.newest;
        sighted = sighted;
        few_sights = d.sighted;
      }

  -- by its operations in order
  pub did_plain : (style : Style) (body : Body) → body.task.layout ≡ layout → body.task.ops ≡ job.ops →
      finished.replies ≡ body.replies → All IsPlain job.ops →
      DidInside (λ before after. DoesAll body.task before after body.replies) → FewReads style job k n →
      (style ≡ Branches → WasSightedByOpens n) → DidJob style layout job k n finished
  did_plain style body same ops replies plain d few sighted =
      did_job style _ d (λ right stays.
      rw replies (answered_plain layout job.ops body.replies d.entry plain (λ map lawful agrees.
      rw (← same, ← ops) (right map lawful agrees)) stays)) few sighted

  -- by its first open branch
  pub did_branch :
      DidInside (λ before after. IsRight (record { layout = layout; ops = job.ops }) before after (Ran finished.replies)) →
      WasSightedByOpens n → DidJob Branches layout job k n finished
  did_branch d sighted =
      did_job Branches _ d (answered_branch layout job.ops finished.replies d.entry) (λ loose. absurd (cc))
      (λ _. sighted)
