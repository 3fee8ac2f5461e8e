-- What is read is a valid workload.
use Rattle.std.proofs.Common.{◌≡◌, ℕ, ◌+◌, ◌<◌, List, [], ◌∷◌, ◌++◌, length, All, Option, Some, None, refl, sym, ap}
use Rattle.std.proofs.Common.{◌∙◌, arith, append-nil, length-append}
use Rattle.std.specs.List.Sorted.{IsStrictlyIncreasing}
use Rattle.std.proofs.lemmas.{Grind.common_steps, List.map-append, List.Elements.All-nil, List.Elements.All-push}
use Rattle.std.proofs.lemmas.List.Elements.{All-weaker}
use Rattle.dstm_model.specs.declared.layout.Layout.{Layout}
use Rattle.dstm_workload.specs.declared.{known.Known.Known, workload.Job.Job}
use Rattle.dstm_workload.specs.Entry.{Entry}
use Rattle.dstm_workload.specs.Entry as entry
use Rattle.dstm_workload.specs.Workload.{AreOperations, IsValidWorkload, lines_of_jobs}
use Rattle.dstm_workload.specs.Entries.{worker_count}
use Rattle.dstm_workload.specs.Known.{IsKnown, with_entry, known_with, layout_of, jobs_in}
use Rattle.dstm_workload.proofs.EntryLaws.{Comes, Told, some_worker}
use Rattle.dstm_workload.proofs.KnownLaws.{known_stays}
use Rattle.dstm_workload.proofs.TableLaws.{layout_is_valid}

-- ---- jobs on rising lines

rise_more : (xs : List ℕ) (m : ℕ) → IsStrictlyIncreasing xs → All (λ x. x < m) xs → IsStrictlyIncreasing (xs ++ m ∷ [])
rise_more xs m rise below k lt = grind (arith, common_steps, rise k, below k 0)

-- a job that is right for these workers, this layout and this version
pub record IsGood (version workers : ℕ) (layout : Layout) (job : Job) : Type 0 where
  pub worker : job.worker < workers
  pub ops : AreOperations version layout job.ops

abbrev AllGood : Option ℕ → Known → List Job → Type 0
AllGood None known jobs = jobs ≡ []
AllGood (Some version) known jobs = All (IsGood version (worker_count known) (layout_of known)) jobs

-- the jobs of the lines before this one, with what is known from them
pub record SoFar (known : Known) (line : ℕ) (jobs : List Job) : Type 0 where
  pub valid : IsKnown known
  count : known.transactions ≡ length jobs
  good : AllGood known.version known jobs
  rise : IsStrictlyIncreasing (lines_of_jobs jobs)
  below : All (λ n. n < line) (lines_of_jobs jobs)

pub none_so_far : (known : Known) (line : ℕ) → IsKnown known → known.transactions ≡ 0 → SoFar known line []
none_so_far known line valid early =
    let good = none known.version in
    let rise : IsStrictlyIncreasing [] = λ k lt. absurd (omega arith) in
    let below = All-nil (λ n. n < line) in search
  where
    none : (version : Option ℕ) → AllGood version known []
    none None = refl
    none (Some version) = All-nil (IsGood version (worker_count known) (layout_of known))

later : (line : ℕ) (lines : List ℕ) → All (λ n. n < line) lines → All (λ n. n < line + 1) lines
later line lines below = All-weaker (λ n. n < line) (λ n. n < line + 1) (λ n lt. omega arith) lines below

-- a line that tells no transaction
declared : (known next : Known) (line : ℕ) (jobs : List Job) → SoFar known line jobs → IsKnown next →
    known.transactions ≡ 0 → next.transactions ≡ 0 → SoFar next (line + 1) (jobs ++ [])
declared known next line jobs so_far valid early still =
    rw (none jobs (sym so_far.count ∙ early)) (none_so_far next (line + 1) valid still)
  where
    none : (js : List Job) → length js ≡ 0 → js ≡ []
    none [] is = refl
    none (j ∷ js) is = absurd (omega arith)

entry_on : (known : Known) (line : ℕ) (jobs : List Job) (o : Option ℕ) (e : Entry) → known.version ≡ o →
    SoFar known line jobs → Comes o known line e → AllGood o known jobs →
    SoFar (with_entry known e) (line + 1) (jobs ++ jobs_in (Some e))
entry_on known line jobs None (entry.Version v) versioned so_far comes none =
    let early = so_far.count ∙ ap length none in
    declared known (with_entry known (entry.Version v)) line jobs so_far
    (known_stays known line None (entry.Version v) so_far.valid comes) early early
entry_on known line jobs None other versioned so_far comes none = absurd comes
entry_on known line jobs (Some version) (entry.Version v) versioned so_far comes good = absurd comes
entry_on known line jobs (Some version) (entry.Transaction job) versioned so_far comes good =
    let lines = lines_of_jobs jobs in
    let last = map-append (λ j. j.line) jobs (job ∷ []) in
    record {
      valid = known_stays known line (Some version) (entry.Transaction job) so_far.valid comes;
      count = omega (arith, so_far.count, length-append jobs (job ∷ []));
      good = rw versioned (All-push (IsGood version (worker_count known) (layout_of known)) jobs job good search);
      rise = rw last (rise_more lines job.line so_far.rise (rw comes.line_is so_far.below));
      below = rw last (All-push (λ n. n < line + 1) lines job.line (later line lines so_far.below)
          (omega (arith, comes.line_is)));
    }
entry_on known line jobs (Some version) other versioned so_far comes good =
    declared known (with_entry known other) line jobs so_far
    (known_stays known line (Some version) other so_far.valid comes) comes.0 comes.0

pub line_on : (known : Known) (line : ℕ) (jobs : List Job) (text : List ℕ) (told : Option Entry) →
    SoFar known line jobs → Told known line text told →
    SoFar (known_with known told) (line + 1) (jobs ++ jobs_in told)
line_on known line jobs text (Some e) so_far tells =
    entry_on known line jobs known.version e refl so_far tells.1.0 so_far.good
line_on known line jobs text None so_far tells =
    let below = later line (lines_of_jobs jobs) so_far.below in rw (append-nil jobs) search

-- ---- the workload

pub so_far_valid : {known : Known} {line : ℕ} {jobs : List Job} {v : ℕ} → SoFar known line jobs →
    known.version ≡ Some v →
    IsValidWorkload (record { version = v; workers = worker_count known; layout = layout_of known; jobs = jobs })
so_far_valid {known} all versioned =
    let range = rw versioned at all.valid.version in
    let workers = some_worker known all.valid in
    record {
      oldest = range.0;
      newest = range.1;
      some_worker = workers.0;
      workers = workers.1;
      layout = layout_is_valid known all.valid;
      few = omega (arith, all.count, all.valid.few);
      rising = all.rise;
      each = λ k d lt. let good = (rw versioned at all.good) k d lt in search;
    }
