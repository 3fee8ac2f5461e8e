-- The lines read so far, and those that are left.
use Rattle.std.proofs.Common.{◌≡◌, ℕ, ◌+◌, List, [], ◌∷◌, ◌++◌, length, Option, Some, None, Result, Ok, Err, refl, sym}
use Rattle.std.proofs.Common.{ap, ◌∙◌, arith, append_assoc, append-nil, length-append}
use Rattle.std.specs.Option.{ok_or}
use Rattle.dstm_workload.specs.declared.{refused.Refused.Refused, refused.Why.TheVariants.Header, known.Known.Known}
use Rattle.dstm_workload.specs.declared.refused.Why.{Why}
use Rattle.dstm_workload.specs.declared.{workload.Job.Job, refused.WorkloadError.WorkloadError}
use Rattle.dstm_workload.specs.Entry.{Entry}
use Rattle.dstm_workload.specs.Entry as entry
use Rattle.dstm_workload.specs.declared.refused.WorkloadError.TheVariants as errors
use Rattle.dstm_workload.specs.Answers.{refused, Fails}
use Rattle.dstm_workload.specs.Entries.{entry_of, worker_count}
use Rattle.dstm_workload.specs.Known.{nothing_known, known_with, jobs_in, layout_of, kept, kept_if_told}
use Rattle.dstm_workload.specs.Reading.{known_of, line_tells, onto, jobs_after, workload_with, made_of, workload_of}
use Rattle.dstm_workload.proofs.ReadLaws.{same_Ok}
use Rattle.dstm_workload.proofs.EntryLaws.{line_ok}
use Rattle.dstm_workload.proofs.KnownLaws.{known_told}
use Rattle.dstm_workload.proofs.ValidLaws.{SoFar, none_so_far, line_on}

-- what is known are the declarations among the lines so far, and the jobs are theirs
pub record ReadTo (all left : List (List ℕ)) (known : Known) (line : ℕ) (jobs : List Job) : Type 0 where
  pub before : List (List ℕ)
  pub are : before ++ left ≡ all
  pub known_is : known ≡ known_of before
  pub so_far : SoFar known line jobs
  pub line_is : line ≡ length before + 1
  pub jobs_are : onto jobs (jobs_after before left) ≡ jobs_after [] all

onto_nothing : (read : Result (List Job) Refused) → onto [] read ≡ read
onto_nothing read = grind arith

onto_both : (front jobs : List Job) (read : Result (List Job) Refused) →
    onto front (onto jobs read) ≡ onto (front ++ jobs) read
onto_both front jobs read = grind (arith, append_assoc {A = Job})

pub begun : (all : List (List ℕ)) → ReadTo all all nothing_known 1 []
begun all = record {
  before = [];
  are = refl;
  known_is = refl;
  so_far = none_so_far nothing_known 1 (search arith) refl;
  line_is = refl;
  jobs_are = onto_nothing (jobs_after [] all);
}

pub goes_on : {all left : List (List ℕ)} {text : List ℕ} {known : Known} {line : ℕ} {jobs : List Job} →
    ReadTo all (text ∷ left) known line jobs → {told : Option Entry} → entry_of known line text ≡ Ok told →
    ReadTo all left (known_with known told) (line + 1) (jobs ++ jobs_in told)
goes_on {all} {left} {text} {known} {line} {jobs} read {told} is =
    let next = read.before ++ text ∷ [] in
    let tells = line_ok known read.so_far.valid line text told is in
    let here : line_tells read.before text ≡ Ok told = rw (← read.known_is, ← read.line_is) is in
    record {
      before = next;
      are = append_assoc read.before (text ∷ []) left ∙ read.are;
      known_is = rw read.known_is (sym (known_told read.before line text told (rw (← read.known_is) tells)));
      so_far = line_on known line jobs text told read.so_far tells;
      line_is = omega (arith, read.line_is, length-append read.before (text ∷ []));
      jobs_are = sym (onto_both jobs (jobs_in told) (jobs_after next left)) ∙ (rw here at read.jobs_are);
    }

-- what is kept when a line has told this
kept_is : (known : Known) (jobs : List Job) (e : Entry) →
    kept known jobs e ≡ (known_with known (Some e), jobs ++ jobs_in (Some e))
kept_is known jobs (entry.Transaction job) = refl
kept_is known jobs other = ap (λ (js : List Job). (known_with known (Some other), js)) (sym (append-nil jobs))

kept_as : (known : Known) (jobs : List Job) (told : Result (Option Entry) Why) (next : Known) (more : List Job) →
    kept_if_told known jobs told ≡ Ok (next, more) →
    (t : Option Entry) × (told ≡ Ok t) × (next ≡ known_with known t) × (more ≡ jobs ++ jobs_in t)
kept_as known jobs (Ok None) next more is =
    let same = sym (same_Ok (known, jobs) (next, more) is) in (
      None,
      refl,
      ap (λ (k : Known × List Job). k.0) same,
      ap (λ (k : Known × List Job). k.1) same ∙ sym (append-nil jobs),
    )
kept_as known jobs (Ok (Some e)) next more is =
    let same = sym (same_Ok (kept known jobs e) (next, more) is) ∙ kept_is known jobs e in
    (Some e, refl, ap (λ (k : Known × List Job). k.0) same, ap (λ (k : Known × List Job). k.1) same)
kept_as known jobs (Err why) next more is = cc

told_on : {all left : List (List ℕ)} {text : List ℕ} {known next : Known} {line : ℕ} {jobs more : List Job} →
    {told : Option Entry} → ReadTo all (text ∷ left) known line jobs → entry_of known line text ≡ Ok told →
    next ≡ known_with known told → more ≡ jobs ++ jobs_in told → ReadTo all left next (line + 1) more
told_on read is known_is jobs_are = rw (known_is, jobs_are) (goes_on read is)

pub kept_on : {all left : List (List ℕ)} {text : List ℕ} {known next : Known} {line : ℕ} {jobs more : List Job} →
    ReadTo all (text ∷ left) known line jobs → kept_if_told known jobs (entry_of known line text) ≡ Ok (next, more) →
    ReadTo all left next (line + 1) more
kept_on {text = text} {known = known} {next = next} {line = line} {jobs = jobs} {more = more} read is =
    let told = kept_as known jobs (entry_of known line text) next more is in
    told_on read told.1 told.2 told.3

-- ---- the whole text

pub fails_alike : (lines : List (List ℕ)) (e : WorkloadError) → Fails e (jobs_after [] lines) →
    Fails e (workload_of lines)
fails_alike lines (errors.Memory m) fails = tt
fails_alike lines (errors.Refused r) fails = ap (made_of lines) fails

module _ (lines : List (List ℕ)) (known : Known) (jobs : List Job) (read : jobs_after [] lines ≡ Ok jobs)
    (told : known ≡ known_of lines) where
  read_as : workload_of lines ≡ workload_with (length lines) known.version known jobs
  read_as = rw (read, told)

  pub headless : (after : ℕ) (r : Refused) → known.version ≡ None → after ≡ length lines + 1 →
      ◌≡◌ {A = Result ℕ Refused} (Err r) (ok_or known.version (refused after Header)) → workload_of lines ≡ Err r
  headless after r none place given = grind (arith, read_as)

  pub versioned : (v : ℕ) → known.version ≡ Some v → workload_of lines
      ≡ Ok (record { version = v; workers = worker_count known; layout = layout_of known; jobs = jobs })
  versioned v some = read_as ∙ rw some
