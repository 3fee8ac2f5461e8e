-- A worker that has run some of its jobs.
use Rattle.std.proofs.Common.{◌≡◌, ◌≢◌, ◌∙◌, ◌⊎◌, ◌<◌, ◌≤◌, ◌++◌, ◌∷◌, ◌==◌, ℕ, suc, zero, Bool, List, [], true, false, Some, refl, sym, ap, subst, inl, inr, arith, length, reverse, get_or, true≢false}
use Rattle.std.specs.Prelude.{◌&&◌, All, Option, not, zip, if◌then◌else◌}
use Rattle.std.specs.List.{slice_get}
use Rattle.std.specs.Option.{option_map}
use Rattle.std.proofs.lemmas.Bool.{cases_eq, cases_lt, eq-eqb, eqb-true, ne_eqb}
use Rattle.std.proofs.lemmas.List.Elements.{All-cons, All-head, All-nil, All-tail, All-weaker}
use Rattle.std.proofs.lemmas.Option.{none-some, same_Some, slice_get-get_or}
use mathlib.Core.List.{reverse-cons}
use Rattle.dstm_model.specs.Answers.{Committed}
use Rattle.dstm_model.specs.declared.layout.Layout.{Layout}
use Rattle.dstm_model.specs.declared.op.Op.{Op}
use Rattle.dstm_model.specs.declared.op.Op.TheVariants.{Transfer, Balance, Total, Insert, Remove, Member, Put, Get, Await, OrElse}
use Rattle.dstm_model.specs.Store.{IsPlain}
use Rattle.dstm_workload.specs.declared.workload.Job.{Job}
use Rattle.dstm_workload.specs.declared.workload.Workload.{Workload}
use Rattle.dstm_workload.specs.Workload.{HasOp, IsJob, IsValidWorkload}
use Rattle.dstm_report.specs.Turns.{job_at}
use Rattle.dstm_options.specs.declared.options.Engine.{Engine}
use Rattle.dstm_options.specs.declared.options.Engine.TheVariants as engines
use Rattle.dstm_options.specs.declared.options.Options.{Options}
use Rattle.dstm_jobs.specs.declared.style.Style.{Style}
use Rattle.dstm_jobs.specs.declared.style.Style.TheVariants.{Plain, Loose, Branches}
use Rattle.dstm_jobs.specs.Tables.{AtRest, Caller, GoesOn}
use Rattle.dstm_jobs.specs.declared.trying.Finished.{Finished}
use Rattle.dstm_jobs.specs.declared.trying.Left.{Left}
use Rattle.dstm_jobs.specs.declared.trying.Left.TheVariants as left
use Rattle.dstm_jobs.specs.Answers.{IsDone, KeepsFew}
use Rattle.dstm_tables.specs.Callers as attempts
use Rattle.dstm_tables.specs.Callers.{begun, done, number_of, round_of}
use Rattle.dstm_jobs.specs.Jobs.{StoodBlocked, Waited, rechecks_by, rechecks_in}
use Rattle.dstm_tables.specs.Tries.{WasNotWasted}
use Rattle.dstm_jobs.specs.Styles.{CanTry, style_of}
use Rattle.dstm_tables.specs.Tells.{HasCommitted, HasFewSights, WasDisturbed, lets_go}
use Rattle.dstm_tables.proofs.Staying.{goes_nowhere, goes_on, same_lets_go}
use Rattle.dstm_records.specs.Records.{IsReleasing, KeepsReads}
use Rattle.dstm_crew.specs.declared.worker.Worker.{Worker}
use Rattle.dstm_crew.specs.Releases.{is_dstm, releases}
use Rattle.dstm_crew.specs.Tries.{HasDone, HasLeft, HasNoneLeft, NoneWastedSince, StaysBlocked}
use Rattle.dstm_crew.specs.Workers.{AreDone, AreLines, HasRun, next_job}
use Rattle.dstm_crew.proofs.Retrying.{earlier}

-- ---- styles

branches_by : (third release : Bool) → (if third then Branches else if release then Loose else Plain) ≡ Branches → third ≡ true
branches_by true release is = refl
branches_by false true is = cc
branches_by false false is = cc

-- only a workload of version 3 is run by branches
pub third_version : (version : ℕ) (release : Bool) → style_of version release ≡ Branches → version ≡ 3
third_version version release is = eqb-true version 3 (branches_by (version == 3) release is)

-- a workload whose reads are given up early is run loosely
pub loose_style : {options : Options} {version : ℕ} → IsReleasing options version →
    style_of version (releases options) ≡ Loose
loose_style {version = version} is =
    let low = is.no_conditions in
    rw (ne_eqb version 3 (λ e. omega arith), is.engine, is.release, is.reads) refl

both_on : (b c d : Bool) → (b && (c && not d)) ≡ true → (b ≡ true) × (c ≡ true) × (d ≡ false)
both_on true true false is = (refl, refl, refl)
both_on true true true is = absurd (true≢false (sym is))
both_on true false d is = absurd (true≢false (sym is))
both_on false c d is = absurd (true≢false (sym is))

by_dstm : (engine : Engine) → is_dstm engine ≡ true → engine ≡ engines.Dstm
by_dstm engines.Dstm is = refl
by_dstm engines.Tl2 is = absurd (true≢false (sym is))

loose_by : (third release : Bool) → (if third then Branches else if release then Loose else Plain) ≡ Loose →
    (third ≡ false) × (release ≡ true)
loose_by true release is = cc
loose_by false true is = (refl, refl)
loose_by false false is = cc

-- one of which no read is given up is not run loosely
pub not_loose : (options : Options) (version : ℕ) {style : Style} → version ≤ 3 →
    style ≡ style_of version (releases options) → KeepsReads options version → style ≢ Loose
not_loose options version newest is keeps loose =
    let by = loose_by (version == 3) (releases options) (sym is ∙ loose) in
    let all = both_on (is_dstm options.engine) options.release options.all_write by.1 in
    keeps (record {
      engine = by_dstm options.engine all.0;
      release = all.1;
      reads = all.2;
      no_conditions = low by.0 (cases_eq version 3);
    })
  where
    low : (version == 3) ≡ false → (version ≡ 3) ⊎ (version ≡ 3 → ⊥) → version ≤ 2
    low other (inl third) = absurd (true≢false (sym (eq-eqb version 3 third) ∙ other))
    low other (inr lower) = omega arith

-- an attempt of the style of a version makes sure beside its opens at a blocked job alone, so only in version 3
rechecks_are : (version : ℕ) (release : Bool) → rechecks_by (style_of version release) 1024 ≡ rechecks_in version
rechecks_are version release = by (version == 3) release
  where
    by : (third release : Bool) → rechecks_by (if third then Branches else if release then Loose else Plain) 1024
        ≡ (if third then 1024 else 0)
    by true release = refl
    by false true = refl
    by false false = refl

-- without conditions all operations are plain
plain_op : (version : ℕ) (op : Op) → version ≤ 2 → HasOp version op → IsPlain op
plain_op version (Transfer a b x) few has = tt
plain_op version (Balance a) few has = tt
plain_op version Total few has = tt
plain_op version (Insert w k) few has = tt
plain_op version (Remove w k) few has = tt
plain_op version (Member w k) few has = tt
plain_op version (Put k v) few has = tt
plain_op version (Get k) few has = tt
plain_op version (Await c) few has = absurd (omega arith)
plain_op version OrElse few has = absurd (omega arith)

pub can_try : (workload : Workload) (release : Bool) (job : Job) → IsValidWorkload workload → IsJob workload job →
    CanTry (style_of workload.version release) workload.layout job
can_try workload release job valid is = record {
  valid = valid.layout;
  fits = is.fits;
  plain = λ other. All-weaker (HasOp workload.version) IsPlain (λ op has. plain_op workload.version op (few other) has) job.ops
      is.version;
}
  where
    few : style_of workload.version release ≢ Branches → workload.version ≤ 2
    few other = by (cases_eq workload.version 3)
      where
        by : (workload.version ≡ 3) ⊎ (workload.version ≡ 3 → ⊥) → workload.version ≤ 2
        by (inl third) = absurd (other (rw (eq-eqb workload.version 3 third) refl))
        by (inr lower) = let newest = valid.newest in omega arith

-- ---- what was done

pub AreDone-push : {layout : Layout} (jobs : List Job) (places : List ℕ) (finished : List Finished)
    (by : List Committed)
    {next : Finished} {last : Committed} (place : ℕ) → length finished < length places →
    place ≡ get_or places (length finished) place → AreDone layout jobs places finished by →
    IsDone layout (job_at jobs place) next last → AreDone layout jobs places (finished ++ next ∷ []) (by ++ last ∷ [])
AreDone-push jobs [] finished by place more at are is = absurd (omega (arith, more))
AreDone-push {layout = layout} jobs (p ∷ places) [] [] {next = next} {last = last} place more at are is =
    (subst (λ (q : ℕ). IsDone layout (job_at jobs q) next last) at is, tt)
AreDone-push jobs (p ∷ places) [] (d ∷ by) place more at are is = absurd are
AreDone-push jobs (p ∷ places) (f ∷ finished) [] place more at are is = absurd are
AreDone-push {layout = layout} jobs (p ∷ places) (f ∷ finished) (d ∷ by) {next = next} {last = last} place more at are
    is =
    (are.0, AreDone-push jobs places finished by place (omega (arith, more)) at are.1 is)

-- the line of one job more
pub lines_push : (jobs : List Job) (places lines : List ℕ) (place : ℕ) → length lines < length places →
    place ≡ get_or places (length lines) place → AreLines jobs places lines →
    AreLines jobs places (lines ++ (job_at jobs place).line ∷ [])
lines_push jobs [] lines place more at are = absurd (omega (arith, more))
lines_push jobs (p ∷ places) [] place more at are = (ap (λ (q : ℕ). (job_at jobs q).line) (sym at), tt)
lines_push jobs (p ∷ places) (l ∷ lines) place more at are =
    (are.0, lines_push jobs places lines place (omega (arith, more)) at are.1)

-- what is kept at a place is the line of the job there
pub line_there : (jobs : List Job) (places lines : List ℕ) (k : ℕ) {line : ℕ} → AreLines jobs places lines →
    slice_get lines k ≡ Some line → line ≡ (job_at jobs (get_or places k 0)).line
line_there jobs places [] k {line = line} are there = absurd (none-some line there)
line_there jobs [] (l ∷ lines) k are there = absurd are
line_there jobs (p ∷ places) (l ∷ lines) zero {line = line} are there = sym (are.0 ∙ same_Some l line there)
line_there jobs (p ∷ places) (l ∷ lines) (suc k) are there = line_there jobs places lines k are.1 there

-- ---- what transactions keep of their reads

-- a transaction keeps few reads for the job at its place
abbrev pub FewAt : List Job → ℕ × Committed → Type 0
FewAt jobs told = KeepsFew (job_at jobs told.0) told.1

none_kept : (jobs : List Job) (places : List ℕ) → All (FewAt jobs) (zip places [])
none_kept jobs [] = All-nil (FewAt jobs)
none_kept jobs (place ∷ places) = All-nil (FewAt jobs)

few-push : (layout : Layout) (jobs : List Job) (places : List ℕ) (finished : List Finished) (by : List Committed)
    (last : Committed) (place : ℕ) → length finished < length places → place ≡ get_or places (length finished) place →
    AreDone layout jobs places finished by → All (FewAt jobs) (zip places by) → KeepsFew (job_at jobs place) last →
    All (FewAt jobs) (zip places (by ++ last ∷ []))
few-push layout jobs [] finished by last place more at are few is = absurd (omega (arith, more))
few-push layout jobs (p ∷ places) [] [] last place more at are few is =
    All-cons (FewAt jobs) (p, last) (zip places []) (subst (λ (q : ℕ). KeepsFew (job_at jobs q) last) at is)
    (none_kept jobs places)
few-push layout jobs (p ∷ places) [] (d ∷ by) last place more at are few is = absurd are
few-push layout jobs (p ∷ places) (f ∷ finished) [] last place more at are few is = absurd are
few-push layout jobs (p ∷ places) (f ∷ finished) (d ∷ by) last place more at are few is =
    All-cons (FewAt jobs) (p, d) (zip places (by ++ last ∷ [])) (All-head (FewAt jobs) (p, d) (zip places by) few)
    (few-push layout jobs places finished by last place (omega (arith, more)) at are.1
    (All-tail (FewAt jobs) (p, d) (zip places by) few) is)

-- ---- where a worker stands after some jobs

pub record Stands (workload : Workload) (style : Style) (k n : Caller) (places : List ℕ)
    (finished : List Finished) : Type 0 where
  pub on : GoesOn k n
  pub none_wasted : NoneWastedSince style k n (begun n)
  pub done : AreDone workload.layout workload.jobs places finished (reverse (done n))
  pub few_reads : style ≡ Loose → lets_go (round_of n) ≡ true →
      All (FewAt workload.jobs) (zip places (reverse (attempts.done n)))

pub at_start : (workload : Workload) (style : Style) {k : Caller} (places : List ℕ) → AtRest k →
    done k ≡ [] → Stands workload style k k places []
at_start workload style {k = k} places rest none = record {
  on = goes_nowhere k rest;
  none_wasted = λ i some few. absurd (omega arith);
  done = subst (λ (ds : List Committed). AreDone workload.layout workload.jobs places [] (reverse ds)) (sym none) tt;
  few_reads = λ loose reads.
      subst (λ (ds : List Committed). All (FewAt workload.jobs) (zip places (reverse ds))) (sym none)
      (none_kept workload.jobs places);
}

-- no attempt was wasted up to some number
then_none : (style : Style) {k n m : Caller} (most : ℕ) → GoesOn k n → GoesOn n m → NoneWastedSince style k n (begun n) →
    NoneWastedSince style n m most → NoneWastedSince style k m most
then_none style {k = k} {n = n} {m = m} most on more first second i after before = by (cases_lt (begun n) i)
  where
    by : (begun n < i) ⊎ (i ≤ begun n) → WasNotWasted (rechecks_by style 1024) m i
    by (inl late) = second i late before
    by (inr early) = earlier style k (begun n) on.rest more (omega arith) first i after early

-- reads are let go on the whole table
same_reads : {n m : Caller} → GoesOn n m → lets_go (round_of m) ≡ true → lets_go (round_of n) ≡ true
same_reads {n = n} {m = m} on reads = sym (same_lets_go n m on) ∙ reads

-- one job more was done
pub one_done : {workload : Workload} {style : Style} {k n m : Caller} {places : List ℕ}
    {finished : List Finished} {next : Finished} {job : Job} (place : ℕ) → Stands workload style k n places finished →
    HasDone style workload.layout job n m next → length finished < length places →
    place ≡ get_or places (length finished) place → job ≡ job_at workload.jobs place →
    Stands workload style k m places (finished ++ next ∷ [])
one_done {workload = workload} {style = style} {k = k} {n = n} {m = m} {places = places} {finished = finished} {next = next} place
    stands was more at is = record {
      on = goes_on k n m stands.on was.on;
      none_wasted = then_none style (begun m) stands.on was.on stands.none_wasted was.none_wasted;
      done =
          subst (AreDone workload.layout workload.jobs places (finished ++ next ∷ []))
          (sym (ap reverse was.newest ∙ reverse-cons was.by (done n)))
          (AreDone-push workload.jobs places finished (reverse (done n)) place more at stands.done
          (subst (λ (j : Job). IsDone workload.layout j next was.by) is was.is));
      few_reads = λ loose reads.
          subst (λ (by : List Committed). All (FewAt workload.jobs) (zip places by))
          (sym (ap reverse was.newest ∙ reverse-cons was.by (done n)))
          (few-push workload.layout workload.jobs places finished (reverse (done n)) was.by place more at stands.done
          (stands.few_reads loose (same_reads was.on reads))
          (subst (λ (j : Job). KeepsFew j was.by) is (was.few_reads loose reads)));
    }

-- ---- a worker that stops

-- the job that is next
pub next_is : (jobs : List Job) (places : List ℕ) (finished : List Finished) {job : Job} (place : ℕ) →
    length finished < length places → place ≡ get_or places (length finished) place → job ≡ job_at jobs place →
    Some job ≡ next_job jobs places finished
next_is jobs places finished place more at is =
    ap Some is
    ∙ ap (option_map (job_at jobs)) (sym (slice_get-get_or places (length finished) place more ∙ ap Some (sym at)))

module _ (workload : Workload) (options : Options) (old new : Worker) (unbegun : begun old.caller ≡ 0)
    {style : Style} (is_style : style ≡ style_of workload.version (releases options))
    (number : new.number ≡ old.number) (places : new.places.items ≡ old.places.items)
    (lines : AreLines workload.jobs new.places.items new.done.lines) where
  abbrev next : Option Job
  next = next_job workload.jobs new.places.items new.done.items

  -- an attempt was not wasted, or it is the last one and stood at the job that is next
  abbrev HadCause : ℕ → Type 0
  HadCause i =
      (HasCommitted (round_of new.caller) (number_of new.caller) i × HasFewSights 0 (round_of new.caller) (number_of new.caller) i)
      ⊎ ((WasDisturbed (round_of new.caller) (number_of new.caller) i
      × HasFewSights (rechecks_in workload.version) (round_of new.caller) (number_of new.caller) i)
      ⊎ ((i ≡ begun new.caller) × Waited workload next (round_of new.caller) (number_of new.caller) i))

  not_wasted : (i : ℕ) → WasNotWasted (rechecks_by style 1024) new.caller i → HadCause i
  not_wasted i (inl committed) = inl committed
  not_wasted i (inr disturbed) =
      inr (inl (
        disturbed.0,
        subst (λ (most : ℕ). HasFewSights most (round_of new.caller) (number_of new.caller) i)
            (ap (λ (s : Style). rechecks_by s 1024) is_style ∙ rechecks_are workload.version (releases options)) disturbed.2,
      ))

  -- as often as by another style of this version
  same_since : (release : Bool) (n : Caller) (most : ℕ) →
      NoneWastedSince (style_of workload.version release) n new.caller most → NoneWastedSince style n new.caller most
  same_since release n most none i after before =
      subst (λ (rechecks : ℕ). WasNotWasted rechecks new.caller i)
      (rechecks_are workload.version release ∙ sym (rechecks_are workload.version (releases options))
      ∙ ap (λ (s : Style). rechecks_by s 1024) (sym is_style)) (none i after before)

  -- it was loose, where reads are given up early
  was_loose : IsReleasing options workload.version → style ≡ Loose
  was_loose releasing = is_style ∙ loose_style releasing

  -- what it kept before its last attempts, which committed nothing
  same_few : {n : Caller} → Stands workload style old.caller n new.places.items new.done.items →
      GoesOn n new.caller → done new.caller ≡ done n → IsReleasing options workload.version →
      lets_go (round_of new.caller) ≡ true →
      All (FewAt workload.jobs) (zip new.places.items (reverse (done new.caller)))
  same_few {n = n} stands on same releasing reads =
      subst (λ (ds : List Committed). All (FewAt workload.jobs) (zip new.places.items (reverse ds))) (sym same)
      (stands.few_reads (was_loose releasing) (same_reads on reads))

  -- and those did what they had done
  still_done : {n : Caller} → Stands workload style old.caller n new.places.items new.done.items →
      done new.caller ≡ done n →
      AreDone workload.layout workload.jobs new.places.items new.done.items (reverse (done new.caller))
  still_done stands same =
      subst (λ (ds : List Committed). AreDone workload.layout workload.jobs new.places.items new.done.items (reverse ds))
      (sym same) stands.done

  -- all its jobs are done
  pub all_done : Stands workload style old.caller new.caller new.places.items new.done.items →
      length new.done.items ≡ length new.places.items → HasRun workload options old new
  all_done stands all = record {
    number = number;
    places = places;
    on = stands.on;
    done = stands.done;
    lines = lines;
    none_wasted = λ i some few. not_wasted i (stands.none_wasted i (omega arith) few);
    left = λ few. absurd (omega arith);
    few_reads = λ releasing. stands.few_reads (was_loose releasing);
  }

  -- no attempt is left
  pub stopped_spent : {n : Caller} (release : Bool) → Stands workload style old.caller n new.places.items new.done.items →
      HasNoneLeft (style_of workload.version release) n new.caller → HasRun workload options old new
  stopped_spent {n = n} release stands was = record {
    number = number;
    places = places;
    on = goes_on old.caller n new.caller stands.on was.on;
    done = still_done stands was.same_done;
    lines = lines;
    none_wasted = λ i some few.
        not_wasted i (then_none style (begun new.caller) stands.on was.on stands.none_wasted
        (same_since release n (begun new.caller) was.none_wasted) i (omega arith) few);
    left = λ few. inl was.spent;
    few_reads = same_few stands was.on was.same_done;
  }

  -- its last attempt stood at the job that is next
  pub stopped_blocked : {n : Caller} (release : Bool) {job : Job} →
      Stands workload style old.caller n new.places.items new.done.items →
      StaysBlocked (style_of workload.version release) workload.layout job n new.caller →
      Some job ≡ next_job workload.jobs new.places.items new.done.items → HasRun workload options old new
  stopped_blocked {n = n} release stands was is = record {
    number = number;
    places = places;
    on = goes_on old.caller n new.caller stands.on was.on;
    done = still_done stands was.same_done;
    lines = lines;
    none_wasted = λ i some few. by i some few (cases_eq i (begun new.caller));
    left = λ few. inr (let b = was.is_last in omega arith, waited);
    few_reads = same_few stands was.on was.same_done;
  }
    where
      waited : Waited workload next (round_of new.caller) (number_of new.caller) (begun new.caller)
      waited = record {
        version = third_version workload.version release was.branches;
        stood =
            subst (StoodBlocked workload.layout (round_of new.caller) (number_of new.caller)
            (begun new.caller)) is was.stood;
      }

      by : (i : ℕ) → 0 < i → i ≤ (begun new.caller) →
          (i ≡ (begun new.caller)) ⊎ (i ≡ (begun new.caller) → ⊥) → HadCause i
      by i some few (inl last) =
          inr (inr (last, subst (Waited workload next (round_of new.caller) (number_of new.caller)) (sym last) waited))
      by i some few (inr other) =
          not_wasted i (then_none style was.last stands.on was.on stands.none_wasted
          (same_since release n was.last was.none_wasted) i
          (omega arith) (let b = was.is_last in omega arith))

  -- why ever it left the job that is next
  pub stopped : {n : Caller} (release : Bool) (job : Job) (why : Left) →
      Stands workload style old.caller n new.places.items new.done.items →
      HasLeft (style_of workload.version release) workload.layout job n new.caller why →
      Some job ≡ next_job workload.jobs new.places.items new.done.items → HasRun workload options old new
  stopped {n = n} release job left.Spent stands was is = stopped_spent release stands was
  stopped {n = n} release job left.Blocked stands was is = stopped_blocked release stands was is
