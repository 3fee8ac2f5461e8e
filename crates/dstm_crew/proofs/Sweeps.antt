-- The steps of an alone round.
use Rattle.std.proofs.Common.{◌≡◌, ◌≢◌, ◌⊎◌, ℕ, suc, ◌+◌, ◌-◌, ◌<◌, ◌≤◌, Bool, true, false, cond, eqb, List, [], ◌∷◌, ◌++◌, length, reverse, Option, None, Some, refl, ap, sym, subst, ◌∙◌, inl, inr, arith, append_assoc, true≢false}
use Rattle.std.specs.Prelude.{IfSome, All, ◌==◌, ◌&&◌, not, filter, zip, if◌then◌else◌}
use Rattle.std.specs.List.{AllByRecursion, range_with_len}
use Rattle.std.proofs.lemmas.Bool.{cases_eq, ne_eqb, cases_lt}
use Rattle.std.proofs.lemmas.List.Filters.{length-filter_both}
use Rattle.std.proofs.lemmas.List.FromFn.{length-range_with_len}
use Rattle.std.proofs.lemmas.List.{append-nil, length-append}
use Rattle.std.proofs.lemmas.List.Elements.{filter-append, recursion_from_All, All-from_recursion, All-append, All-weaker}
use mathlib.Core.List.{reverse-cons}
use Rattle.dstm_model.specs.Job.{apply_job}
use Rattle.dstm_model.specs.declared.reply.Reply.{Reply}
use Rattle.dstm_model.specs.declared.reply.Reply.TheVariants.{Never}
use Rattle.dstm_model.specs.declared.value.Val.{Val}
use Rattle.dstm_model.specs.Answers.{Committed}
use Rattle.dstm_store.specs.declared.law.StoreLaw.{StoreLaw}
use Rattle.dstm_store.specs.Whole.{StandsFor}
use Rattle.dstm_workload.specs.declared.workload.Job.{Job}
use Rattle.dstm_workload.specs.declared.workload.Workload.{Workload}
use Rattle.dstm_report.specs.declared.report.Row.{Row}
use Rattle.dstm_report.specs.Lawful.{first_job, jobs_left, store_after}
use Rattle.dstm_report.specs.Turns.{Turning, without_first}
use Rattle.dstm_workload.specs.Workload.{IsJob, IsValidWorkload}
use Rattle.dstm_report.proofs.Rising.{all_blocked, each-filter, first_holds, rise_all, someone, turn_ends}
use Rattle.dstm_options.specs.declared.options.Options.{Options}
use Rattle.dstm_records.specs.Records.{AreRising, IsReleasing, KeepsFewReads, WasAsked, count_done, is_blocked, is_given_up, most_tries}
use Rattle.dstm_records.specs.Rounds.{attempts_for, has_job, is_parallel, left_by, workers_left}
use Rattle.std.proofs.lemmas.Option.{none-some, same_Some}
use Rattle.dstm_jobs.specs.Answers.{IsAnsweredBy, KeepsFew}
use Rattle.dstm_tables.specs.Tells.{CannotBegin, IsSpent, WasSighted, all_done, attempts_of, callers_of, committed_of, done_of, entries_of, start_of, used_by}
use Rattle.dstm_tables.proofs.Entries.{entries_push}
use Rattle.dstm_tables.proofs.History.{is_history}
use Rattle.dstm_model.specs.Map.{Agrees, IsLegal}
use Rattle.dstm_records.specs.Told.{AreTold, IsGivenUp, IsTold}
use Rattle.dstm_records.proofs.Collecting.{Collected}
use Rattle.dstm_records.proofs.Follows.{agrees_next, answers_there}
use Rattle.dstm_records.proofs.Replies.{not_given_up}
use Rattle.dstm_records.proofs.Told.{AreTold-push, rows_told, turn_names}
use Rattle.dstm_jobs.specs.Tables.{AtRest, Caller, GoesOn, IsSpentFrom, OneMore, Table}
use Rattle.dstm_tables.specs.Callers.{done, number_of, round_of}
use Rattle.dstm_tables.specs.Callers as callers
use Rattle.dstm_jobs.specs.Jobs.{DidJob}
use Rattle.dstm_jobs.specs.OnlyCallers.{HasGivenUp, StoodAlone, left_by as values_left}
use Rattle.dstm_tables.proofs.Staying.{few_begun, few_given, goes_nowhere, goes_on, same_attempts, same_lets_go, sighted_later}
use Rattle.dstm_tables.proofs.Same.{callers_same, can_begin, law_same, locators_same, number_below, only_tells_all, start_same, writes_same}
use Rattle.dstm_jobs.specs.declared.style.Style.{Style}
use Rattle.dstm_jobs.specs.declared.style.Style.TheVariants.{Branches, Loose, Plain}
use Rattle.dstm_jobs.specs.Styles.{style_of}
use Rattle.dstm_jobs.specs.declared.trying.Finished.{Finished}
use Rattle.dstm_crew.specs.Alone.{CanRunAlone, blocked_so_far, Goes, HasRunAlone, Leads, MayStep, Passes, Sweeps, is_done, still_waiting}
use Rattle.dstm_crew.specs.declared.sweeping.Swept.{Swept}
use Rattle.dstm_crew.specs.declared.sweeping.Swept.TheVariants as swept
use Rattle.dstm_records.specs.Running.{turns_behind}
use Rattle.dstm_crew.proofs.Asking.{asked_blocked, asked_more, blocked_now, has_first, keeps_job, row_done, so_far_blocked, so_far_grows, so_far_row, tries_are_few}
use Rattle.dstm_jobs.specs.Law.{keeps}

-- ---- how many jobs of a worker were done

count_push : (worker : ℕ) (rows : List Row) (row : Row) →
    count_done worker (rows ++ row ∷ []) ≡ count_done worker rows + count_done worker (row ∷ [])
count_push worker rows row =
    ap length (filter-append (λ (r : Row). (r.worker == worker) && not (is_given_up r.replies)) rows (row ∷ []))
    ∙ length-append (filter (λ (r : Row). (r.worker == worker) && not (is_given_up r.replies)) rows)
    (filter (λ (r : Row). (r.worker == worker) && not (is_given_up r.replies)) (row ∷ []))

count_other : (worker : ℕ) (row : Row) → row.worker ≢ worker → count_done worker (row ∷ []) ≡ 0
count_other worker row other = rw (ne_eqb row.worker worker other) refl

count_given : (worker : ℕ) (row : Row) → row.replies ≡ Never ∷ [] → count_done worker (row ∷ []) ≡ 0
count_given worker row given = by (row.worker == worker) (is_given_up row.replies) (ap is_given_up given)
  where
    by : (a b : Bool) → b ≡ true → length (cond (a && not b) (row ∷ []) []) ≡ 0
    by false b is = refl
    by true true is = refl
    by true false is = absurd (true≢false (sym is))

count_one : (worker : ℕ) (row : Row) → count_done worker (row ∷ []) ≤ 1
count_one worker row = by ((row.worker == worker) && not (is_given_up row.replies))
  where
    by : (b : Bool) → length (cond b (row ∷ []) []) ≤ 1
    by true = omega arith
    by false = omega arith

-- ---- in which order rows stand

rising_push : (rows : List Row) (row : Row) → AreRising rows → AllByRecursion (λ r. r.worker < row.worker) rows →
    AreRising (rows ++ row ∷ [])
rising_push [] row rising below = (All-from_recursion (λ (later : Row). row.worker < later.worker) [] tt, tt)
rising_push (r ∷ rows) row rising below = (
  All-append (λ (later : Row). r.worker < later.worker) rows (row ∷ []) rising.0
      (All-from_recursion (λ (later : Row). r.worker < later.worker) (row ∷ []) (below.0, tt)),
  rising_push rows row rising.1 below.1,
)

-- no row
passes_first : Passes [] 0 false
passes_first = record {
  order = record {
    given_up = [];
    pass = [];
    are = refl;
    all_given_up = All-from_recursion (λ (r : Row). is_given_up r.replies ≡ true) [] tt;
    all_done = All-from_recursion (λ (r : Row). is_given_up r.replies ≡ false) [] tt;
    rising = tt;
  };
  below = All-from_recursion (λ (r : Row). r.worker < 0) [] tt;
  none_yet = λ none. refl;
  has_some = λ yes. absurd (true≢false (sym yes));
}

below_next : (w : ℕ) (rows : List Row) → All (λ row. row.worker < w) rows → All (λ row. row.worker < w + 1) rows
below_next w rows below =
    All-weaker (λ (r : Row). r.worker < w) (λ (r : Row). r.worker < w + 1) (λ r less. omega (arith, less)) rows below

-- the next worker's turn
passes_on : {rows : List Row} {w : ℕ} {some : Bool} → Passes rows w some → Passes rows (w + 1) some
passes_on {w = w} p = record {
  order = p.order;
  below = below_next w p.order.pass p.below;
  none_yet = p.none_yet;
  has_some = p.has_some;
}

-- a job was done
passes_done : {rows : List Row} {w : ℕ} {some : Bool} (row : Row) → row.worker ≡ w → is_given_up row.replies ≡ false →
    Passes rows w some → Passes (rows ++ row ∷ []) (w + 1) true
passes_done {w = w} row worker kept p = record {
  order = record {
    given_up = p.order.given_up;
    pass = p.order.pass ++ row ∷ [];
    are = ap (λ (rs : List Row). rs ++ row ∷ []) p.order.are ∙ append_assoc p.order.given_up p.order.pass (row ∷ []);
    all_given_up = p.order.all_given_up;
    all_done = All-append (λ (r : Row). is_given_up r.replies ≡ false) p.order.pass (row ∷ []) p.order.all_done
        (All-from_recursion (λ (r : Row). is_given_up r.replies ≡ false) (row ∷ []) (kept, tt));
    rising = rising_push p.order.pass row p.order.rising
        (recursion_from_All (λ (r : Row). r.worker < row.worker) p.order.pass
        (subst (λ (v : ℕ). All (λ (r : Row). r.worker < v) p.order.pass) (sym worker) p.below));
  };
  below = All-append (λ (r : Row). r.worker < w + 1) p.order.pass (row ∷ [])
      (below_next w p.order.pass p.below)
      (All-from_recursion (λ (r : Row). r.worker < w + 1) (row ∷ []) (omega (arith, worker), tt));
  none_yet = λ none. absurd (true≢false none);
  has_some = λ yes. let n = length-append p.order.pass (row ∷ []) in omega (arith, n);
}

-- where none was done, a job was given up
passes_given : {rows : List Row} {w : ℕ} (row : Row) → is_given_up row.replies ≡ true → Passes rows w false →
    Passes (rows ++ row ∷ []) 0 false
passes_given row given p = record {
  order = record {
    given_up = p.order.given_up ++ row ∷ [];
    pass = [];
    are = ap (λ (rs : List Row). rs ++ row ∷ [])
        (p.order.are ∙ ap (λ (rs : List Row). p.order.given_up ++ rs) (p.none_yet refl) ∙ append-nil p.order.given_up)
        ∙ sym (append-nil (p.order.given_up ++ row ∷ []));
    all_given_up = All-append (λ (r : Row). is_given_up r.replies ≡ true) p.order.given_up (row ∷ [])
        p.order.all_given_up (All-from_recursion (λ (r : Row). is_given_up r.replies ≡ true) (row ∷ []) (given, tt));
    all_done = All-from_recursion (λ (r : Row). is_given_up r.replies ≡ false) [] tt;
    rising = tt;
  };
  below = All-from_recursion (λ (r : Row). r.worker < 0) [] tt;
  none_yet = λ none. refl;
  has_some = λ yes. absurd (true≢false (sym yes));
}

-- ---- what rows keep of their reads

-- one row more
few_push : (workload : Workload) (before now : List Row) (row : Row) (ds : List Committed) (by : Committed) →
    AreTold workload before now ds → AllByRecursion (KeepsFewReads workload) (zip now ds) →
    KeepsFewReads workload (row, by) → AllByRecursion (KeepsFewReads workload) (zip (now ++ row ∷ []) (ds ++ by ∷ []))
few_push workload before [] row [] by told all few = (few, tt)
few_push workload before [] row (d ∷ ds) by told all few = absurd told
few_push workload before (r ∷ now) row [] by told all few = absurd told
few_push workload before (r ∷ now) row (d ∷ ds) by told all few =
    (all.0, few_push workload (before ++ r ∷ []) now row ds by told.1 all.1 few)

-- a transaction that read nothing keeps few reads
none_read : (workload : Workload) (row : Row) (by : Committed) → by.entry.reads ≡ [] → KeepsFewReads workload (row, by)
none_read workload row by none job named on_list = let n = ap length none in omega (arith, n)

-- ---- jobs that are left

-- where no worker has a first job none is left
no_job : (workers : ℕ) (left : List Job) → All (λ job. job.worker < workers) left →
    ((v : ℕ) → v < workers → first_job v left ≡ None) → left ≡ []
no_job workers [] small none = refl
no_job workers (job ∷ left) small none = absurd (someone workers (job ∷ left) (omega arith) small none)

-- ---- the store that the caller's transactions have left

-- the only caller has the number 0
number_zero : {k : Caller} → AtRest k → callers_of (round_of k) ≡ 1 → number_of k ≡ 0
number_zero {k = k} rest only = let below = number_below k rest in omega (arith, only, below)

pub told_committed : {k : Caller} → AtRest k → callers_of (round_of k) ≡ 1 → all_done (round_of k) ≡ done k
told_committed {k = k} rest only =
    only_tells_all keeps (round_of k) rest.run only ∙ ap (done_of (round_of k)) (sym (number_zero rest only))

-- how often the attempts of a caller were made sure of
abbrev AreSighted : (k n : Caller) → Type 0
AreSighted k n =
    (i : ℕ) → callers.begun k < i → i ≤ callers.begun n → WasSighted 1 (round_of n) (number_of n) i

-- its last one was made sure of so often
last_sighted : {k n : Caller} → OneMore k n → WasSighted 1 (round_of n) (number_of n) (callers.begun n) → AreSighted k n
last_sighted {n = n} made was i late few =
    subst (WasSighted 1 (round_of n) (number_of n)) (let b = made.begun in omega (arith, b, late, few)) was

-- it has begun none since
none_sighted : (k n : Caller) → callers.begun n ≡ callers.begun k → AreSighted k n
none_sighted k n same i late few = absurd (omega (arith, same, late, few))

-- and so were those before
all_sighted : {k n : Caller} → AtRest k → GoesOn k n →
    ((i : ℕ) → 0 < i → i ≤ callers.begun k → WasSighted 1 (round_of k) (number_of k) i) → AreSighted k n → (i : ℕ) →
    0 < i → i ≤ callers.begun n → WasSighted 1 (round_of n) (number_of n) i
all_sighted {k = k} {n = n} rest on was more i some few = by (cases_lt (callers.begun k) i)
  where
    by : (callers.begun k < i) ⊎ (i ≤ callers.begun k) → WasSighted 1 (round_of n) (number_of n) i
    by (inl late) = more i late few
    by (inr early) =
        sighted_later 1 k n i on some (let range = few_begun k rest in omega (arith, range, early)) (was i some early)

module _ {workload : Workload} {options : Options} {number : ℕ} {table : Table} {first : Caller} {before : List Row}
    {begun : Turning} (can : CanRunAlone workload options number table first before begun) where
  only_of : {k : Caller} → GoesOn first k → callers_of (round_of k) ≡ 1
  only_of {k = k} on = callers_same first k on ∙ can.only

  -- the rows are good, and the store after them is what the caller's transactions have left
  pub collected : {k : Caller} {rows now : List Row} {turns : Turning} →
      Goes workload options number first k before rows now turns →
      Collected workload before now (start_of (round_of k)) (reverse (done k)) []
  collected {k = k} {now = now} goes =
      let only = only_of goes.on in
      let same = told_committed goes.on.rest only in
      subst (λ (ds : List Committed). Collected workload before now (start_of (round_of k)) (reverse ds) []) same
      (rows_told workload before now (round_of k) number can.valid goes.on.rest.run
      (recursion_from_All (λ row. row.round < number) before can.earlier)
      (subst (λ (vs : List Val). StandsFor workload.layout vs (store_after workload before))
      (sym (start_same first k goes.on)) can.stands)
      (subst (λ (ds : List Committed). AreTold workload before now (reverse ds)) (sym same) goes.told)
      (recursion_from_All (λ row. row.round ≡ number) now goes.in_round))

  stands_now : {k : Caller} {rows now : List Row} {turns : Turning} →
      Goes workload options number first k before rows now turns →
      StandsFor workload.layout (values_left k) (store_after workload rows)
  stands_now {k = k} {rows = rows} {now = now} {turns = turns} goes =
      subst (λ (rs : List Row). StandsFor workload.layout (values_left k) (store_after workload rs)) (sym goes.rows_are)
      (collected goes).stands

  -- ---- one row more

  -- the caller went on and committed nothing
  still : {k n : Caller} {rows now : List Row} {turns : Turning} →
      Goes workload options number first k before rows now turns → GoesOn k n → done n ≡ done k → AreSighted k n →
      Goes workload options number first n before rows now turns
  still {k = k} {n = n} {now = now} goes on same sighted = record {
    rows_are = goes.rows_are;
    turns_are = goes.turns_are;
    on = goes_on first k n goes.on on;
    told = subst (λ (ds : List Committed). AreTold workload before now (reverse ds)) (sym same) goes.told;
    in_round = goes.in_round;
    sighted = all_sighted goes.on.rest on goes.sighted sighted;
    few_reads = λ releasing.
        subst (λ (ds : List Committed). All (KeepsFewReads workload) (zip now (reverse ds))) (sym same)
        (goes.few_reads releasing);
  }

  -- a transaction has committed, and its row was made
  row_goes : {k n : Caller} {rows now : List Row} {turns behind : Turning} (by : Committed) (row : Row) (job : Job) →
      Goes workload options number first k before rows now turns → OneMore k n → done n ≡ by ∷ done k →
      WasSighted 1 (round_of n) (number_of n) (callers.begun n) → first_job row.worker turns.left ≡ Some job →
      row.line ≡ job.line → row.round ≡ number → row.number ≡ by.number →
      (IsAnsweredBy workload.layout job.ops row.replies by.entry ⊎ IsGivenUp workload rows row by) →
      (IsReleasing options workload.version → KeepsFewReads workload (row, by)) →
      behind ≡ record turns { left = without_first row.worker turns.left } →
      Goes workload options number first n before (rows ++ row ∷ []) (now ++ row ∷ []) behind
  row_goes {k = k} {n = n} {rows = rows} {now = now} {turns = turns} by row job goes made newest sighted turn line round
      drew answer few turned =
      let left : turns.left ≡ jobs_left workload.jobs rows = ap (λ (t : Turning). t.left) goes.turns_are in
      let turn_there : first_job row.worker (jobs_left workload.jobs rows) ≡ Some job =
      ap (first_job row.worker) (sym left) ∙ turn in
      let told : IsTold workload rows row by =
      record { job = job; turn = turn_there; line = line; number = drew; answer = answer } in
      record {
        rows_are = ap (λ (rs : List Row). rs ++ row ∷ []) goes.rows_are ∙ append_assoc before now (row ∷ []);
        turns_are = turned
            ∙ ap (λ (t : Turning). record { jobs = t.jobs; left = without_first row.worker t.left }) goes.turns_are
            ∙ ap (λ (l : List Job). record { jobs = workload.jobs; left = l })
            (turn_ends workload.jobs rows row job (rise_all workload.jobs can.valid.rising) turn_there line);
        on = goes_on first k n goes.on made.on;
        sighted = all_sighted goes.on.rest made.on goes.sighted (last_sighted made sighted);
        told = subst (AreTold workload before (now ++ row ∷ []))
            (sym (ap reverse newest ∙ reverse-cons by (done k)))
            (AreTold-push workload before now row (reverse (done k)) by goes.told
            (subst (λ (rs : List Row). IsTold workload rs row by) goes.rows_are told));
        in_round = All-append (λ (r : Row). r.round ≡ number) now (row ∷ []) goes.in_round
            (All-from_recursion (λ (r : Row). r.round ≡ number) (row ∷ []) (round, tt));
        few_reads = λ releasing.
            subst (λ (ds : List Committed). All (KeepsFewReads workload) (zip (now ++ row ∷ []) ds))
            (sym (ap reverse newest ∙ reverse-cons by (done k)))
            (All-from_recursion (KeepsFewReads workload) (zip (now ++ row ∷ []) (reverse (done k) ++ by ∷ []))
            (few_push workload before now row (reverse (done k)) by goes.told
            (recursion_from_All (KeepsFewReads workload) (zip now (reverse (done k))) (goes.few_reads releasing))
            (few releasing)));
      }

  -- each job left is of one of the workers
  small_left : (rows : List Row) → All (λ job. job.worker < workload.workers) (jobs_left workload.jobs rows)
  small_left rows =
      All-from_recursion (λ (job : Job). job.worker < workload.workers) (jobs_left workload.jobs rows)
      (each-filter (λ (job : Job). job.worker < workload.workers) _ workload.jobs
      (recursion_from_All (λ (job : Job). job.worker < workload.workers) workload.jobs
      (λ k d lt. (can.valid.each k d lt).worker)))

  -- ---- where a pass stands

  none_in : (rows : List Row) (row : Row) → rows ++ row ∷ [] ≡ [] → ⊥
  none_in rows row is = let n = length-append rows (row ∷ []) in let m = ap length is in omega (arith, n, m)

  -- no worker's job has been tried yet
  pub sweep_begins : Sweeps workload options number first first before before begun 0 false
  sweep_begins = record {
    now = [];
    goes = record {
      rows_are = sym (append-nil before);
      turns_are = can.turns_are;
      on = goes_nowhere first can.rest;
      told = subst (λ (ds : List Committed). AreTold workload before [] (reverse ds)) (sym can.none_done) tt;
      in_round = All-from_recursion (λ (r : Row). r.round ≡ number) [] tt;
      sighted = λ i some few. absurd (let z = can.none_begun in omega (arith, z, some, few));
      few_reads = λ releasing.
          subst (λ (ds : List Committed). All (KeepsFewReads workload) (zip [] (reverse ds))) (sym can.none_done)
          (All-from_recursion (KeepsFewReads workload) [] tt);
    };
    few = λ w below. absurd (omega (arith, below));
    others = λ w past. refl;
    has_row = λ yes. absurd (true≢false (sym yes));
    passes = passes_first;
    none_done = λ none w. refl;
    blocked = λ none w below. absurd (omega (arith, below));
    unused = λ none. can.none_installed;
    few_tries = λ none.
        let z = can.none_begun in
        let all : workload.workers - 0 ≡ workload.workers = omega arith in
        let same = ap (λ n. length (filter (has_job (left_by workload before)) (range_with_len 0 n))) all in
        omega (arith, z, same);
    asked = λ w below has. inr (omega arith, has);
    attempts = let z = can.none_begun in omega (arith, z);
  }

  -- the workers that are still waiting behind a worker
  waiting_less : (w : ℕ) (left : List Job) → w < workload.workers →
      length (still_waiting workload (w + 1) left) ≤ length (still_waiting workload w left)
  waiting_less w left below =
      let next : workload.workers - w ≡ suc (workload.workers - (w + 1)) = omega (arith, below) in
      subst (λ n. length (still_waiting workload (w + 1) left) ≤ length (filter (has_job left) (range_with_len w n))) (sym next)
      (by (has_job left w))
    where
      by : (b : Bool) → length (still_waiting workload (w + 1) left)
          ≤ length (cond b (w ∷ still_waiting workload (w + 1) left) (still_waiting workload (w + 1) left))
      by true = omega arith
      by false = omega arith

  waiting_one : (w : ℕ) (left : List Job) → w < workload.workers → has_job left w ≡ true →
      length (still_waiting workload (w + 1) left) + 1 ≡ length (still_waiting workload w left)
  waiting_one w left below has =
      let next : workload.workers - w ≡ suc (workload.workers - (w + 1)) = omega (arith, below) in
      subst (λ n. length (still_waiting workload (w + 1) left) + 1 ≡ length (filter (has_job left) (range_with_len w n))) (sym next)
      (rw has (omega arith))

  -- after a worker's turn that adds no row
  step_on : {k n : Caller} {rows : List Row} {turns : Turning} {w : ℕ} {some : Bool}
      (s : Sweeps workload options number first k before rows turns w some) →
      Goes workload options number first n before rows s.now turns →
      IfSome (first_job w (left_by workload rows)) (λ job. apply_job job.ops (store_after workload rows) ≡ None) →
      WasAsked workload before s.now w ⊎ (has_job (left_by workload rows) w ≡ true → ⊥) →
      callers.begun n ≤ length s.now + blocked_so_far workload before s.now (w + 1) →
      (s.now ≡ [] → used_by (round_of n) (number_of n) ≡ 0) →
      (s.now ≡ [] → callers.begun n + length (still_waiting workload (w + 1) (left_by workload before))
      ≤ length (workers_left workload before)) → Sweeps workload options number first n before rows turns (w + 1) some
  step_on {rows = rows} {w = w} s goes blocked asked attempts unused few_tries = record {
    now = s.now;
    goes = goes;
    few = λ v below.
        elim (cases_lt v w) [
          | inl before_it ↦ s.few v before_it
          | inr from_it ↦ let zero_ = s.others v from_it in omega (arith, zero_)
        ];
    others = λ v past. s.others v (omega (arith, past));
    has_row = s.has_row;
    passes = passes_on s.passes;
    none_done = s.none_done;
    blocked = λ not_some v below.
        elim (cases_lt v w) [
          | inl before_it ↦ s.blocked not_some v before_it
          | inr from_it ↦
              let is : v ≡ w = omega (arith, below, from_it) in
              subst (λ (u : ℕ). IfSome (first_job u (left_by workload rows))
              (λ job. apply_job job.ops (store_after workload rows) ≡ None)) (sym is) blocked
        ];
    unused = unused;
    few_tries = few_tries;
    asked = λ v below has.
        elim (s.asked v below has) [
          | inl was ↦ inl was
          | inr later ↦
              elim (cases_eq v w) [
                | inl same ↦
                    elim asked [
                      | inl was ↦ inl (subst (WasAsked workload before s.now) (sym same) was)
                      | inr none ↦ absurd (none (ap (has_job (left_by workload rows)) (sym same) ∙ later.1))
                    ]
                | inr other ↦ inr (omega (arith, later.0, other), later.1)
              ]
        ];
    attempts = attempts;
  }

  -- the worker has no job left
  pub step_none : {k : Caller} {rows : List Row} {turns : Turning} {w : ℕ} {some : Bool} → w < workload.workers →
      first_job w turns.left ≡ None → Sweeps workload options number first k before rows turns w some →
      Sweeps workload options number first k before rows turns (w + 1) some
  step_none {k = k} {rows = rows} {turns = turns} {w = w} {some = some} inside none s =
      let left : turns.left ≡ left_by workload rows = ap (λ (t : Turning). t.left) s.goes.turns_are in
      let no_job : first_job w (left_by workload rows) ≡ None = ap (first_job w) (sym left) ∙ none in
      let a = s.attempts in
      let more = so_far_grows workload before s.now w (w + 1) (omega arith) in
      step_on s s.goes
      (subst (λ (o : Option Job). IfSome o (λ job. apply_job job.ops (store_after workload rows) ≡ None)) (sym no_job) tt)
      (inr (λ has. has_first w (left_by workload rows) has no_job)) (omega (arith, a, more)) s.unused
      (λ empty. let t = s.few_tries empty in let l = waiting_less w (left_by workload before) inside in omega (arith, t, l))

  -- a worker whose turn it may be has a job left
  has_turn : (w : ℕ) (left : List Job) (job : Job) → first_job w left ≡ Some job → has_job left w ≡ true
  has_turn w [] job is = absurd (none-some job is)
  has_turn w (one ∷ left) job is = by (eqb one.worker w) refl is (has_turn w left job)
    where
      by : (b : Bool) → b ≡ eqb one.worker w → cond b (Some one) (first_job w left) ≡ Some job →
          (first_job w left ≡ Some job → has_job left w ≡ true) → has_job (one ∷ left) w ≡ true
      by true here is further = rw (sym here) refl
      by false here is further = rw (sym here) (further is)

  -- the job of the worker is blocked
  pub step_blocked : {style : Style} {k n : Caller} {rows : List Row} {turns : Turning} {w : ℕ} {some : Bool}
      {job : Job} → w < workload.workers → (style ≡ Branches → workload.version ≡ 3) →
      first_job w turns.left ≡ Some job → StoodAlone style workload.layout job k n →
      Sweeps workload options number first k before rows turns w some →
      Sweeps workload options number first n before rows turns (w + 1) some
  step_blocked {k = k} {n = n} {rows = rows} {turns = turns} {w = w} {some = some} {job = job} inside third turn stood
      s =
      let goes = still s.goes stood.made.on stood.same_done
      (last_sighted stood.made (inr (
        stood.aborted,
        few_given 1 (round_of n) (number_of n) (callers.begun n) stood.given_up,
      ))) in
      let left : turns.left ≡ jobs_left workload.jobs rows = ap (λ (t : Turning). t.left) s.goes.turns_are in
      let there : first_job w (jobs_left workload.jobs rows) ≡ Some job = ap (first_job w) (sym left) ∙ turn in
      let stuck = stood.blocked (store_after workload rows) (stands_now goes) in
      let blocked : is_blocked workload rows w ≡ true =
      blocked_now workload before s.now w job s.goes.rows_are there stuck in
      let a = s.attempts in
      let more = stood.made.begun in
      let one = so_far_blocked workload before s.now w
      (subst (λ (rs : List Row). is_blocked workload rs w ≡ true) s.goes.rows_are blocked) in
      step_on s goes
      (subst (λ (o : Option Job). IfSome o (λ job. apply_job job.ops (store_after workload rows) ≡ None)) (sym there) stuck)
      (inl (asked_blocked workload before s.now w s.goes.rows_are blocked)) (omega (arith, a, more, one))
      (λ empty. stood.unused (writes_same first k s.goes.on ∙ can.reads (third stood.branches)) ∙ s.unused empty)
      (λ empty.
      let t = s.few_tries empty in
      let rows_is : rows ≡ before = s.goes.rows_are ∙ ap (λ (rs : List Row). before ++ rs) empty ∙ append-nil before in
      let turn_before : first_job w (left_by workload before) ≡ Some job =
      ap (λ (rs : List Row). first_job w (jobs_left workload.jobs rs)) (sym rows_is) ∙ there in
      let one = waiting_one w (left_by workload before) inside (has_turn w (left_by workload before) job turn_before) in
      omega (arith, t, one, more))

  -- what the newest transaction has read is what those before it have left
  agrees_then : {k n : Caller} (by : Committed) → GoesOn first k → GoesOn k n → done n ≡ by ∷ done k →
      Agrees (values_left k) by.entry.reads
  agrees_then {k = k} {n = n} by so_far on newest =
      let only = only_of (goes_on first k n so_far on) in
      let is : entries_of (committed_of (round_of n)) ≡ entries_of (reverse (done k)) ++ by.entry ∷ [] =
      ap (λ (ds : List Committed). entries_of (reverse ds)) (told_committed on.rest only ∙ newest)
      ∙ ap entries_of (reverse-cons by (done k)) ∙ entries_push (reverse (done k)) by in
      agrees_next (start_of (round_of k)) (entries_of (reverse (done k))) by.entry []
      (subst (λ (vs : List Val). IsLegal vs (entries_of (reverse (done k)) ++ by.entry ∷ [])) (start_same k n on)
      (subst (IsLegal (start_of (round_of n))) is (is_history keeps (round_of n) on.rest.run).legal))

  -- the job of the worker was done
  pub step_done : {style : Style} {k n : Caller} {rows : List Row} {turns behind : Turning} {w : ℕ}
      {some : Bool} {job : Job} {finished : Finished} (row : Row) → w < workload.workers →
      (IsReleasing options workload.version → style ≡ Loose) → first_job w turns.left ≡ Some job →
      DidJob style workload.layout job k n finished → row.worker ≡ w → row.line ≡ job.line → row.round ≡ number →
      row.number ≡ finished.number → row.replies ≡ finished.replies →
      behind ≡ record turns { left = without_first row.worker turns.left } →
      Sweeps workload options number first k before rows turns w some →
      Sweeps workload options number first n before (rows ++ row ∷ []) behind (w + 1) true
  step_done {k = k} {n = n} {rows = rows} {turns = turns} {behind = behind} {w = w} {job = job} row inside loose turn
      did worker line round drew replies turned s =
      let answered : IsAnsweredBy workload.layout job.ops row.replies did.by.entry =
      subst (λ (rs : List Reply). IsAnsweredBy workload.layout job.ops rs did.by.entry) (sym replies) did.is.answered in
      let here : first_job row.worker turns.left ≡ Some job = ap (λ v. first_job v turns.left) worker ∙ turn in
      let left : turns.left ≡ jobs_left workload.jobs rows = ap (λ (t : Turning). t.left) s.goes.turns_are in
      let there : first_job row.worker (jobs_left workload.jobs rows) ≡ Some job = ap (first_job row.worker) (sym left) ∙ here in
      let kept : is_given_up row.replies ≡ false = not_given_up job.ops (store_after workload rows) row.replies
      (answers_there workload rows row.replies (values_left k) did.by.entry job (stands_now s.goes)
      (agrees_then did.by s.goes.on did.made.on did.newest) answered) in
      let few : IsReleasing options workload.version → KeepsFewReads workload (row, did.by) = λ releasing other named.
      subst (λ (j : Job). KeepsFew j did.by)
      (same_Some job other (sym (turn_names workload rows row job can.valid there line) ∙ named))
      (did.few_reads (loose releasing)
      (same_lets_go first n (goes_on first k n s.goes.on did.made.on) ∙ can.reads_go releasing)) in
      record {
        now = s.now ++ row ∷ [];
        goes = row_goes did.by row job s.goes did.made did.newest (inl (did.committed, did.few_sights)) here line round
            (drew ∙ did.is.number) (inl answered) few turned;
        passes = passes_done row worker kept s.passes;
        few = λ v below.
            elim (cases_lt v w) [
              | inl before_it ↦
                  let f = s.few v before_it in
                  let p = count_push v s.now row in
                  let z = count_other v row (λ e. omega (arith, worker, e, before_it)) in
                  omega (arith, f, p, z)
              | inr from_it ↦
                  let f = s.others v from_it in
                  let p = count_push v s.now row in
                  let o = count_one v row in
                  omega (arith, f, p, o)
            ];
        others = λ v past.
            let f = s.others v (omega (arith, past)) in
            let p = count_push v s.now row in
            let z = count_other v row (λ e. omega (arith, worker, e, past)) in
            omega (arith, f, p, z);
        has_row = λ yes_. let n_ = length-append s.now (row ∷ []) in omega (arith, n_);
        none_done = λ none_. absurd (true≢false none_);
        blocked = λ none_. absurd (true≢false none_);
        unused = λ empty. absurd (none_in s.now row empty);
        few_tries = λ empty. absurd (none_in s.now row empty);
        asked = λ v below has.
            elim (cases_eq v w) [
              | inl same ↦
                  let one = row_done v row (worker ∙ sym same) kept in
                  let p = count_push v s.now row in
                  inl (inl (omega (arith, one, p)))
              | inr other ↦
                  elim (s.asked v below has) [
                    | inl was ↦ inl (asked_more workload before s.now row v (count_push v s.now row) was)
                    | inr later ↦ inr (
                      omega (arith, later.0, other),
                      subst (λ (l : List Job). has_job l v ≡ true)
                          (turn_ends workload.jobs rows row job (rise_all workload.jobs can.valid.rising) there line)
                          (keeps_job row.worker v (jobs_left workload.jobs rows) (λ e. other (sym e ∙ worker)) later.1),
                    )
                  ]
            ];
        attempts =
            let a = s.attempts in
            let more = did.made.begun in
            let n_ = length-append s.now (row ∷ []) in
            let rest = so_far_row workload before s.now row w (w + 1) (omega (arith, inside)) in
            omega (arith, a, more, n_, rest);
      }

  -- ---- where a round ends

  end_by : {k : Caller} {rows now : List Row} {turns : Turning} {some : Bool} (w : ℕ) →
      Goes workload options number first k before rows now turns → (passes : Passes now w some) →
      (0 < length passes.order.pass)
      ⊎ ((left_by workload (before ++ now) ≡ []) ⊎ IsSpent (round_of k) (number_of k)) →
      ((v : ℕ) → v < w → count_done v now ≤ 1) → ((v : ℕ) → w ≤ v → count_done v now ≡ 0) → 0 < length now →
      ((v : ℕ) → v < workload.workers → has_job (left_by workload before) v ≡ true →
      WasAsked workload before now v ⊎ IsSpent (round_of k) (number_of k)) →
      callers.begun k ≤ most_tries workload before now → HasRunAlone workload options number first k before rows turns
  end_by {now = now} w goes passes ended few others has asked attempts = record {
    now = now;
    order = passes.order;
    ended = ended;
    goes = goes;
    some = has;
    asked = asked;
    attempts = attempts;
    few = λ v.
        elim (cases_lt v w) [
          | inl before_it ↦ few v before_it
          | inr from_it ↦ let z = others v from_it in omega (arith, z)
        ];
  }

  -- a pass that has come to its end has asked all
  end_whole : {k : Caller} {rows : List Row} {turns : Turning} {some : Bool} →
      (s : Sweeps workload options number first k before rows turns workload.workers some) →
      (0 < length s.passes.order.pass)
      ⊎ ((left_by workload (before ++ s.now) ≡ []) ⊎ IsSpent (round_of k) (number_of k)) → 0 < length s.now →
      HasRunAlone workload options number first k before rows turns
  end_whole {k = k} {rows = rows} {turns = turns} s ended has =
      end_by workload.workers s.goes s.passes ended s.few s.others has (λ v below had.
      elim (s.asked v below had) [ inl was ↦ inl was | inr later ↦ absurd (omega (arith, below, later.0)) ])
      (tries_are_few workload before s.now workload.workers (callers.begun k) (omega arith) s.attempts)

  pub end_done : {k : Caller} {rows : List Row} {turns : Turning} →
      Sweeps workload options number first k before rows turns workload.workers true →
      HasRunAlone workload options number first k before rows turns
  end_done {k = k} {rows = rows} {turns = turns} s = end_whole s (inl (s.passes.has_some refl)) (s.has_row refl)

  -- a caller that has used nothing and has tried few jobs is not spent
  not_spent : {k : Caller} → GoesOn first k → used_by (round_of k) (number_of k) ≡ 0 →
      callers.begun k ≤ length (workers_left workload before) → CannotBegin (round_of k) (number_of k) → ⊥
  not_spent {k = k} on none few spent =
      let attempts : attempts_of (round_of k) ≡ attempts_for (length (workers_left workload before)) =
      same_attempts first k on ∙ can.attempts in
      let has = has_job (left_by workload before) in
      let workers = length-filter_both has (λ w. not (has w)) (λ w. refl) (range_with_len 0 workload.workers) in
      let all = length-range_with_len 0 workload.workers in
      let most = can.valid.workers in
      can_begin (round_of k) (number_of k) (locators_same first k on can.locators) none
      (omega (arith, attempts, few, workers, all, most)) spent

  -- the caller is spent, which has a row behind
  pub spent_after : {k n : Caller} {rows : List Row} {turns : Turning} {w : ℕ} {some : Bool} → w ≤ workload.workers →
      IsSpentFrom k n → (s : Sweeps workload options number first k before rows turns w some) →
      (s.now ≡ [] → callers.begun k ≤ length (workers_left workload before)) →
      HasRunAlone workload options number first n before rows turns
  spent_after {k = k} {n = n} {rows = rows} {turns = turns} {w = w} small was s few = by s.now refl
    where
      tries : callers.begun n ≤ most_tries workload before s.now
      tries =
          let few_ = tries_are_few workload before s.now w (callers.begun k) small s.attempts in
          let same = was.begun in omega (arith, few_, same)

      by : (now : List Row) → s.now ≡ now → HasRunAlone workload options number first n before rows turns
      by (row ∷ now) is =
          end_by w (still s.goes was.on was.same_done (none_sighted k n was.begun)) s.passes (inr (inr was.spent)) s.few s.others
          (let some_ = ap length is in omega (arith, some_)) (λ v below had. inr was.spent) tries
      by [] is = absurd (not_spent s.goes.on (s.unused is) (few is) was.was)

  -- the caller is spent, after a try of a worker that has a job left
  pub step_spent : {k n : Caller} {rows : List Row} {turns : Turning} {w : ℕ} {some : Bool} (job : Job) →
      w < workload.workers → first_job w turns.left ≡ Some job → IsSpentFrom k n →
      Sweeps workload options number first k before rows turns w some →
      HasRunAlone workload options number first n before rows turns
  step_spent {k = k} {n = n} {rows = rows} {turns = turns} {w = w} {some = some} job inside turn was s =
      spent_after (omega (arith, inside)) was s (λ empty. let t = s.few_tries empty in omega (arith, t))

  -- ---- giving up

  -- where all are blocked, that of the least worker was given up
  pub step_given_up : {k n : Caller} {rows : List Row} {turns behind : Turning} (job : Job) {drawn : ℕ} (row : Row) →
      first_job job.worker turns.left ≡ Some job → ((v : ℕ) → v < job.worker → first_job v turns.left ≡ None) →
      HasGivenUp k n drawn → row.worker ≡ job.worker → row.line ≡ job.line →
      row.round ≡ number → row.number ≡ drawn → row.replies ≡ Never ∷ [] →
      behind ≡ record turns { left = without_first row.worker turns.left } →
      Sweeps workload options number first k before rows turns workload.workers false →
      Sweeps workload options number first n before (rows ++ row ∷ []) behind 0 false
  step_given_up {k = k} {n = n} {rows = rows} {turns = turns} {behind = behind} job row turn least gave worker line
      round drew replies turned s =
      let left : turns.left ≡ jobs_left workload.jobs rows = ap (λ (t : Turning). t.left) s.goes.turns_are in
      let here : first_job row.worker turns.left ≡ Some job = ap (λ v. first_job v turns.left) worker ∙ turn in
      let small : All (λ job. job.worker < workload.workers) (jobs_left workload.jobs rows) = small_left rows in
      let given : IsGivenUp workload rows row gave.by = record {
        replies = replies;
        nothing_read = gave.nothing_read;
        nothing_written = gave.nothing_written;
        blocked = all_blocked workload.workers (jobs_left workload.jobs rows) (store_after workload rows) small (s.blocked refl);
        rightly = record {
          alone = ap is_parallel round ∙ can.alone;
          least = λ v below. ap (first_job v) (sym left) ∙ least v (omega (arith, below, worker));
        };
      } in
      record {
        now = s.now ++ row ∷ [];
        goes = row_goes gave.by row job s.goes gave.made gave.newest (inl (gave.committed, gave.few_sights)) here line round
            (drew ∙ gave.drew) (inr given) (λ releasing. none_read workload row gave.by gave.nothing_read) turned;
        passes = passes_given row (ap is_given_up replies) s.passes;
        few = λ v below. absurd (omega (arith, below));
        others = λ v past.
            let f = s.none_done refl v in let p = count_push v s.now row in let z = count_given v row replies in
            omega (arith, f, p, z);
        has_row = λ yes_. absurd (true≢false (sym yes_));
        none_done = λ none_ v.
            let f = s.none_done refl v in let p = count_push v s.now row in let z = count_given v row replies in
            omega (arith, f, p, z);
        blocked = λ none_ v below. absurd (omega (arith, below));
        unused = λ empty. absurd (none_in s.now row empty);
        few_tries = λ empty. absurd (none_in s.now row empty);
        asked = λ v below has.
            elim (s.asked v below has) [
              | inl was ↦ inl (asked_more workload before s.now row v (count_push v s.now row) was)
              | inr later ↦ absurd (omega (arith, below, later.0))
            ];
        attempts =
            let a = s.attempts in
            let more = gave.made.begun in
            let n_ = length-append s.now (row ∷ []) in
            let rest = so_far_row workload before s.now row workload.workers 0 (omega arith) in
            omega (arith, a, more, n_, rest);
      }

  -- the caller is spent
  pub given_up_spent : {k n : Caller} {rows : List Row} {turns : Turning} → IsSpentFrom k n →
      Sweeps workload options number first k before rows turns workload.workers false →
      HasRunAlone workload options number first n before rows turns
  given_up_spent {k = k} {n = n} {rows = rows} {turns = turns} was s =
      spent_after (omega arith) was s (λ empty. let t = s.few_tries empty in omega (arith, t))

  -- no job is left
  pub end_empty : {k : Caller} {rows : List Row} {turns : Turning} →
      ((v : ℕ) → v < workload.workers → first_job v turns.left ≡ None) →
      Sweeps workload options number first k before rows turns workload.workers false →
      HasRunAlone workload options number first k before rows turns
  end_empty {k = k} {rows = rows} {turns = turns} none s = by s.now refl
    where
      none_left : left_by workload (before ++ s.now) ≡ []
      none_left =
          no_job workload.workers (left_by workload (before ++ s.now)) (small_left (before ++ s.now))
          (λ v below. ap (first_job v)
          (sym (ap (λ (t : Turning). t.left) s.goes.turns_are
          ∙ ap (λ (rs : List Row). jobs_left workload.jobs rs) s.goes.rows_are)) ∙ none v below)

      by : (now : List Row) → s.now ≡ now → HasRunAlone workload options number first k before rows turns
      by (row ∷ now) is = end_whole s (inr (inl none_left)) (let some_ = ap length is in omega (arith, some_))
      by [] is =
          let rows_is : rows ≡ before = s.goes.rows_are ∙ ap (λ (rs : List Row). before ++ rs) is ∙ append-nil before in
          let left : turns.left ≡ left_by workload before =
          ap (λ (t : Turning). t.left) s.goes.turns_are ∙ ap (λ (rs : List Row). jobs_left workload.jobs rs) rows_is in
          absurd (someone workload.workers (left_by workload before) can.some_left (small_left before)
          (λ v below. ap (first_job v) (sym left) ∙ none v below))

-- ---- what each step counts on

-- the first job left of a worker is one of the workload
pub job_is : {workload : Workload} (rows : List Row) {turns : Turning} (w : ℕ) (job : Job) → IsValidWorkload workload →
    turns ≡ turns_behind workload rows → first_job w turns.left ≡ Some job → IsJob workload job
job_is {workload = workload} rows {turns = turns} w job valid are turn =
    first_holds (IsJob workload) w turns.left job (subst (All (IsJob workload)) (sym (ap (λ (t : Turning). t.left) are))
    (All-from_recursion (IsJob workload) (jobs_left workload.jobs rows)
    (each-filter (IsJob workload) _ workload.jobs (recursion_from_All (IsJob workload) workload.jobs valid.each)))) turn

pub may_on : {workload : Workload} {table : Table} {k n : Caller} {rows : List Row} (behind : List Row)
    {turns turned : Turning} → MayStep workload table k rows turns → GoesOn k n → turned ≡ turns_behind workload behind
    →
    MayStep workload table n behind turned
may_on {k = k} {n = n} behind may on are = record {
  valid = may.valid;
  home = on.home ∙ may.home;
  only = callers_same k n on ∙ may.only;
  law = ap (λ (l : StoreLaw). l.layout) (law_same k n on) ∙ may.law;
  rest = on.rest;
  turns_are = are;
}

-- behind one row more
pub turns_after : {workload : Workload} (rows : List Row) {turns turned : Turning} (row : Row) (job : Job) →
    IsValidWorkload workload → turns ≡ turns_behind workload rows → first_job row.worker turns.left ≡ Some job →
    row.line ≡ job.line → turned ≡ record turns { left = without_first row.worker turns.left } →
    turned ≡ turns_behind workload (rows ++ row ∷ [])
turns_after {workload = workload} rows row job valid are turn line is =
    is ∙ ap (λ (t : Turning). record { jobs = t.jobs; left = without_first row.worker t.left }) are
    ∙ ap (λ (l : List Job). record { jobs = workload.jobs; left = l })
    (turn_ends workload.jobs rows row job (rise_all workload.jobs valid.rising)
    (ap (first_job row.worker) (sym (ap (λ (t : Turning). t.left) are)) ∙ turn) line)

-- a job of version 3 alone has branches
pub third_of : (version : ℕ) (release : Bool) → style_of version release ≡ Branches → version ≡ 3
third_of version release is = by (cases_eq version 3)
  where
    by : (version ≡ 3) ⊎ (version ≡ 3 → ⊥) → version ≡ 3
    by (inl third) = third
    by (inr other) = absurd (others release (sym is ∙ rw (ne_eqb version 3 other) refl))
      where
        others : (r : Bool) → Branches ≡ (if r then Loose else Plain) → ⊥
        others true e = cc
        others false e = cc

-- a pass that has ended, but not for want of attempts
pub swept_leads : {workload : Workload} {options : Options} {number : ℕ} {first n : Caller} {before rows : List Row}
    {turns : Turning} {next : ℕ} (ended : Swept) → (ended ≡ swept.Spent → ⊥) →
    Sweeps workload options number first n before rows turns next (is_done ended) →
    Leads workload options number first n before rows turns next false ended
swept_leads swept.Done other sweeps = sweeps
swept_leads swept.Blocked other sweeps = sweeps
swept_leads swept.Spent other sweeps = absurd (other refl)

-- the caller of an alone round that begins may step
pub may_begin : {workload : Workload} {options : Options} {number : ℕ} {table : Table} {first : Caller}
    {before : List Row} {begun : Turning} → CanRunAlone workload options number table first before begun →
    MayStep workload table first before begun
may_begin can = assumption
