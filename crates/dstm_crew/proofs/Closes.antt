-- What an alone round adds, by what its caller has done.
use Rattle.std.proofs.Common.{◌≡◌, ℕ, ◌<◌, ◌≤◌, false, List, [], ◌++◌, length, reverse, refl, ap, sym, subst, ◌∙◌, inl, inr, arith, true≢false}
use Rattle.std.specs.Prelude.{All, IfSome, None, Option, Some, zip}
use Rattle.std.specs.List.{slice_get}
use Rattle.std.proofs.lemmas.List.Elements.{recursion_from_All}
use Rattle.dstm_model.specs.declared.value.Val.{Val}
use Rattle.dstm_model.specs.Answers.{Committed}
use Rattle.dstm_store.specs.Whole.{StandsFor}
use Rattle.dstm_workload.specs.declared.workload.Workload.{Workload}
use Rattle.dstm_report.specs.declared.report.Row.{Row}
use Rattle.dstm_report.specs.Lawful.{store_after}
use Rattle.dstm_report.specs.Turns.{Turning}
use Rattle.dstm_options.specs.declared.options.Options.{Options}
use Rattle.dstm_jobs.specs.Tables.{Caller, Founder, Table}
use Rattle.dstm_tables.specs.Callers.{CameByCalls, begun, done, let_go, number_of, round_of}
use Rattle.dstm_tables.proofs.Calls.{by_calls, calls_at_close, came_on}
use Rattle.dstm_tables.specs.Founders.{TakesBack, first_of, seen_by}
use Rattle.dstm_jobs.specs.Tables as known
use Rattle.dstm_tables.specs.Tells.{ByCalls, IsPast, IsSpent, WasSighted, all_done, begun_of, callers_of, committed_of, done_of, let_go_by, start_of, values_of}
use Rattle.dstm_tables.proofs.Closing.{done_at_close, let_go_at_close, spent_at_close, stays_in}
use Rattle.dstm_tables.specs.Laws.{StaysIn}
use Rattle.dstm_tables.proofs.History.{sights_agree}
use Rattle.dstm_tables.proofs.Staying.{attempts_past, lets_go_past}
use Rattle.dstm_tables.proofs.Same.{callers_past, first_past, first_seen, locators_past, number_below, only_tells_all, start_past, writes_past}
use Rattle.dstm_jobs.proofs.Same.{layout_is, layout_past, of_past}
use Rattle.dstm_records.specs.Records.{IsAlone, IsMade, IsRoundOf, IsRun, KeepsFewReads, KeepsReads, TellOf, seed_for}
use Rattle.dstm_records.specs.Rounds.{is_parallel, most_jobs, workers_left}
use Rattle.dstm_records.specs.Running.{AddsRound, Begins, count_left, turns_behind}
use Rattle.dstm_records.specs.Told.{AreTold}
use Rattle.dstm_records.proofs.Closing.{begun_at_close}
use Rattle.dstm_records.proofs.Collecting.{Collected}
use Rattle.dstm_records.proofs.Making.{made_past, reads_let_go}
use Rattle.dstm_records.proofs.Told.{fewer_left, rows_told}
use Rattle.dstm_crew.specs.Alone.{CanRunAlone, HasRunAlone}
use Rattle.dstm_crew.specs.Opened.{IsOpened, with_jobs}
use Rattle.dstm_jobs.specs.Law.{keeps}

-- in an alone round one caller runs a job of each worker that has jobs left
pub most_alone : (workload : Workload) (number : ℕ) (before : List Row) → is_parallel number ≡ false →
    most_jobs workload number before ≡ length (workers_left workload before)
most_alone workload number before alone = rw alone refl

-- jobs are left when an alone round begins
pub some_left : {workload : Workload} {number : ℕ} {before : List Row} {values : List Val} → is_parallel number ≡ false
    →
    Begins workload number before values → 0 < count_left workload before
some_left alone begins =
    elim begins.needed [
      | inl first ↦ absurd (true≢false (sym (ap is_parallel first) ∙ alone))
      | inr some ↦ some
    ]

-- the table is as large as the workers that have jobs left behind these rows want it
pub opened_for : {workload : Workload} {options : Options} {waiting : ℕ} (before : List Row) {values : List Val}
    {turns : Turning} {table : Table} {f : Founder} {k : Caller} →
    waiting ≡ length (with_jobs workload.workers turns.left) → turns ≡ turns_behind workload before →
    IsOpened workload options waiting values table f k →
    IsOpened workload options (length (workers_left workload before)) values table f k
opened_for {workload = workload} {options = options} before {values = values} {table = table} {f = f} {k = k} count
    turned opened =
    subst (λ n. IsOpened workload options n values table f k)
    (count ∙ ap (λ (t : Turning). length (with_jobs workload.workers t.left)) turned) opened

-- the caller has the seed of the least worker that has jobs left behind these rows
pub least_came : (workload : Workload) (options : Options) (before : List Row) {turns : Turning} (first : ℕ)
    (k : Caller) →
    turns ≡ turns_behind workload before →
    IfSome (slice_get (with_jobs workload.workers turns.left) 0) (λ worker. first ≡ worker) →
    CameByCalls (seed_for options first) k →
    IfSome (slice_get (workers_left workload before) 0) (λ worker. CameByCalls (seed_for options worker) k)
least_came workload options before first k turned is came =
    by (slice_get (workers_left workload before) 0)
    (subst (λ (t : Turning). IfSome (slice_get (with_jobs workload.workers t.left) 0) (λ worker. first ≡ worker)) turned is)
  where
    by : (some : Option ℕ) → IfSome some (λ worker. first ≡ worker) →
        IfSome some (λ worker. CameByCalls (seed_for options worker) k)
    by None none = tt
    by (Some worker) same = subst (λ (w : ℕ). CameByCalls (seed_for options w) k) same came

-- the caller of the table can run alone
pub can_run : {workload : Workload} {options : Options} {number : ℕ} {before : List Row} {values : List Val}
    {turns : Turning}
    {table : Table} {f : Founder} {k : Caller} → is_parallel number ≡ false → Begins workload number before values →
    turns ≡ turns_behind workload before →
    IsOpened workload options (length (workers_left workload before)) values table f k →
    CanRunAlone workload options number table k before turns
can_run {workload = workload} {options = options} {number = number} {before = before} {values = values} {table = table}
    {k = k} alone begins turned opened =
    let a = first_of table in
    let b = round_of k in
    let past : IsPast a b = first_past k table opened.home in
    record {
      valid = begins.valid;
      alone = alone;
      earlier = begins.earlier;
      home = opened.home;
      only = callers_past a b past ∙ opened.only;
      law = sym (layout_is k) ∙ layout_past a b past ∙ opened.layout;
      reads = λ third. writes_past a b past ∙ opened.reads third;
      reads_go = λ releasing.
          lets_go_past a b past
          ∙ reads_let_go options workload.version number (length (workers_left workload before)) a releasing
          opened.engine (opened.made number alone);
      attempts = attempts_past a b past ∙ opened.attempts;
      locators = locators_past a b past opened.locators;
      rest = opened.rest;
      none_begun = opened.none_begun;
      none_installed = opened.none_used;
      none_done = opened.none_done;
      stands = subst (λ (vs : List Val). StandsFor workload.layout vs (store_after workload before))
          (sym (start_past a b past ∙ opened.start)) begins.stands;
      turns_are = turned;
      some_left = some_left alone begins;
    }

module _ (workload : Workload) (options : Options) (number : ℕ) (before : List Row) (values : List Val)
    (table : Table) (f g : Founder) (first n : Caller) (rows : List Row) (turns : Turning)
    (alone : is_parallel number ≡ false) (begins : Begins workload number before values)
    (opened : IsOpened workload options (length (workers_left workload before)) values table f first)
    (ran : HasRunAlone workload options number first n before rows turns)
    (kept : KeepsReads options workload.version → let_go n ≡ 0) (takes : TakesBack f g n)
    (run : known.IsRun (seen_by g))
    (come : IfSome (slice_get (workers_left workload before) 0) (λ worker. CameByCalls (seed_for options worker) first)) where
  past : IsPast (first_of table) (seen_by g)
  past = first_seen g table (takes.home ∙ opened.founded)

  only : callers_of (seen_by g) ≡ 1
  only = callers_past (first_of table) (seen_by g) past ∙ opened.only

  start : start_of (seen_by g) ≡ values
  start = start_past (first_of table) (seen_by g) past ∙ opened.start

  zeroth : number_of n ≡ 0
  zeroth =
      let below = number_below n ran.goes.on.rest in
      let one : callers_of (round_of n) ≡ 1 = sym (callers_past (round_of n) (seen_by g) takes.other_past) ∙ only in
      omega (arith, below, one)

  -- what was committed on the table is what its caller has committed
  committed : all_done (seen_by g) ≡ done n
  committed =
      only_tells_all keeps (seen_by g) run only
      ∙ ap (done_of (seen_by g)) (sym zeroth)
      ∙ done_at_close keeps (round_of n) (seen_by g) (number_of n) run takes.other_past takes.other_kept

  are_told : AreTold workload before ran.now (committed_of (seen_by g))
  are_told = subst (λ (ds : List Committed). AreTold workload before ran.now (reverse ds)) (sym committed) ran.goes.told

  stands : StandsFor workload.layout (start_of (seen_by g)) (store_after workload before)
  stands = subst (λ (vs : List Val). StandsFor workload.layout vs (store_after workload before)) (sym start) begins.stands

  collected : Collected workload before ran.now (start_of (seen_by g)) (committed_of (seen_by g)) []
  collected = rows_told workload before ran.now (seen_by g) number begins.valid run
      (recursion_from_All (λ row. row.round < number) before begins.earlier) stands are_told
      (recursion_from_All (λ row. row.round ≡ number) ran.now ran.goes.in_round)

  is_run : IsRun workload.layout (seen_by g)
  is_run = record {
    law = layout_past (first_of table) (seen_by g) past ∙ opened.layout;
    objects = ap length start ∙ begins.stands.objects;
    run = run;
  }

  made : IsMade options workload.version number (most_jobs workload number before) (seen_by g)
  made =
      made_past options workload.version number (most_jobs workload number before) (first_of table) (seen_by g) past
      (subst (λ (jobs : ℕ). IsMade options workload.version number jobs (first_of table))
      (sym (most_alone workload number before alone)) (opened.made number alone))

  -- its caller came by calls
  calls : (some : Option ℕ) → IfSome some (λ worker. CameByCalls (seed_for options worker) first) →
      IfSome some (λ worker. ByCalls (seed_for options worker) (seen_by g) 0)
  calls None none = tt
  calls (Some worker) came =
      let seed = seed_for options worker in
      subst (ByCalls seed (seen_by g)) zeroth
      (calls_at_close seed (round_of n) (seen_by g) (number_of n) takes.other_past takes.other_kept
      (by_calls seed n (came_on seed first n ran.goes.on came)))

  -- its caller is spent
  is_spent : IsSpent (round_of n) (number_of n) → IsSpent (seen_by g) 0
  is_spent spent =
      subst (IsSpent (seen_by g)) zeroth
      (spent_at_close (round_of n) (seen_by g) (number_of n) takes.other_past takes.other_kept spent)

  -- its attempts were made sure of as often as its caller knows
  sighted_then : (i : ℕ) → 0 < i → i ≤ begun n → WasSighted 1 (round_of n) (number_of n) i → WasSighted 1 (seen_by g) 0 i
  sighted_then i some few was = subst (λ (c : ℕ). WasSighted 1 (seen_by g) c i) zeroth (by was)
    where
      stays : StaysIn (round_of n) (seen_by g) (number_of n)
      stays =
          stays_in keeps (round_of n) (seen_by g) (number_of n) run (number_below n ran.goes.on.rest) takes.other_past
          takes.other_kept

      by : WasSighted 1 (round_of n) (number_of n) i → WasSighted 1 (seen_by g) (number_of n) i
      by (inl was) = inl (stays.committed i some few was.0, stays.sighted 0 i was.1)
      by (inr was) = inr (stays.aborted i some few was.0, stays.sighted 1 i was.1)

  is_alone : IsAlone workload options before ran.now (seen_by g)
  is_alone =
      let begun_then : begun_of (seen_by g) 0 ≡ begun n = ap (begun_of (seen_by g)) (sym zeroth)
      ∙ begun_at_close (round_of n) (seen_by g) (number_of n) takes.other_past takes.other_kept in
      record {
        one_caller = only;
        some_row = ran.some;
        few = ran.few;
        calls = calls (slice_get (workers_left workload before) 0) come;
        keeps = λ none.
            ap (let_go_by (seen_by g)) (sym zeroth)
            ∙ let_go_at_close (round_of n) (seen_by g) (number_of n) takes.other_kept ∙ kept none;
        asked = λ worker below has.
            elim (ran.asked worker below has) [
              | inl was ↦ inl was
              | inr spent ↦ inr (is_spent spent)
            ];
        attempts = let few = ran.attempts in omega (arith, few, begun_then);
        sighted = λ i some few.
            let before : i ≤ begun n = omega (arith, few, begun_then) in
            sighted_then i some before (ran.goes.sighted i some before);
        order = ran.order;
        ended = elim ran.ended [
          | inl some ↦ inl some
          | inr none ↦ inr (elim none [ inl left ↦ inl left | inr spent ↦ inr (is_spent spent) ])
        ];
      }

  round : IsRoundOf workload options number before ran.now values (seen_by g)
  round = record {
    engine = of_past options.engine (first_of table) (seen_by g) past opened.engine;
    run = is_run;
    made = made;
    begins = start;
    rows_tell = subst (λ (vs : List Val). TellOf workload before ran.now vs (committed_of (seen_by g))) start collected.tell;
    parallel = λ parallel. absurd (true≢false (sym parallel ∙ alone));
    alone = λ _. is_alone;
    given_up = collected.given_up;
    released = λ releasing.
        subst (λ (ds : List Committed). All (KeepsFewReads workload) (zip ran.now (reverse ds))) (sym committed)
        (ran.goes.few_reads releasing);
  }

  pub adds_alone : {left : List Val} → left ≡ values_of (seen_by g) →
      AddsRound workload options number before values (seen_by g) ran.now left
  adds_alone is = record {
    good = collected.good;
    all_in = ran.goes.in_round;
    round = round;
    sights = sights_agree keeps (seen_by g) run;
    values_are = is;
    stands = subst (λ (vs : List Val). StandsFor workload.layout vs (store_after workload (before ++ ran.now)))
        (sym is) collected.stands;
    fewer = fewer_left workload before ran.now (committed_of (seen_by g)) begins.valid are_told;
    some = λ _. ran.some;
  }
