-- A parallel round that was run and collected stands for its rows.
use Rattle.std.proofs.Common.{◌≡◌, ℕ, ◌<◌, ◌≤◌, Bool, true, cond, List, [], ◌∷◌, ◌++◌, length, map, get_or, Option, Some, None, refl, ap, sym, subst, ◌∙◌, arith, true≢false}
use Rattle.std.specs.List.{All, AllByRecursion, Contains, slice_get}
use Rattle.std.specs.Option.{option_map}
use Rattle.std.proofs.lemmas.List.{length-map}
use Rattle.std.proofs.lemmas.List.Elements.{recursion_from_All}
use Rattle.std.proofs.lemmas.Option.{slice_get-get_or, slice_get-map, slice_get_within, none-some, same_Some}
use Rattle.dstm_model.specs.declared.value.Val.{Val}
use Rattle.dstm_model.specs.Answers.{Committed}
use Rattle.dstm_words.specs.Seats.{AreApart}
use Rattle.dstm_store.specs.Whole.{StandsFor}
use Rattle.dstm_workload.specs.declared.workload.Job.{Job}
use Rattle.dstm_workload.specs.declared.workload.Workload.{Workload}
use Rattle.dstm_report.specs.declared.report.Row.{Row}
use Rattle.dstm_report.specs.Lawful.{first_job, store_after}
use Rattle.dstm_report.specs.Turns.{Turning, job_at, jobs_of}
use Rattle.dstm_options.specs.declared.options.Options.{Options}
use Rattle.dstm_jobs.specs.Tables.{Round}
use Rattle.dstm_jobs.specs.declared.trying.Finished.{Finished}
use Rattle.dstm_jobs.specs.Jobs.{HadToStop, NoneWasted}
use Rattle.dstm_tables.specs.Tells.{ByCalls, callers_of, committed_of, start_of}
use Rattle.dstm_tables.proofs.History.{sights_agree}
use Rattle.dstm_records.specs.Records.{ArePaired, IsMade, IsParallel, IsRoundOf, TellOf, next_of, seed_for}
use Rattle.dstm_records.specs.Rounds.{all_workers, greatest, has_job, is_parallel, left_by, most_jobs, workers_in, workers_left}
use Rattle.dstm_records.specs.Running.{AddsRound, Begins, turns_behind}
use Rattle.dstm_records.proofs.Collecting.{Collected}
use Rattle.dstm_records.proofs.Making.{reads_let_go}
use Rattle.dstm_records.proofs.Told.{fewer_left, rows_told}
use Rattle.dstm_crew.specs.declared.progress.Progress.{Progress}
use Rattle.dstm_crew.specs.declared.share.Share.{Share}
use Rattle.dstm_crew.specs.Collecting.{AreRunBy, CanCollect, HasCollected, IsFit, caller_of}
use Rattle.dstm_crew.specs.Shares.{AreShares, IsOpen, IsShared, WereRun, asked_of, most_places, workers_of}
use Rattle.dstm_crew.specs.Workers.{AreDone, next_job}
use Rattle.dstm_crew.specs.Playing.{HasPlayed}
use Rattle.dstm_crew.proofs.Going.{at_place, each_place, workers_apart}
use Rattle.dstm_crew.proofs.Merged.{caller_at, shared_at, shared_size}
use Rattle.dstm_crew.proofs.Numbers.{apart_places}
use Rattle.dstm_crew.proofs.Workers.{are_workers, most_of_all, workers_apart_all}
use Rattle.dstm_jobs.specs.Law.{keeps}

-- ---- the shares behind the round are those before it

map_map : {X Y Z : Type 0} (f : Y → Z) (g : X → Y) (xs : List X) → map f (map g xs) ≡ map (λ x. f (g x)) xs
map_map f g [] = refl
map_map f g (x ∷ xs) = ap (λ ys. f (g x) ∷ ys) (map_map f g xs)

-- a fact of which worker has which jobs is kept
all_asked : (P : ℕ × List ℕ → Type 0) (olds news : List Share) → map asked_of news ≡ map asked_of olds →
    All (λ share. P (asked_of share)) olds → All (λ share. P (asked_of share)) news
all_asked P olds news same all =
    each_place (λ (share : Share). P (asked_of share)) news (λ k share here.
    old_place k (asked_of share) (sym (slice_get-map asked_of olds k) ∙ ap (λ (xs : List (ℕ × List ℕ)). slice_get xs k) (sym same)
    ∙ slice_get-map asked_of news k ∙ ap (option_map asked_of) here))
  where
    old_place : (k : ℕ) (asked : ℕ × List ℕ) → option_map asked_of (slice_get olds k) ≡ Some asked → P asked
    old_place k asked is = by (slice_get olds k) refl is
      where
        by : (o : Option Share) → slice_get olds k ≡ o → option_map asked_of o ≡ Some asked → P asked
        by None there none = absurd (none-some asked none)
        by (Some old) there some =
            subst P (same_Some (asked_of old) asked some) (at_place (λ (share : Share). P (asked_of share)) olds k old all there)

workers_kept : (olds news : List Share) → map asked_of news ≡ map asked_of olds →
    map (λ (share : Share). share.worker) news ≡ map (λ (share : Share). share.worker) olds
workers_kept olds news same =
    sym (map_map (λ (asked : ℕ × List ℕ). asked.0) asked_of news)
    ∙ ap (map (λ (asked : ℕ × List ℕ). asked.0)) same
    ∙ map_map (λ (asked : ℕ × List ℕ). asked.0) asked_of olds

done_enough : (workload : Workload) (places : List ℕ) (finished : List Finished) (done : List Committed) →
    AreDone workload.layout workload.jobs places finished done → length finished ≤ length places
done_enough workload places [] [] are = omega arith
done_enough workload [] [] (d ∷ done) are = absurd are
done_enough workload (p ∷ places) [] (d ∷ done) are = absurd are
done_enough workload [] (f ∷ finished) [] are = absurd are
done_enough workload (p ∷ places) (f ∷ finished) [] are = absurd are
done_enough workload [] (f ∷ finished) (d ∷ done) are = absurd are
done_enough workload (p ∷ places) (f ∷ finished) (d ∷ done) are =
    let rest = done_enough workload places finished done are.1 in omega (arith, rest)

module _ (workload : Workload) (options : Options) (number : ℕ) (rows : List Row) (values left : List Val) (turns : Turning)
    (shares shares_then : List Share) (closed : Round) where
  -- what is needed to collect
  pub can_collect : Begins workload number rows values → turns ≡ turns_behind workload rows →
      AreShares workload turns.left (workers_of workload number turns.left) shares →
      WereRun workload options number values left shares shares_then closed → CanCollect workload shares_then rows turns
  can_collect begins turns_are are run = record {
    valid = begins.valid;
    turns_are = turns_are;
    fit = each_place (IsFit workload) shares_then (λ k share here. record {
      within = at_place (λ (s : Share). All (λ place. place < length workload.jobs) s.places.items) shares_then k share
          (all_asked (λ asked. All (λ place. place < length workload.jobs) asked.1) shares shares_then run.same
          (each_place (λ (s : Share). All (λ place. place < length workload.jobs) s.places.items) shares
          (λ i s there. (at_place (IsOpen workload) shares i s are.open_yet there).within))) here;
      enough = done_enough workload share.places.items share.done.items _
          (shared_at workload options closed shares_then run.callers k share run.shared here).done;
      lines = (shared_at workload options closed shares_then run.callers k share run.shared here).lines;
    });
    apart = subst AreApart (sym (workers_kept shares shares_then run.same ∙ are.one_each))
        (workers_apart_all workload number turns.left);
    jobs = all_asked (λ asked. map (job_at workload.jobs) asked.1 ≡ jobs_of asked.0 turns.left) shares shares_then run.same are.jobs;
  }

  pub run_by : (run : WereRun workload options number values left shares shares_then closed) →
      AreRunBy workload options closed shares_then run.callers
  run_by run = record { run = run.run.run; count = run.count; apart = run.apart; shared = run.shared }

  -- ---- the round stands for its rows

  module _ (parallel : is_parallel number ≡ true) (begins : Begins workload number rows values)
      (turns_are : turns ≡ turns_behind workload rows)
      (are : AreShares workload turns.left (workers_of workload number turns.left) shares)
      (run : WereRun workload options number values left shares shares_then closed) (rows_then : List Row) (turns_then : Turning)
      (collected : HasCollected workload options number closed shares_then run.callers rows rows_then turns_then) where
    left_is : turns.left ≡ left_by workload rows
    left_is = ap (λ (t : Turning). t.left) turns_are

    workers_are : map (λ (share : Share). share.worker) shares_then ≡ workers_in workload number rows
    workers_are = workers_kept shares shares_then run.same ∙ are.one_each ∙ ap (workers_of workload number) left_is
        ∙ are_workers workload number rows

    apart : AreApart (map (λ (share : Share). share.worker) shares_then)
    apart = subst AreApart (sym (workers_kept shares shares_then run.same ∙ are.one_each))
        (workers_apart_all workload number turns.left)

    sizes : length shares_then ≡ length run.callers
    sizes = shared_size workload options closed shares_then run.callers run.shared

    abbrev caller : ℕ → ℕ
    caller = caller_of shares_then run.callers

    -- a worker of the round has a share
    record Has (worker : ℕ) : Type 0 where
      place : ℕ
      share : Share
      there : slice_get shares_then place ≡ Some share
      is : share.worker ≡ worker

    share_of : (worker : ℕ) → Contains (workers_in workload number rows) worker → Has worker
    share_of worker has = by (subst (λ (ws : List ℕ). Contains ws worker) (sym workers_are) has)
      where
        by : Contains (map (λ (share : Share). share.worker) shares_then) worker → Has worker
        by at = go (slice_get shares_then at.0) refl
          where
            some : option_map (λ (share : Share). share.worker) (slice_get shares_then at.0) ≡ Some worker
            some = sym (slice_get-map (λ (share : Share). share.worker) shares_then at.0)
                ∙ slice_get-get_or (map (λ (share : Share). share.worker) shares_then) at.0 worker at.1 ∙ ap Some at.2

            go : (o : Option Share) → slice_get shares_then at.0 ≡ o → Has worker
            go None none = absurd (none-some worker (sym (ap (option_map (λ (share : Share). share.worker)) none) ∙ some))
            go (Some share) there = record {
              place = at.0;
              share = share;
              there = there;
              is = same_Some share.worker worker (sym (ap (option_map (λ (s : Share). s.worker)) there) ∙ some);
            }

    caller_is : {worker : ℕ} (h : Has worker) → caller worker ≡ get_or run.callers h.place 0
    caller_is h =
        ap caller (sym h.is)
        ∙ caller_at shares_then run.callers h.place h.share
        (λ i other there same. workers_apart shares_then apart i h.place other h.share there h.there same) h.there
        (let w = slice_get_within shares_then h.place h.share h.there in omega (arith, sizes))

    shared_of : {worker : ℕ} (h : Has worker) → IsShared workload options closed h.share (caller worker)
    shared_of {worker = worker} h =
        subst (IsShared workload options closed h.share) (sym (caller_is h))
        (shared_at workload options closed shares_then run.callers h.place h.share run.shared h.there)

    next_is : {worker : ℕ} (h : Has worker) →
        next_of workload (rows ++ collected.now) worker ≡ next_job workload.jobs h.share.places.items h.share.done.items
    next_is {worker = worker} h =
        ap (λ (rs : List Row). first_job worker (left_by workload rs)) (sym collected.rows_are)
        ∙ ap (λ (w : ℕ). first_job w (left_by workload rows_then)) (sym h.is)
        ∙ at_place (λ (s : Share). first_job s.worker (left_by workload rows_then) ≡ next_job workload.jobs s.places.items s.done.items)
        shares_then h.place h.share collected.next h.there

    paired : ArePaired (workers_in workload number rows) (callers_of closed) caller
    paired = record {
      count = sym (ap length workers_are) ∙ length-map shares_then (λ (share : Share). share.worker) ∙ sizes ∙ run.count;
      within = λ worker has. (shared_of (share_of worker has)).within;
      apart = λ one other first second same.
          let a = share_of one first in
          let b = share_of other second in
          let inside = slice_get_within shares_then a.place a.share a.there in
          let within = slice_get_within shares_then b.place b.share b.there in
          let place : a.place ≡ b.place = apart_places run.callers run.apart a.place b.place (omega (arith, inside, sizes))
          (omega (arith, within, sizes)) (sym (caller_is a) ∙ same ∙ caller_is b) in
          sym a.is ∙ ap (λ (s : Share). s.worker)
          (same_Some a.share b.share (sym a.there ∙ ap (slice_get shares_then) place ∙ b.there)) ∙ b.is;
    }

    is_round : IsParallel workload options number rows collected.now closed
    is_round = record {
      caller = caller;
      paired = paired;
      own = collected.own;
      left = λ worker has more.
          let h = share_of worker has in
          let fewer = at_place (λ (s : Share). has_job (left_by workload rows_then) s.worker ≡ true
          → length s.done.items < length s.places.items) shares_then h.place h.share collected.fewer h.there in
          subst (λ (next : Option Job). HadToStop workload next closed (caller worker)) (sym (next_is h))
          ((shared_of h).left (fewer (ap (has_job (left_by workload rows_then)) h.is
          ∙ ap (λ (rs : List Row). has_job (left_by workload rs) worker) collected.rows_are ∙ more)));
      attempts = λ worker has.
          let h = share_of worker has in
          subst (λ (next : Option Job). NoneWasted workload next closed (caller worker)) (sym (next_is h))
          (shared_of h).none_wasted;
      calls = λ worker has.
          let h = share_of worker has in
          subst (λ (w : ℕ). ByCalls (seed_for options w) closed (caller worker)) h.is (shared_of h).calls;
      keeps = λ none worker has. (shared_of (share_of worker has)).keeps none;
    }

    most : most_places shares ≡ most_jobs workload number rows
    most =
        ap greatest (lengths ∙ ap (map (λ (worker : ℕ). length (jobs_of worker turns.left))) are.one_each)
        ∙ most_of_all workload number turns.left
        ∙ ap (λ (js : List Job). greatest (map (λ worker. length (jobs_of worker js)) (all_workers workload))) left_is
        ∙ sym (ap (λ (b : Bool). cond b (greatest (map (λ worker. length (jobs_of worker (left_by workload rows))) (all_workers workload)))
        (length (workers_left workload rows))) parallel)
      where
        lengths : map (λ (share : Share). length share.places.items) shares
            ≡ map (λ (worker : ℕ). length (jobs_of worker turns.left)) (map (λ (share : Share). share.worker) shares)
        lengths = each shares (recursion_from_All (λ (share : Share). map (job_at workload.jobs) share.places.items
            ≡ jobs_of share.worker turns.left) shares are.jobs)
          where
            each : (xs : List Share) → AllByRecursion (λ (share : Share). map (job_at workload.jobs) share.places.items
                ≡ jobs_of share.worker turns.left) xs → map (λ (share : Share). length share.places.items) xs
                ≡ map (λ (worker : ℕ). length (jobs_of worker turns.left)) (map (λ (share : Share). share.worker) xs)
            each [] all = refl
            each (x ∷ xs) all =
                ap (λ (n : ℕ). n ∷ map (λ (share : Share). length share.places.items) xs)
                (sym (length-map x.places.items (job_at workload.jobs)) ∙ ap length all.0)
                ∙ ap (λ (ns : List ℕ). length (jobs_of x.worker turns.left) ∷ ns) (each xs all.1)

    told : Collected workload rows collected.now (start_of closed) (committed_of closed) []
    told = rows_told workload rows collected.now closed number begins.valid run.run.run
        (recursion_from_All (λ (row : Row). row.round < number) rows begins.earlier)
        (subst (λ (vs : List Val). StandsFor workload.layout vs (store_after workload rows)) (sym run.start) begins.stands)
        collected.told (recursion_from_All (λ (row : Row). row.round ≡ number) collected.now collected.in_round)

    made : IsMade options workload.version number (most_jobs workload number rows) closed
    made = subst (λ (jobs : ℕ). IsMade options workload.version number jobs closed) most run.made

    stands_for : IsRoundOf workload options number rows collected.now values closed
    stands_for = record {
      engine = run.engine;
      run = run.run;
      made = made;
      begins = run.start;
      rows_tell = subst (λ (vs : List Val). TellOf workload rows collected.now vs (committed_of closed)) run.start told.tell;
      parallel = λ _. is_round;
      alone = λ odd. absurd (true≢false (sym parallel ∙ odd));
      given_up = told.given_up;
      released = λ releasing.
          collected.few_reads releasing
          (reads_let_go options workload.version number (most_jobs workload number rows) closed releasing run.engine
          made);
    }

    pub adds_round : AddsRound workload options number rows values closed collected.now left
    adds_round = record {
      good = told.good;
      all_in = collected.in_round;
      round = stands_for;
      sights = sights_agree keeps closed run.run.run;
      values_are = run.left_is;
      stands = subst (λ (vs : List Val). StandsFor workload.layout vs (store_after workload (rows ++ collected.now))) (sym run.left_is)
          told.stands;
      fewer = fewer_left workload rows collected.now (committed_of closed) begins.valid collected.told;
      some = λ odd. absurd (true≢false (sym parallel ∙ odd));
    }

-- a round was played
pub has_played : {workload : Workload} {options : Options} {number : ℕ} (old new : Progress)
    {shares shares_then : List Share} {closed : Round} → is_parallel number ≡ true →
    Begins workload number old.rows.items old.values.items → old.turns ≡ turns_behind workload old.rows.items →
    AreShares workload old.turns.left (workers_of workload number old.turns.left) shares →
    (run : WereRun workload options number old.values.items new.values.items shares shares_then closed) →
    HasCollected workload options number closed shares_then run.callers old.rows.items new.rows.items new.turns →
    new.rounds.items ≡ old.rounds.items ++ closed ∷ [] → HasPlayed workload options number old new
has_played {workload = workload} {options = options} {number = number} old new {shares = shares}
    {shares_then = shares_then} {closed = closed} parallel begins turned are run collected rounds_are =
    record {
      now = collected.now;
      closed = closed;
      rows_are = collected.rows_are;
      rounds_are = rounds_are;
      adds = adds_round workload options number old.rows.items old.values.items new.values.items old.turns shares shares_then
          closed parallel begins turned are run new.rows.items new.turns collected;
      turns_are = collected.turns_are;
    }
