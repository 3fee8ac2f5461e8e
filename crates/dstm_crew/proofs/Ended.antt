-- A worker that has run its share, and what the whole log of its table tells of it.
use Rattle.std.proofs.Common.{◌≡◌, ◌∙◌, ◌∷◌, ◌<◌, ℕ, suc, List, [], length, map, slice_index_or, refl, sym, ap, subst, arith, reverse}
use Rattle.std.specs.Prelude.{All, zip}
use Rattle.std.proofs.lemmas.List.Elements.{All-head, All-tail}
use Rattle.dstm_model.specs.Answers.{Committed}
use Rattle.dstm_workload.specs.declared.workload.Workload.{Workload}
use Rattle.dstm_report.specs.Turns.{job_at}
use Rattle.dstm_options.specs.declared.options.Options.{Options}
use Rattle.dstm_jobs.specs.Tables.{IsRun, Round, Table}
use Rattle.dstm_jobs.specs.Answers.{KeepsFew}
use Rattle.dstm_tables.specs.Callers.{let_go, number_of, round_of}
use Rattle.dstm_tables.specs.Tells.{ByCalls, IsPast, SameOwn, done_of}
use Rattle.dstm_tables.proofs.Calls.{by_calls, calls_at_close, came_on}
use Rattle.dstm_tables.proofs.Closing.{done_at_close, let_go_at_close}
use Rattle.dstm_jobs.proofs.Closing.{none_at_close, stop_at_close}
use Rattle.dstm_tables.proofs.Same.{callers_past, number_below}
use Rattle.dstm_tables.proofs.Staying.{lets_go_past}
use Rattle.dstm_records.specs.Records.{KeepsReads, seed_for}
use Rattle.dstm_crew.specs.declared.share.Share.{Share}
use Rattle.dstm_crew.specs.declared.worker.Worker.{Worker}
use Rattle.dstm_crew.specs.Seats.{HasCome, HasEnded, IsKnownBy, caller_number, share_of}
use Rattle.dstm_crew.specs.Shares.{AreShared, IsShared, asked_of}
use Rattle.dstm_crew.specs.Workers.{AreDone, HasRun, IsReady, next_job}
use Rattle.dstm_jobs.specs.Law.{keeps}

module _ (workload : Workload) (options : Options) where
  -- ---- as its own caller's log tells

  pub has_ended : {table : Table} {old new : Worker} → IsReady workload table old → HasCome options old →
      HasRun workload options old new → (KeepsReads options workload.version → let_go new.caller ≡ let_go old.caller) →
      HasEnded workload options table new
  has_ended {old = old} {new = new} ready come ran kept = record {
    rests = record { home = ran.on.home ∙ ready.home; rest = ran.on.rest };
    shared = record {
      within = number_below new.caller ran.on.rest;
      done = ran.done;
      lines = ran.lines;
      none_wasted = ran.none_wasted;
      left = ran.left;
      few_reads = ran.few_reads;
      calls =
          subst (λ (worker : ℕ). ByCalls (seed_for options worker) (round_of new.caller) (number_of new.caller)) (sym ran.number)
          (by_calls (seed_for options old.number) new.caller
          (came_on (seed_for options old.number) old.caller new.caller ran.on come.by_calls));
      keeps = λ none. kept none ∙ come.none_let_go;
    };
  }

  -- ---- as a longer log tells

  share_stays : {old : Round} (new : Round) {share : Share} {c : ℕ} → IsRun new → IsPast old new → SameOwn c old new →
      IsShared workload options old share c → IsShared workload options new share c
  share_stays {old = old} new {share = share} {c = c} run past own was = record {
    within = subst (λ (n : ℕ). c < n) (sym (callers_past old new past)) was.within;
    done =
        subst (λ (ds : List Committed). AreDone workload.layout workload.jobs share.places.items share.done.items (reverse ds))
        (sym same) was.done;
    lines = was.lines;
    none_wasted =
        none_at_close workload (next_job workload.jobs share.places.items share.done.items) old new c run was.within past own
        was.none_wasted;
    left = λ few.
        stop_at_close workload (next_job workload.jobs share.places.items share.done.items) old new c run was.within past own
        (was.left few);
    few_reads = λ releasing lets.
        subst (λ (ds : List Committed). All (λ told. KeepsFew (job_at workload.jobs told.0) told.1) (zip share.places.items (reverse ds)))
        (sym same) (was.few_reads releasing (sym (lets_go_past old new past) ∙ lets));
    calls = calls_at_close (seed_for options share.worker) old new c past own was.calls;
    keeps = λ none. let_go_at_close old new c own ∙ was.keeps none;
  }
    where
      same : done_of new c ≡ done_of old c
      same = done_at_close keeps old new c run past own

  is_shared : {table : Table} {r : Round} {worker : Worker} → IsRun r → HasEnded workload options table worker →
      IsKnownBy r worker.caller → IsShared workload options r (share_of worker) (caller_number worker)
  is_shared {r = r} {worker = worker} run ended known = share_stays r run known.past known.own ended.shared

  -- what was done of all shares, by the callers of these workers
  pub all_shared : (table : Table) (r : Round) (workers : List Worker) → IsRun r → All (HasEnded workload options table) workers →
      All (λ (worker : Worker). IsKnownBy r worker.caller) workers →
      AreShared workload options r (map share_of workers) (map caller_number workers)
  all_shared table r [] run ended known = tt
  all_shared table r (worker ∷ workers) run ended known =
      let P : Worker → Type 0 = λ w. IsKnownBy r w.caller in (
        is_shared run (All-head (HasEnded workload options table) worker workers ended)
            (All-head P worker workers known),
        all_shared table r workers run (All-tail (HasEnded workload options table) worker workers ended)
            (All-tail P worker workers known),
      )

-- workers that have at each place what they had been asked were all asked the same
pub same_each : (old new : List Worker) → length new ≡ length old →
    ((k : ℕ) (d : Worker) → k < length old →
    asked_of (share_of (slice_index_or new k d)) ≡ asked_of (share_of (slice_index_or old k d))) →
    map (λ (worker : Worker). asked_of (share_of worker)) new ≡ map (λ (worker : Worker). asked_of (share_of worker)) old
same_each [] [] long same = refl
same_each [] (n ∷ ns) long same = absurd (omega (arith, long))
same_each (o ∷ os) [] long same = absurd (omega (arith, long))
same_each (o ∷ os) (n ∷ ns) long same =
    let asked : Worker → ℕ × List ℕ = λ worker. asked_of (share_of worker) in
    let first : asked n ≡ asked o = same 0 n (omega arith) in
    let rest : map asked ns ≡ map asked os = same_each os ns (omega (arith, long)) (λ k d below. same (suc k) d (omega (arith, below))) in
    ap (λ (a : ℕ × List ℕ). a ∷ map asked ns) first ∙ ap (λ (as' : List (ℕ × List ℕ)). asked o ∷ as') rest
