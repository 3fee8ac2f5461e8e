-- Workers get their callers from the founder of a new table, one after the other.
use Rattle.std.proofs.Common.{◌≡◌, ◌∙◌, ◌+◌, ℕ, List, [], ◌∷◌, ◌++◌, length, map, sym, ap, subst, append_assoc, length-append}
use Rattle.std.specs.Prelude.{All}
use Rattle.std.proofs.lemmas.List.{map_push}
use Rattle.std.proofs.lemmas.List.Elements.{All-cons, All-head, All-nil, All-push, All-tail}
use Rattle.dstm_words.specs.Seats.{AreApart}
use Rattle.dstm_workload.specs.declared.workload.Workload.{Workload}
use Rattle.dstm_jobs.specs.Tables.{Caller, Founder, GivesOut, Table, layout_of}
use Rattle.dstm_tables.specs.Callers.{CameByCalls, round_of}
use Rattle.dstm_tables.specs.Founders.{first_of, made_of, seen_by}
use Rattle.dstm_tables.proofs.Same.{first_past}
use Rattle.dstm_jobs.proofs.Same.{layout_is, layout_past}
use Rattle.dstm_options.specs.declared.options.Options.{Options}
use Rattle.dstm_records.specs.Records.{seed_for}
use Rattle.dstm_crew.specs.declared.share.Share.{Share}
use Rattle.dstm_crew.specs.declared.worker.Worker.{Worker}
use Rattle.dstm_crew.specs.Seats.{HasBack, HasCome, IsKnownBy, IsNew, share_of}
use Rattle.dstm_crew.specs.Shares.{IsOpen}
use Rattle.dstm_crew.specs.Workers.{IsReady}

module _ (table : Table) where
  is_new : {f g : Founder} {seed : ℕ} {k : Caller} → GivesOut table f g seed k → IsNew table k
  is_new gives = record {
    rests = record { home = gives.home; rest = gives.rest };
    none_begun = gives.none_begun;
    none_done = gives.none_done;
  }

  one_out : {f g : Founder} {seed out : ℕ} {k : Caller} → HasBack table out [] f → GivesOut table f g seed k →
      HasBack table (out + 1) [] g
  one_out {g = g} {out = out} back gives = record {
    home = gives.home_then ∙ back.home;
    guests = gives.guests ∙ back.guests;
    out = gives.out ∙ ap (λ (n : ℕ). n + 1) back.out;
    numbers = gives.back ∙ back.numbers;
    apart = subst AreApart (sym gives.back) back.apart;
    known = All-nil (λ (worker : Worker). IsKnownBy (seen_by g) worker.caller);
  }

  -- these workers have their callers, and these shares are left
  pub record Seats (shares : List Share) (workers : List Worker) (left : List Share) (f : Founder) : Type 0 where
    pub are : map share_of workers ++ left ≡ shares
    pub new : All (λ (worker : Worker). IsNew table worker.caller) workers
    pub made : made_of f ≡ length workers
    pub back : HasBack table (length workers) [] f

  count_push : (workers : List Worker) (worker : Worker) → length workers + 1 ≡ length (workers ++ worker ∷ [])
  count_push workers worker = sym (length-append workers (worker ∷ []))

  pub seats_one : {shares : List Share} {workers : List Worker} (left : List Share) {f g : Founder} {share : Share}
      (worker : Worker) {seed : ℕ} → Seats shares workers (share ∷ left) f → share_of worker ≡ share →
      GivesOut table f g seed worker.caller → Seats shares (workers ++ worker ∷ []) left g
  seats_one {workers = workers} left {f = f} {g = g} worker {seed = seed} seats is gives = record {
    are = ap (λ (ss : List Share). ss ++ left) (map_push share_of workers worker)
        ∙ append_assoc (map share_of workers) (share_of worker ∷ []) left
        ∙ ap (λ (s : Share). map share_of workers ++ s ∷ left) is
        ∙ seats.are;
    new = All-push (λ (w : Worker). IsNew table w.caller) workers worker seats.new (is_new gives);
    made = gives.made ∙ ap (λ (n : ℕ). n + 1) seats.made ∙ count_push workers worker;
    back = subst (λ (n : ℕ). HasBack table n [] g) (count_push workers worker) (one_out seats.back gives);
  }

  -- it has come by calls, and has let no read go
  pub has_come : (options : Options) {f g : Founder} {share : Share} (worker : Worker) → share_of worker ≡ share →
      GivesOut table f g (seed_for options share.worker) worker.caller → HasCome options worker
  has_come options worker is gives = record {
    by_calls = subst (λ (s : Share). CameByCalls (seed_for options s.worker) worker.caller) (sym is) gives.came;
    none_let_go = gives.none_let_go;
  }

  -- ---- workers with callers that have done nothing are ready

  is_ready : {workload : Workload} → layout_of (first_of table) ≡ workload.layout → (worker : Worker) →
      IsNew table worker.caller → IsOpen workload (share_of worker) → IsReady workload table worker
  is_ready law worker new still = record {
    home = new.rests.home;
    law = sym (layout_is worker.caller)
        ∙ layout_past (first_of table) (round_of worker.caller) (first_past worker.caller table new.rests.home) ∙ law;
    rest = new.rests.rest;
    none_begun = new.none_begun;
    none_done = new.none_done;
    within = still.within;
    empty = still.empty;
    no_lines = still.no_lines;
    room = still.room;
  }

  ready_by : (workload : Workload) → layout_of (first_of table) ≡ workload.layout → (workers : List Worker) →
      All (λ (worker : Worker). IsNew table worker.caller) workers → All (IsOpen workload) (map share_of workers) →
      All (IsReady workload table) workers
  ready_by workload law [] new still = All-nil (IsReady workload table)
  ready_by workload law (worker ∷ workers) new still =
      All-cons (IsReady workload table) worker workers
      (is_ready law worker (All-head (λ (w : Worker). IsNew table w.caller) worker workers new)
      (All-head (IsOpen workload) (share_of worker) (map share_of workers) still))
      (ready_by workload law workers (All-tail (λ (w : Worker). IsNew table w.caller) worker workers new)
      (All-tail (IsOpen workload) (share_of worker) (map share_of workers) still))

  pub all_ready : (workload : Workload) {shares : List Share} (workers : List Worker) →
      layout_of (first_of table) ≡ workload.layout → map share_of workers ≡ shares →
      All (λ (worker : Worker). IsNew table worker.caller) workers → All (IsOpen workload) shares →
      All (IsReady workload table) workers
  all_ready workload workers law are new still =
      ready_by workload law workers new (subst (All (IsOpen workload)) (sym are) still)
