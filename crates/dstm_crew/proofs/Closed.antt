-- The shares of a round were run on a table that is closed.
use Rattle.std.proofs.Common.{◌≡◌, ◌∙◌, ◌++◌, ◌∷◌, ℕ, List, [], true, false, arith, drop, length, map, refl, sym, ap, subst, take}
use Rattle.std.proofs.lemmas.Grind.{common_steps}
use Rattle.std.specs.Prelude.{All}
use Rattle.std.proofs.lemmas.List.{length-map}
use Rattle.dstm_core.specs.declared.shape.Shape.{Shape}
use Rattle.dstm_model.specs.declared.value.Val.{Val}
use Rattle.dstm_model.specs.Objects.{objects_of}
use Rattle.dstm_workload.specs.declared.workload.Workload.{Workload}
use Rattle.dstm_options.specs.declared.options.Options.{Options}
use Rattle.dstm_jobs.specs.Tables.{Founder, IsOf, Table, layout_of}
use Rattle.dstm_tables.specs.Founders.{first_of, numbers_of, seen_by}
use Rattle.dstm_jobs.specs.Tables as known
use Rattle.dstm_tables.specs.Tells.{IsPast, callers_of, start_of, values_of}
use Rattle.dstm_tables.proofs.Same.{callers_past, first_seen, start_past}
use Rattle.dstm_jobs.proofs.Same.{layout_past, of_past}
use Rattle.dstm_records.specs.Records.{IsDstmMade, IsMade}
use Rattle.dstm_records.specs.Rounds.{attempts_for, is_parallel, locators_for}
use Rattle.dstm_records.proofs.Making.{made_past}
use Rattle.dstm_crew.specs.declared.share.Share.{Share}
use Rattle.dstm_crew.specs.declared.worker.Worker.{Worker}
use Rattle.dstm_crew.specs.Seats.{HasBack, HasEnded, caller_number, share_of}
use Rattle.dstm_crew.specs.Shares.{AreShared, WereRun, asked_of, most_places}
use Rattle.dstm_crew.proofs.Ended.{all_shared}

asked_each : (workers : List Worker) → map asked_of (map share_of workers) ≡ map (λ (worker : Worker). asked_of (share_of worker)) workers
asked_each [] = refl
asked_each (worker ∷ workers) =
    ap (λ (rest : List (ℕ × List ℕ)). asked_of (share_of worker) ∷ rest) (asked_each workers)

module _ (workload : Workload) (options : Options) (number : ℕ) where
  -- the table is as the options and the shares want it
  pub was_made : (shares : List Share) (shape : Shape) → is_parallel number ≡ true →
      shape.attempts ≡ attempts_for (most_places shares) → shape.locators ≡ locators_for shape.objects →
      shape.manager ≡ options.manager → shape.all_write ≡ options.all_write →
      IsDstmMade options workload.version number (most_places shares) shape
  was_made shares shape parallel attempts locators manager all_write = record {
    attempts = attempts;
    locators = locators;
    manager = manager;
    all_write = λ _. all_write;
    alone_writes = λ alone. absurd (let no_way : true ≡ false = sym parallel ∙ alone in cc);
  }

  module _ (table : Table) (f : Founder) (values left : List Val) (shares shares_then : List Share)
      (before workers : List Worker) where
    -- what there is when all callers were taken back and the table is closed
    pub record Closes : Type 0 where
      pub engine : IsOf options.engine (first_of table)
      pub layout : layout_of (first_of table) ≡ workload.layout
      pub start : start_of (first_of table) ≡ values
      pub objects : length values ≡ objects_of workload.layout
      pub callers : callers_of (first_of table) ≡ length shares
      pub made : IsMade options workload.version number (most_places shares) (first_of table)
      pub were : map share_of before ≡ shares
      pub same : map (λ (worker : Worker). asked_of (share_of worker)) workers
          ≡ map (λ (worker : Worker). asked_of (share_of worker)) before
      pub ended : All (HasEnded workload options table) workers
      pub back : HasBack table 0 workers f
      pub are : shares_then ≡ map share_of workers
      pub run : known.IsRun (seen_by f)
      pub left_is : left ≡ values_of (seen_by f)

    pub were_run : Closes → WereRun workload options number values left shares shares_then (seen_by f)
    were_run closes = record {
      engine = of_past options.engine (first_of table) (seen_by f) past closes.engine;
      run = record {
        law = layout_past (first_of table) (seen_by f) past ∙ closes.layout;
        objects = ap length start ∙ closes.objects;
        run = closes.run;
      };
      made =
          made_past options workload.version number (most_places shares) (first_of table) (seen_by f) past closes.made;
      start = start;
      left_is = closes.left_is;
      same = ap (map asked_of) closes.are ∙ asked_each workers ∙ closes.same ∙ sym (asked_each before)
          ∙ ap (map asked_of) closes.were;
      callers = numbers_of f;
      count = ap length closes.back.numbers ∙ length-map workers caller_number ∙ count ∙ sym closes.callers
          ∙ sym (callers_past (first_of table) (seen_by f) past);
      apart = closes.back.apart;
      shared =
          subst (λ (ss : List Share). AreShared workload options (seen_by f) ss (numbers_of f)) (sym closes.are)
          (subst (AreShared workload options (seen_by f) (map share_of workers)) (sym closes.back.numbers)
          (all_shared workload options table (seen_by f) workers closes.run closes.ended closes.back.known));
    }
      where
        past : IsPast (first_of table) (seen_by f)
        past = first_seen f table closes.back.home

        start : start_of (seen_by f) ≡ values
        start = start_past (first_of table) (seen_by f) past ∙ closes.start

        count : length workers ≡ length shares
        count =
            sym (length-map workers (λ (worker : Worker). asked_of (share_of worker))) ∙ ap length closes.same
            ∙ length-map before (λ (worker : Worker). asked_of (share_of worker))
            ∙ sym (length-map before share_of) ∙ ap length closes.were

-- the items of a vector that were written through a slice of all
pub written_back : (n : ℕ) (new old : List Worker) → n ≡ length old → length new ≡ length old →
    take n (new ++ drop (length new) old) ≡ new
written_back n new old whole same = grind (arith, common_steps)
