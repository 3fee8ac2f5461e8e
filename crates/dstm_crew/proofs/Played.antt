-- A run, round by round: what a round that was played adds to it.
use Rattle.std.proofs.Common.{◌≡◌, ℕ, ◌+◌, Bool, List, [], ◌∷◌, ◌++◌, length, drop, ap, sym, subst, ◌∙◌}
use Rattle.std.specs.Prelude.{nat_lt}
use Rattle.std.proofs.Math.Seq.{drop-append_seam}
use Rattle.dstm_model.specs.declared.value.Val.{Val}
use Rattle.dstm_workload.specs.declared.workload.Job.{Job}
use Rattle.dstm_workload.specs.declared.workload.Workload.{Workload}
use Rattle.dstm_report.specs.declared.report.Row.{Row}
use Rattle.dstm_report.specs.Turns.{Turning}
use Rattle.dstm_report.proofs.Rising.{jobs_left-none}
use Rattle.dstm_options.specs.declared.options.Options.{Options}
use Rattle.dstm_jobs.specs.Tables.{Round}
use Rattle.dstm_records.specs.Running.{added, turns_behind}
use Rattle.dstm_records.specs.Records.{AreFirstRounds, AreRoundsOf}
use Rattle.dstm_store.specs.Opening.{opening_values}
use Rattle.dstm_records.proofs.Running.{Reached, round_more}
use Rattle.dstm_crew.specs.declared.progress.Progress.{Progress}
use Rattle.dstm_crew.specs.Playing.{HasCome, HasPlayed}

-- what stands behind the others was added
pub added_is : (old : List Round) {new : List Round} (more : List Round) → new ≡ old ++ more → added old new ≡ more
added_is old more is = ap (drop (length old)) is ∙ drop-append_seam old more

-- a run that has come so far has added the records of its first rounds
pub first_rounds : {workload : Workload} {options : Options} {p q : Progress} {records : List Round} →
    p.rounds.items ≡ records → p.values.items ≡ opening_values workload.layout → HasCome workload options p q →
    AreFirstRounds workload options (added records q.rounds.items)
first_rounds {workload = workload} {options = options} {q = q} {records = records} same values come =
    let is : added records q.rounds.items ≡ come.more =
    added_is records come.more (come.behind ∙ ap (λ (rs : List Round). rs ++ come.more) same) in
    subst (AreFirstRounds workload options) (sym is) (record {
      rows = come.rows;
      good = come.good;
      each = subst (λ (vs : List Val). AreRoundsOf workload options come.rows 0 [] vs come.more) values come.each;
      all_rows = come.all_rows;
    })

-- before the first round all jobs are left
pub all_left : (workload : Workload) {jobs : List Job} {turns : Turning} → jobs ≡ workload.jobs →
    turns ≡ record { jobs = jobs; left = jobs } → turns ≡ turns_behind workload []
all_left workload {jobs = jobs} same turned =
    turned ∙ ap (λ (js : List Job). record { jobs = js; left = js }) same
    ∙ ap (λ (left : List Job). record { jobs = workload.jobs; left = left }) (sym (jobs_left-none workload.jobs))

module _ (workload : Workload) (options : Options) (start : List Val) (old : List Round) (p : Progress) (number : ℕ) where
  -- where the run stands
  abbrev pub Stands : Bool → Type 0
  Stands more = Reached workload options start old p.rounds.items p.rows.items p.values.items number more

  -- room was taken for more
  pub with_room : (more : Bool) {rows : List Row} {rounds : List Round} → rows ≡ p.rows.items → rounds ≡ p.rounds.items
      →
      Stands more → Reached workload options start old rounds rows p.values.items number more
  with_room more {rows = rows} same_rows same_rounds r =
      subst (λ (rs : List Round). Reached workload options start old rs rows p.values.items number more) (sym same_rounds)
      (subst (λ (rs : List Row). Reached workload options start old p.rounds.items rs p.values.items number more)
      (sym same_rows) r)

  module _ {q : Progress} (next : Bool) (more_is : next ≡ nat_lt (length q.rows.items) (length workload.jobs))
      (played : HasPlayed workload options number p q) where
    -- one round more
    pub one_round_more : (more : Bool) → Stands more →
        Reached workload options start old q.rounds.items q.rows.items q.values.items (number + 1) next
    one_round_more more r =
        subst (λ (rs : List Round). Reached workload options start old rs q.rows.items q.values.items (number + 1) next)
        (sym played.rounds_are)
        (subst (λ (rs : List Row). Reached workload options start old (p.rounds.items ++ played.closed ∷ []) rs q.values.items
        (number + 1) next) (sym played.rows_are)
        (round_more workload options start old p.rounds.items p.rows.items p.values.items number more played.closed played.now
        q.values.items next r played.adds
        (more_is ∙ ap (λ (rs : List Row). nat_lt (length rs) (length workload.jobs)) played.rows_are)))
