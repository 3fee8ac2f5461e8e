use Rattle.std.proofs.Common.{◌≡◌, ◌<◌, ◌≤◌, ◌+◌, ℕ, List, [], ◌∷◌, ◌++◌, arith, get_or, length, length-append, rules, refl, sym, ap, subst, ◌∙◌}
use Rattle.std.proofs.lemmas.List.{get_or_default}
use Rattle.dstm_workload.specs.declared.workload.Job.{Job}
use Rattle.dstm_report.specs.Turns.{job_at, no_job}
use Rattle.dstm_jobs.specs.declared.style.Style.{Style}
use Rattle.dstm_jobs.specs.declared.trying.Finished.{Finished}
use Rattle.dstm_crew.specs.Done.{DoneAs}
use Rattle.dstm_crew.specs.Releases.{releases}
use Rattle.dstm_crew.specs.Tries.{HasLeft}
use Rattle.dstm_crew.specs.Workers.{AreLines, next_job}
use Rattle.dstm_crew.proofs.Worked.{Stands, all_done, at_start, lines_push, next_is, not_loose, one_done, stopped}
use Rattle.dstm_crew.proofs.worker.Worker.run.Given.{Over}
use Rattle.dstm_crew.proofs.worker.Worker.run.Goals.{After-try_job}
use Rattle.dstm_crew.proofs.worker.Worker.run.Goals as goal

pub loop-at-init : goal.loop-at-init
loop-at-init g c =
    let workload = c.args.workload.now in
    let k = c.args.self.now.caller in
    let places = c.args.self.now.places.items in
    let ready = c.requires.ready in
    let stands : Stands workload c.style_for-style.result k k places [] =
    at_start workload c.style_for-style.result places ready.rest ready.none_done in (
      refl,
      refl,
      ap length ready.empty,
      ready.room,
      subst (λ (fs : List Finished). Stands workload c.style_for-style.result k k places fs) (sym ready.empty) stands,
      λ _. refl,
      subst (AreLines workload.jobs places) (sym ready.no_lines) tt,
      ap length ready.no_lines,
    )

-- the job of this turn is the next one
its_job : (g : Over) (c : After-try_job g) → (length c.loop-at.self.done.items < length c.loop-at.self.places.items)
    × (c.index.result.now ≡ get_or c.loop-at.self.places.items (length c.loop-at.self.done.items) c.index.result.now)
    × (c.index-jobs-index.result ≡ job_at c.args.workload.now.jobs c.index.result.now)
its_job g c =
    let place = c.index.result.now in
    let count : length c.loop-at.self.done.items ≡ c.loop-at.at = c.loop-at.invariant.2 in
    let inside : place < length c.as_slice-jobs.result.now = search rules in (
      search rules,
      c.index.ensures ∙ ap (λ (i : ℕ). get_or c.loop-at.self.places.items i place) (sym count),
      c.index-jobs-index.is ∙ get_or_default c.as_slice-jobs.result.now place c.index-jobs-index.result no_job inside
          ∙ ap (λ (js : List Job). job_at js place) c.as_slice-jobs.ensures,
    )

pub loop-at-preserved : goal.loop-at-preserved
loop-at-preserved g c =
    let workload = c.args.workload.now in
    let k = c.args.self.now.caller in
    let n = c.loop-at.self.caller in
    let m = c.try_job.new.caller in
    let places = c.loop-at.self.places.items in
    let finished = c.loop-at.self.done.items in
    let told = c.in-Ok.ensures.done in
    let next : Finished = told.0 in
    let place = c.index.result.now in
    let (more, at, is) = its_job g (goal.at.loop-at-preserved g c).After-try_job in
    let count : length finished ≡ c.loop-at.at = c.loop-at.invariant.2 in
    let job = c.index-jobs-index.result in
    let style = c.style_for-style.result in
    let stands : Stands workload style k m places (finished ++ next ∷ []) =
    one_done place c.loop-at.invariant.4 told.1.0 more at is in
    let before = c.loop-at.self.done.lines in
    let lined : length before ≡ c.loop-at.at = c.loop-at.invariant.7 in
    let items : c.try_job.new.all.items ≡ finished ++ next ∷ [] = ap (λ (d : DoneAs). d.items) told.1.1 in
    let lines : c.try_job.new.all.lines ≡ before ++ job.line ∷ [] = ap (λ (d : DoneAs). d.lines) told.1.1 in (
      c.loop-at.invariant.0,
      c.loop-at.invariant.1,
      ap length items ∙ length-append finished (next ∷ []) ∙ ap (λ (n : ℕ). n + 1) count,
      subst (λ (n : ℕ). length places ≤ n) (sym (ap (λ (d : DoneAs). d.room) told.1.1)) c.loop-at.invariant.3,
      subst (λ (fs : List Finished). Stands workload style k m places fs) (sym items) stands,
      λ none.
          c.try_job.ensures.keeps
          (not_loose c.args.options.now workload.version c.requires.valid.newest c.style_for-style.ensures none)
          ∙ c.loop-at.invariant.5 none,
      subst (AreLines workload.jobs places) (sym lines)
          (subst (λ (line : ℕ). AreLines workload.jobs places (before ++ line ∷ [])) (sym (ap (λ (j : Job). j.line) is))
          (lines_push workload.jobs places before place (omega (arith, more, count, lined))
          (subst (λ (i : ℕ). place ≡ get_or places i place) (count ∙ sym lined) at) c.loop-at.invariant.6)),
      ap length lines ∙ length-append before (job.line ∷ []) ∙ ap (λ (n : ℕ). n + 1) lined,
    )

pub returns-in-Err-clause-run : goal.returns-in-Err-clause-run
returns-in-Err-clause-run g c =
    let workload = c.args.workload.now in
    let n = c.loop-at.self.caller in
    let m = c.try_job.new.caller in
    let places = c.loop-at.self.places.items in
    let finished = c.loop-at.self.done.items in
    let place = c.index.result.now in
    let (more, at, is) = its_job g (goal.at.returns-in-Err-clause-run g c).After-try_job in
    let job = c.index-jobs-index.result in
    -- what it had done before is what it has done
    let same : c.try_job.new.all.items ≡ finished = ap (λ (d : DoneAs). d.items) c.in-Err.ensures.same in
    stopped workload c.args.options.now c.args.self.now _ c.requires.ready.none_begun c.style_for-style.ensures
    c.loop-at.invariant.0 (ap (λ v. v.items) c.loop-at.invariant.1)
    (subst (AreLines workload.jobs places) (sym (ap (λ (d : DoneAs). d.lines) c.in-Err.ensures.same)) c.loop-at.invariant.6)
    (releases c.args.options.now) job c.in-Err.field-0
    (subst (λ (fs : List Finished). Stands workload c.style_for-style.result c.args.self.now.caller n places fs) (sym same) c.loop-at.invariant.4)
    (subst (λ (s : Style). HasLeft s workload.layout job n m c.in-Err.field-0) c.style_for-style.ensures c.in-Err.ensures.left)
    (next_is workload.jobs places finished place more at is ∙ ap (next_job workload.jobs places) (sym same))

pub returns-clause-run : goal.returns-clause-run
returns-clause-run g c =
    all_done c.args.workload.now c.args.options.now c.args.self.now _ c.requires.ready.none_begun
    c.style_for-style.ensures c.loop-at.invariant.0 (ap (λ v. v.items) c.loop-at.invariant.1) c.loop-at.invariant.6
    c.loop-at.invariant.4 (search rules)
