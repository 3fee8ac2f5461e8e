use Rattle.std.proofs.Common.{◌≡◌, ◌+◌, List, [], ◌∷◌, ◌++◌, true, length, Some, rules, arith, refl, ap, sym, subst, ◌∙◌}
use Rattle.std.proofs.lemmas.List.{length-append}
use Rattle.dstm_report.specs.declared.report.Row.{Row}
use Rattle.dstm_report.specs.Lawful.{first_job}
use Rattle.dstm_report.specs.Turns.{Turning}
use Rattle.dstm_report.proofs.Rising.{first_own, length-without_first}
use Rattle.dstm_jobs.specs.Styles.{CanTry}
use Rattle.dstm_crew.specs.Releases.{releases}
use Rattle.dstm_crew.proofs.Worked.{can_try, loose_style}
use Rattle.dstm_crew.specs.Alone.{MayStep, Sweeps}
use Rattle.dstm_crew.proofs.Sweeps.{job_is, may_on, step_blocked, step_done, step_none, step_spent, third_of, turns_after}
use Rattle.dstm_crew.proofs.sweeping.try_first.Given.{Over}
use Rattle.dstm_crew.proofs.sweeping.try_first.Goals.{After-push_row, In-Done, In-Some}
use Rattle.dstm_crew.proofs.sweeping.try_first.Goals as goal

pub returns-in_default-clause-stepped : goal.returns-in_default-clause-stepped
returns-in_default-clause-stepped g c first before begun some can sweeps =
    step_none can c.requires.worker (search rules) sweeps

-- the job is the first one left of its worker
turn : (g : Over) (c : In-Some g) → (c.in-Some.job.now.worker ≡ c.args.worker)
    × (first_job c.in-Some.job.now.worker c.args.turns.now.left ≡ Some c.in-Some.job.now)
turn g c =
    let job = c.in-Some.job.now in
    let own : first_job c.args.worker c.args.turns.now.left ≡ Some job = search rules in
    let same = first_own c.args.worker c.args.turns.now.left job own in
    (same, ap (λ w. first_job w c.args.turns.now.left) same ∙ own)

-- the row that tells of it
abbrev row : (g : Over) → In-Done g → Row
row g c = record {
  line = c.in-Some.job.now.line;
  worker = c.in-Some.job.now.worker;
  round = c.args.number;
  number = c.in-Done.finished.number;
  replies = c.in-Done.finished.replies;
}

-- its turn ends
fewer : (g : Over) (c : After-push_row g) → length c.push_row.new.turns.left + 1 ≡ length c.args.turns.now.left
fewer g c =
    let job = c.in-Some.job.now in
    let left = c.args.turns.now.left in
    let own : first_job c.args.worker left ≡ Some job = search rules in
    ap (λ (t : Turning). length t.left + 1) c.push_row.ensures.turns
    ∙ length-without_first job.worker left job (ap (λ w. first_job w left) (first_own c.args.worker left job own) ∙ own)

pub try_alone-requires-clause-can : goal.try_alone-requires-clause-can
try_alone-requires-clause-can g c =
    let workload = c.args.play.now.workload.now in
    let job = c.in-Some.job.now in
    let turn : first_job c.args.worker c.args.turns.now.left ≡ Some job = search rules in
    subst (λ s. CanTry s workload.layout job) (sym c.style_for-style.ensures)
    (can_try workload (releases c.args.play.now.options.now) job c.requires.may.valid
    (job_is c.args.rows.now.items c.args.worker job c.requires.may.valid c.requires.may.turns_are turn))

pub push_row-requires-clause-turn : goal.push_row-requires-clause-turn
push_row-requires-clause-turn g c = (turn g (goal.at.push_row-requires-clause-turn g c).In-Some).1

pub returns-in-Done-clause-may : goal.returns-in-Done-clause-may
returns-in-Done-clause-may g c =
    let workload = c.args.play.now.workload.now in
    let job = c.in-Some.job.now in
    let rows = c.args.rows.now.items in
    let at = goal.at.returns-in-Done-clause-may g c in
    let row = row g at.In-Done in
    subst (λ (rs : List Row). MayStep workload c.args.table.now c.try_alone.new.caller rs c.push_row.new.turns)
    (sym c.push_row.ensures.rows) (may_on (rows ++ row ∷ []) c.requires.may c.in-Done.ensures.tried.made.on
    (turns_after rows row job c.requires.may.valid c.requires.may.turns_are
    (turn g at.In-Some).1 refl c.push_row.ensures.turns))

pub returns-in-Done-clause-room : goal.returns-in-Done-clause-room
returns-in-Done-clause-room g c =
    let fewer = fewer g (goal.at.returns-in-Done-clause-room g c).After-push_row in
    let len = ap length c.push_row.ensures.rows
    ∙ length-append c.args.rows.now.items (row g (goal.at.returns-in-Done-clause-room g c).In-Done ∷ []) in
    omega (arith, fewer, len, c.requires.room, c.push_row.ensures.room)

pub returns-in-Done-clause-fewer : goal.returns-in-Done-clause-fewer
returns-in-Done-clause-fewer g c =
    let fewer = fewer g (goal.at.returns-in-Done-clause-fewer g c).After-push_row in
    omega (arith, fewer)

pub returns-in-Done-clause-stepped : goal.returns-in-Done-clause-stepped
returns-in-Done-clause-stepped g c first before begun some can sweeps =
    let workload = c.args.play.now.workload.now in
    let options = c.args.play.now.options.now in
    let job = c.in-Some.job.now in
    let rows = c.args.rows.now.items in
    let left = c.args.turns.now.left in
    let own : first_job c.args.worker left ≡ Some job = search rules in
    let row = row g (goal.at.returns-in-Done-clause-stepped g c).In-Done in
    subst (λ (rs : List Row). Sweeps workload options c.args.number first c.try_alone.new.caller before rs
    c.push_row.new.turns (c.args.worker + 1) true) (sym c.push_row.ensures.rows)
    (step_done can row c.requires.worker (λ releasing. c.style_for-style.ensures ∙ loose_style releasing) own
    c.in-Done.ensures.tried (first_own c.args.worker left job own) refl refl refl refl c.push_row.ensures.turns sweeps)

pub returns-in-Blocked-clause-stepped : goal.returns-in-Blocked-clause-stepped
returns-in-Blocked-clause-stepped g c first before begun some can sweeps =
    let workload = c.args.play.now.workload.now in
    let job = c.in-Some.job.now in
    let turn : first_job c.args.worker c.args.turns.now.left ≡ Some job = search rules in
    step_blocked can c.requires.worker
    (λ is. third_of workload.version (releases c.args.play.now.options.now) (sym c.style_for-style.ensures ∙ is)) turn c.in-Blocked.ensures.tried sweeps

pub returns-in-Spent-clause-stepped : goal.returns-in-Spent-clause-stepped
returns-in-Spent-clause-stepped g c first before begun some can sweeps =
    let job = c.in-Some.job.now in
    let turn : first_job c.args.worker c.args.turns.now.left ≡ Some job = search rules in
    step_spent can job c.requires.worker turn c.in-Spent.ensures.tried sweeps
