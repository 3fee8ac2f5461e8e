use Rattle.std.proofs.Common.{List, sym, subst}
use Rattle.dstm_jobs.specs.Tables.{Round}
use Rattle.dstm_records.specs.Records.{AreFirstRounds}
use Rattle.dstm_records.specs.Running.{added}
use Rattle.dstm_records.proofs.First.{first_closed}
use Rattle.dstm_crew.proofs.Played.{first_rounds}
use Rattle.dstm_crew.proofs.crew.run_crew_packed.Goals as goal

-- ---- where no round was begun

-- ---- where memory ran out, and behind the last round

pub returns-in_err-played-clause-first : goal.returns-in_err-played-clause-first
returns-in_err-played-clause-first g c =
    let old = c.args.rounds.now in
    subst (λ (rs : List Round). AreFirstRounds c.args.workload.now c.args.options.now (added old rs)) (sym c.from_vec.ensures)
    (first_rounds c.in_ok-progress.ensures.rounds c.in_ok-progress.ensures.values c.play_rounds-played.ensures.come)

pub returns-in_err-played-clause-closed : goal.returns-in_err-played-clause-closed
returns-in_err-played-clause-closed g c =
    first_closed c.args.workload.now c.args.options.now (added c.args.rounds.now c.from_vec.result)
    (returns-in_err-played-clause-first g c)

pub returns-clause-first : goal.returns-clause-first
returns-clause-first g c =
    let old = c.args.rounds.now in
    subst (λ (rs : List Round). AreFirstRounds c.args.workload.now c.args.options.now (added old rs)) (sym c.from_vec.ensures)
    (first_rounds c.in_ok-progress.ensures.rounds c.in_ok-progress.ensures.values c.play_rounds-played.ensures.come)

pub returns-clause-closed : goal.returns-clause-closed
returns-clause-closed g c =
    first_closed c.args.workload.now c.args.options.now (added c.args.rounds.now c.from_vec.result)
    (returns-clause-first g c)
