use Rattle.std.proofs.Common.{◌≡◌, true, List, nat_lt, length, rules, sym, subst}
use Rattle.dstm_report.specs.declared.report.Row.{Row}
use Rattle.dstm_records.specs.Running.{turns_behind}
use Rattle.dstm_records.proofs.Running.{Reached, at_first}
use Rattle.dstm_crew.specs.declared.progress.Progress.{Progress}
use Rattle.dstm_crew.proofs.Played.{Stands, one_round_more, with_room}
use Rattle.dstm_crew.proofs.rounds.play_rounds.Given.{Over}
use Rattle.dstm_crew.proofs.rounds.play_rounds.Goals.{After-reserve-in-loop-more, In_ok-reserve-2}
use Rattle.dstm_crew.proofs.rounds.play_rounds.Goals as goal

pub loop-more-init : goal.loop-more-init
loop-more-init g c =
    let workload = c.args.play.now.workload.now in
    let start = c.args.progress.now.values.items in
    let old = c.args.progress.now.rounds.items in
    record {
      reached = subst (λ (rows : List Row). Reached workload c.args.play.now.options.now start old old rows start 0 true)
          (sym c.requires.rows) (at_first workload c.args.play.now.options.now start old c.requires.begins);
      turned = subst (λ (rows : List Row). c.args.progress.now.turns ≡ turns_behind workload rows) (sym c.requires.rows)
          c.requires.turns;
    }

-- what there is once room is reserved
abbrev reserved : (g : Over) → After-reserve-in-loop-more g → Progress
reserved g c = record c.loop-more.progress { rows = c.reserve.new.self; rounds = c.reserve-in-loop-more.new.self }

-- stands where it stood
stands : (g : Over) (c : In_ok-reserve-2 g) → Stands c.args.play.now.workload.now c.args.play.now.options.now
    c.args.progress.now.values.items c.args.progress.now.rounds.items
    (record c.loop-more.progress { rows = c.reserve.new.self; rounds = c.reserve-in-loop-more.new.self })
    c.loop-more.number c.loop-more.more
stands g c =
    with_room c.args.play.now.workload.now c.args.play.now.options.now c.args.progress.now.values.items
    c.args.progress.now.rounds.items c.loop-more.progress c.loop-more.number c.loop-more.more c.reserve.ensures.items
    c.reserve-in-loop-more.ensures.items
    c.loop-more.invariant.reached

pub loop-more-preserved : goal.loop-more-preserved
loop-more-preserved g c =
    let workload = c.args.play.now.workload.now in
    let options = c.args.play.now.options.now in
    let start = c.args.progress.now.values.items in
    let old = c.args.progress.now.rounds.items in
    let p = reserved g (goal.at.loop-more-preserved g c).After-reserve-in-loop-more in
    let q = c.play_round.new.progress in
    let played = c.in_ok-play_round.ensures.played in
    let more = nat_lt c.len-in-loop-more.result (length c.as_slice-jobs.result.now) in
    let more_is : more ≡ nat_lt (length q.rows.items) (length workload.jobs) = search rules in
    record {
      reached = one_round_more workload options start old p c.loop-more.number more more_is played c.loop-more.more
          (stands g (goal.at.loop-more-preserved g c).In_ok-reserve-2);
      turned = played.turns_are;
    }
