use Rattle.std.proofs.Common.{◌≡◌}
use Rattle.dstm_records.specs.Running.{turns_behind}
use Rattle.dstm_records.proofs.Running.{rounds_left}
use Rattle.dstm_crew.proofs.Played.{Stands}
use Rattle.dstm_crew.proofs.rounds.play_rounds.Given as goal

abbrev pub invariant-loop-more : goal.invariant-loop-more
invariant-loop-more g l = record {
  reached : Stands l.play.workload.now l.play.options.now l.fn.progress.values.items l.fn.progress.rounds.items l.progress
      l.number l.more;
  turned : l.progress.turns ≡ turns_behind l.play.workload.now l.progress.rows.items;
}

abbrev pub decreases-loop-more : goal.decreases-loop-more
decreases-loop-more g l = rounds_left l.play.workload.now l.progress.rows.items l.number l.more
