use Rattle.std.proofs.Common.{ap, sym, ◌∙◌}
use Rattle.dstm_model.specs.Store.{Store}
use Rattle.dstm_report.specs.Turns.{Turning}
use Rattle.dstm_report.proofs.Rising.{jobs_left-none}
use Rattle.dstm_report.proofs.replay.Replay.new.Goals as goal

pub returns : goal.returns
returns c = record {
  good = tt;
  layout = ap (λ (s : Store). s.layout) c.in_ok-opening.ensures;
  store = c.in_ok-opening.ensures;
  turns = ap (λ (t : Turning). t.left) c.in_ok-turns.ensures ∙ c.as_slice.ensures ∙ sym (jobs_left-none c.args.workload.now.jobs);
}
