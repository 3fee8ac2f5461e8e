use Rattle.std.proofs.Common.{sym, ◌∙◌}
use Rattle.dstm_workload.proofs.CleanLines.{clean_lines}
use Rattle.dstm_workload.proofs.reading.read_workload.Goals as goal

pub entries-requires-clause-clean : goal.entries-requires-clause-clean
entries-requires-clause-clean c = λ clean.
    rw c.new.ensures.value (clean_lines c.args.bytes.now (sym c.is_clean-clean.ensures ∙ clean))
