use Rattle.std.proofs.Common.{◌≡◌, length, true}
use Rattle.dstm_workload.specs.Entries.{are_printable}
use Rattle.dstm_workload.proofs.ReadLoop.{ReadTo}
use Rattle.dstm_workload.proofs.reading.entries.Given as goal

abbrev pub invariant-loop-text : goal.invariant-loop-text
invariant-loop-text l = record {
  read : ReadTo l.fn.lines l.lines l.known l.line l.jobs.items;
  clean : l.clean ≡ true → are_printable l.lines ≡ true;
}

abbrev pub decreases-loop-text : goal.decreases-loop-text
decreases-loop-text l = length l.lines
