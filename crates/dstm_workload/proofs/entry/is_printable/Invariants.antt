use Rattle.std.proofs.Common.{◌≡◌, ◌&&◌, drop}
use Rattle.std.specs.List.{list_all}
use Rattle.dstm_workload.specs.Entries.{is_printable}
use Rattle.dstm_workload.proofs.entry.is_printable.Given as goal

abbrev pub invariant-loop-byte : goal.invariant-loop-byte
invariant-loop-byte l =
    list_all is_printable l.text ≡ (l.printable && list_all is_printable (drop l.byte-index l.text))
