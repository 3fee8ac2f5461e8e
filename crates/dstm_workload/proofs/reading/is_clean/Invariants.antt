use Rattle.std.proofs.Common.{◌≡◌, ◌&&◌, drop}
use Rattle.std.specs.List.{list_all}
use Rattle.dstm_workload.specs.Entries.{is_clean}
use Rattle.dstm_workload.proofs.reading.is_clean.Given as goal

abbrev pub invariant-loop-byte : goal.invariant-loop-byte
invariant-loop-byte l = list_all is_clean l.bytes ≡ (l.clean && list_all is_clean (drop l.byte-index l.bytes))
