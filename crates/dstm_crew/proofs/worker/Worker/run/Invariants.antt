use Rattle.std.proofs.Common.{◌≡◌, ◌≤◌, length}
use Rattle.dstm_tables.specs.Callers.{let_go}
use Rattle.dstm_records.specs.Records.{KeepsReads}
use Rattle.dstm_crew.specs.Workers.{AreLines}
use Rattle.dstm_crew.proofs.Worked.{Stands}
use Rattle.dstm_crew.proofs.worker.Worker.run.Given as goal

abbrev pub invariant-loop-at : goal.invariant-loop-at
invariant-loop-at g l =
    (l.self.number ≡ l.fn.self.number) × (l.self.places ≡ l.fn.self.places)
    × (length l.self.done.items ≡ l.at) × (length l.self.places.items ≤ l.self.done.room)
    × Stands l.workload l.style l.fn.self.caller l.self.caller l.self.places.items l.self.done.items
    × (KeepsReads l.options l.workload.version → let_go l.self.caller ≡ let_go l.fn.self.caller)
    × AreLines l.workload.jobs l.self.places.items l.self.done.lines × (length l.self.done.lines ≡ l.at)
