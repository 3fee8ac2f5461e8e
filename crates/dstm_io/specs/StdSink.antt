-- A sink over a writer of the system.
use Rattle.std.specs.Prelude.{ℕ}
use Rattle.dstm_io.specs.declared.sink.StdSink.{StdSink}

abbrev pub writer_of : {W : Type 0} → StdSink W → W
writer_of sink = sink.writer

-- how many faults it has counted
abbrev pub fault_count : {W : Type 0} → StdSink W → ℕ
fault_count sink = sink.faults
