-- A source over a reader of the system.
use Rattle.std.specs.Prelude.{ℕ}
use Rattle.dstm_io.specs.declared.source.StdSource.{StdSource}

abbrev pub reader_of : {R : Type 0} → StdSource R → R
reader_of source = source.reader

-- how many faults it has counted
abbrev pub fault_count : {R : Type 0} → StdSource R → ℕ
fault_count source = source.faults
