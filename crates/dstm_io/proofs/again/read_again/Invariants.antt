use Rattle.std.specs.declared.io.Error.{Error}
use Rattle.std.specs.Io.KnownBytes.{ReadConsumes}
use Rattle.dstm_io.proofs.Repeats.{GoesOn}
use Rattle.dstm_io.proofs.again.read_again.Given as goal

-- the calls so far did nothing
abbrev pub invariant-loop : goal.invariant-loop
invariant-loop g l =
    GoesOn (ReadConsumes {E = Error}) (g.R.Read.remaining l.initial.reader) (g.R.Read.remaining l.reader)
