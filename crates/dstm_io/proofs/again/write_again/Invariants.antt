use Rattle.std.specs.declared.io.Error.{Error}
use Rattle.std.specs.Io.KnownBytes.{WriteAppends}
use Rattle.dstm_io.proofs.Repeats.{GoesOn}
use Rattle.dstm_io.proofs.again.write_again.Given as goal

-- the calls so far did nothing
abbrev pub invariant-loop : goal.invariant-loop
invariant-loop g l =
    GoesOn (WriteAppends {E = Error}) (g.W.Write.contents l.initial.writer) (g.W.Write.contents l.writer)
