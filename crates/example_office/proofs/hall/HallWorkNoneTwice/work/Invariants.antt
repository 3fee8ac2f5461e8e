use Rattle.std.proofs.Common.{◌≡◌}
use Rattle.dstm_tables.specs.Callers.{home_of}
use Rattle.example_office.proofs.hall.HallWorkNoneTwice.work.Given as goal

-- the part stays one of its table
abbrev pub invariant-loop-seat : goal.invariant-loop-seat
invariant-loop-seat l = home_of l.me.tx.attempts.caller ≡ home_of l.fn.me.tx.attempts.caller
