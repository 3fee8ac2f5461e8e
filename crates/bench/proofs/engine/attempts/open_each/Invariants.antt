use Rattle.std.proofs.Common.{◌≡◌}
use Rattle.std.specs.Prelude.{IsTrue}
use Rattle.dstm_engine.specs.Callers.{is_live, shape_of}
use Rattle.bench.proofs.engine.attempts.open_each.Given as goal

-- the attempt stays live, on the same table
abbrev pub invariant-loop-o : goal.invariant-loop-o
invariant-loop-o g l = record {
  live : IsTrue (is_live l.tx.caller.now);
  shape : shape_of l.tx.caller.now ≡ shape_of l.fn.tx.caller.now;
  reference : l.tx.caller.ghost_name ≡ l.fn.tx.caller.ghost_name;
  table : l.tx.stm.now ≡ l.fn.tx.stm.now;
  home : l.tx.caller.now.home ≡ l.fn.tx.caller.now.home;
}
