use Rattle.std.proofs.Common.{◌≡◌, ◌≤◌, length}
use Rattle.std.specs.Prelude.{vec_capacity}
use Rattle.dstm_engine.specs.Companies.{AreNew, AreOut}
use Rattle.dstm_engine.proofs.stm.Founder.callers.Given as goal

-- those made so far are out, and the others have room
abbrev pub invariant-loop-seed : goal.invariant-loop-seed
invariant-loop-seed g l = record {
  callers : AreNew g.L.Law.holds l.fn.stm l.callers.items;
  out : AreOut (length l.callers.items) l.fn.self l.self;
  count : length l.callers.items ≡ l.seed;
  room : l.fn.count ≤ vec_capacity l.callers;
}
