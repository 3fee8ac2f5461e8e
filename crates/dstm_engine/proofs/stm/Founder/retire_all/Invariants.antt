use Rattle.std.proofs.Common.{◌≡◌, ◌≤◌, ◌+◌, length}
use Rattle.std.specs.Prelude.{All}
use Rattle.dstm_core.specs.Traces.{IsPastOf}
use Rattle.dstm_engine.specs.Companies.{IsOfTable}
use Rattle.dstm_engine.proofs.Companies.{AreLeftOf}
use Rattle.dstm_engine.proofs.stm.Founder.retire_all.Given as goal

-- those that are left are out, and the others were retired
abbrev pub invariant-loop-caller : goal.invariant-loop-caller
invariant-loop-caller g l = record {
  callers : All (IsOfTable l.fn.stm) l.callers.items;
  table : l.self.home ≡ l.fn.stm;
  guests : l.self.guests ≡ l.fn.self.guests;
  made : l.self.made ≡ l.fn.self.made;
  past : IsPastOf l.fn.self.view.log l.self.view.log;
  gone : AreLeftOf g.L.Law.holds l.fn.stm l.self.view l.fn.callers.items l.callers.items;
  left : length l.callers.items ≤ l.self.view.out;
  out : l.self.view.out + length l.fn.callers.items ≡ l.fn.self.view.out + length l.callers.items;
}

abbrev pub decreases-loop-caller : goal.decreases-loop-caller
decreases-loop-caller g l = length l.callers.items
