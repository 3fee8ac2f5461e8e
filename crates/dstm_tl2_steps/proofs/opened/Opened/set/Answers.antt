use Rattle.std.proofs.Common.{arith}
use Rattle.dstm_tl2_steps.proofs.Placing.{IsOpen, set_here, set_others, set_there, slot_there, stands}
use Rattle.dstm_tl2_steps.proofs.opened.Opened.set.Goals.{After-index}
use Rattle.dstm_tl2_steps.proofs.opened.Opened.set.Goals as goal

open_at : (c : After-index) →
    IsOpen c.self.inside.writes.items c.self.inside.places.items c.self.inside.sets.items c.args.o c.index.result.now
open_at c = record {
  placed = c.self.invariant.writes;
  long = c.self.invariant.sets;
  below = rw (← c.self.view_is) at c.requires.exists;
  some = rw (← c.self.view_is) at c.requires.opened;
  found = c.index.ensures;
}

pub overflow_sub-slot : goal.overflow_sub-slot
overflow_sub-slot c = let some = stands (open_at (goal.at.overflow_sub-slot c).After-index) in omega arith

pub index_mut-requires : goal.index_mut-requires
index_mut-requires c =
    let within = (slot_there (open_at (goal.at.index_mut-requires c).After-index)).within in
    let ok = c.self.inside.writes.ok.0 in omega arith

pub index_mut-requires-2 : goal.index_mut-requires-2
index_mut-requires-2 c =
    let within = (slot_there (open_at (goal.at.index_mut-requires-2 c).After-index)).within in
    let long = c.self.invariant.sets in let ok = c.self.inside.sets.ok.0 in omega arith

pub returns-clause-writes : goal.returns-clause-writes
returns-clause-writes c =
    rw (← c.self.view_is) (set_there (open_at (goal.at.returns-clause-writes c).After-index) c.args.value
    c.index_mut.result.now c.index_mut.ensures.value)

pub returns-clause-set : goal.returns-clause-set
returns-clause-set c p other =
    let at = open_at (goal.at.returns-clause-set c).After-index in
    rw (← c.self.view_is) (rw (set_there at c.args.value c.index_mut.result.now c.index_mut.ensures.value)
    (set_others at c.args.value p other))

pub returns-clause-value : goal.returns-clause-value
returns-clause-value c =
    let at = open_at (goal.at.returns-clause-value c).After-index in
    rw (set_there at c.args.value c.index_mut.result.now c.index_mut.ensures.value) (set_here at c.args.value)
