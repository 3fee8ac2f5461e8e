use Rattle.std.proofs.Common.{◌+◌, ◌∙◌, map, drop}
use Rattle.dstm_tl2.specs.Rules.{new_hold}
use Rattle.dstm_tl2_steps.specs.Opened.{write_at}
use Rattle.dstm_tl2_steps.specs.Under.{IsFirst, now}
use Rattle.dstm_tl2_steps.proofs.WritingBack.{next_is_first, one_written}
use Rattle.dstm_tl2_steps.proofs.steps.Steps.write_back.Given.{Over}
use Rattle.dstm_tl2_steps.proofs.steps.Steps.write_back.Goals.{In-loop-write}
use Rattle.dstm_tl2_steps.proofs.steps.Steps.write_back.Goals as goal

-- the write that is next is of the first object still locked
first : (g : Over) (c : In-loop-write g) →
    IsFirst (now c.args.words.now c.loop-write.self) (write_at c.deref-write-items.result.now c.loop-write.write-index)
    (map (new_hold (now c.args.words.now c.args.self.now))
    (drop (c.loop-write.write-index + 1) c.args.opened.now.writes))
first g c =
    let items = c.deref-write-items.ensures.value ∙ c.writes.ensures.items in
    rw items (next_is_first c.loop-write.invariant (rw items at c.loop-write-test.true) c.writes.ensures.apart)

pub write_one-requires-clause-first : goal.write_one-requires-clause-first
write_one-requires-clause-first g c = (_, first g (goal.at.write_one-requires-clause-first g c).In-loop-write)

pub loop-write-preserved : goal.loop-write-preserved
loop-write-preserved g c =
    one_written c.loop-write.invariant
    (c.write_one.ensures.state _ (first g (goal.at.loop-write-preserved g c).In-loop-write)) c.write_one.ensures.under
