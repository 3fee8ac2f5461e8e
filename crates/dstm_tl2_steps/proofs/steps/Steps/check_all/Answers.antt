use Rattle.std.proofs.Common.{◌<◌, ◌≤◌, ◌∙◌, length, ap, arith, sym, true, false}
use Rattle.dstm_tl2_steps.specs.Under.{now}
use Rattle.dstm_tl2_steps.proofs.Checking.{checked_all, checked_none, checked_one, next_is, slot_is, slot_read_is, some_number}
use Rattle.dstm_tl2_steps.proofs.steps.Steps.check_all.Goals as goal
use Rattle.dstm_tl2_steps.proofs.steps.Steps.check_all.Goals.{then-is_none+else-is_some, else-is_none}

pub check_one-bad-requires-clause-next : goal.check_one-bad-requires-clause-next
check_one-bad-requires-clause-next g c =
    let within : c.loop-slot.slot-index < length c.args.opened.now.reads =
    rw c.reads-slot-items.ensures.items at c.loop-slot-test.true in
    slot_read_is c.loop-slot.slot-index c.reads-slot-items.ensures.items
    (next_is c.args.opened.now.reads c.loop-slot.slot-index c.loop-slot.invariant within
    (slot_is c.args.opened.now.writes c.loop-slot.slot-index c.is_none.result true c.reads-slot-items.ensures.items
    c.write.ensures c.is_none.ensures c.if-is_none.true)).read

pub loop-slot-preserved : goal.loop-slot-preserved
loop-slot-preserved g c =
    let within : c.loop-slot.slot-index < length c.args.opened.now.reads =
    rw c.reads-slot-items.ensures.items at c.loop-slot-test.true in
    elim c.if-is_none.branch [
      | then-is_none+else-is_some w ↦
          rw w.self-is (checked_one w.check_one-bad.new.self c.args.opened.now.reads c.loop-slot.slot-index
          c.loop-slot.invariant within (slot_is c.args.opened.now.writes
          c.loop-slot.slot-index c.is_none.result true c.reads-slot-items.ensures.items
          c.write.ensures c.is_none.ensures w.if-is_none.true)
          w.check_one-bad.result (sym w.is_some.ensures ∙ w.if-is_some.false) w.check_one-bad.ensures.good
          c.requires.sound.0 w.check_one-bad.ensures.rest)
      | else-is_none w ↦
          rw w.self-is (checked_none c.args.opened.now.reads c.loop-slot.slot-index c.loop-slot.invariant within
          (slot_is c.args.opened.now.writes c.loop-slot.slot-index c.is_none.result false c.reads-slot-items.ensures.items
          c.write.ensures c.is_none.ensures w.if-is_none.false))
    ]

pub returns-clause-good : goal.returns-clause-good
returns-clause-good g c =
    let all : length c.args.opened.now.reads ≤ c.loop-slot.slot-index =
    (let n = ap length c.reads-slot-items.ensures.items in let end = c.loop-slot-test.false in omega arith) in (
      checked_all c.args.opened.now.reads c.loop-slot.slot-index c.loop-slot.invariant all
          (some_number (now c.args.words.now c.args.self.now).drawn c.requires.drawn) c.requires.sound.0,
      c.loop-slot.invariant.under,
    )
