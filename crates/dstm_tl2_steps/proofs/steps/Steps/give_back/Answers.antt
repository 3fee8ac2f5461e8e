use Rattle.std.proofs.Common.{arith}
use Rattle.dstm_tl2_steps.proofs.GivingBack.{gives_one, next_due, next_is_held, next_may, next_was_read}
use Rattle.dstm_tl2_steps.proofs.Slotted.{object_at}
use Rattle.dstm_tl2_steps.proofs.steps.Steps.give_back.Goals as goal

pub word-word-requires-clause-read : goal.word-word-requires-clause-read
word-word-requires-clause-read g c =
    next_was_read c.requires.lists c.requires.few c.loop-i-test.true c.loop-i.invariant c.requires.under
    _ (object_at c.loop-i.i c.args.locked.now c.writes-writes.ensures.items c.requires.few c.loop-i-test.true
    c.index.ensures)

pub unlock-requires-clause-under : goal.unlock-requires-clause-under
unlock-requires-clause-under g c = (
  c.requires.under.0,
  next_due c.requires.lists c.requires.few c.loop-i-test.true
      c.loop-i.invariant c.requires.under
      _ (object_at c.loop-i.i c.args.locked.now c.writes-writes.ensures.items c.requires.few c.loop-i-test.true
      c.index.ensures) c.word-word.result c.word-word.ensures c.requires.under.1,
)

pub unlock-requires-clause-held : goal.unlock-requires-clause-held
unlock-requires-clause-held g c =
    next_is_held c.requires.lists c.requires.few c.loop-i-test.true c.loop-i.invariant c.requires.under
    _ (object_at c.loop-i.i c.args.locked.now c.writes-writes.ensures.items c.requires.few c.loop-i-test.true
    c.index.ensures)

pub unlock-requires-clause-may : goal.unlock-requires-clause-may
unlock-requires-clause-may g c =
    next_may c.requires.lists c.requires.few c.loop-i-test.true c.loop-i.invariant c.requires.under
    _ (object_at c.loop-i.i c.args.locked.now c.writes-writes.ensures.items c.requires.few c.loop-i-test.true
    c.index.ensures) c.word-word.result c.word-word.ensures (c.requires.may (λ q. let left = c.loop-i-test.true in omega arith))

pub loop-i-preserved : goal.loop-i-preserved
loop-i-preserved g c =
    gives_one c.requires.lists c.requires.few c.loop-i-test.true c.loop-i.invariant c.requires.under
    _ (object_at c.loop-i.i c.args.locked.now c.writes-writes.ensures.items c.requires.few c.loop-i-test.true
    c.index.ensures) c.word-word.result c.word-word.ensures c.unlock.new.self c.writes-writes.ensures.apart
    c.requires.failed c.unlock.ensures.went
