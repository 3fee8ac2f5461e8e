use Rattle.std.proofs.Common.{◌≡◌, ◌<◌, ◌∙◌, Some, length, refl, ap, sym}
use Rattle.dstm_tl2.specs.State.{read_of}
use Rattle.dstm_tl2_steps.specs.Opened.{write_at}
use Rattle.dstm_tl2_steps.specs.Under.{now}
use Rattle.dstm_tl2_steps.proofs.LockingAll.{has_slot, has_word, lists_now, locks_all, lost_ends, lost_lists, lost_under, then_goes_on, was_read}
use Rattle.dstm_tl2_steps.proofs.Slotted.{not_nothing}
use Rattle.dstm_tl2_steps.proofs.steps.Steps.lock_all.Given.{Over}
use Rattle.dstm_tl2_steps.proofs.steps.Steps.lock_all.Goals.{In-loop-write}
use Rattle.dstm_tl2_steps.proofs.steps.Steps.lock_all.Goals as goal

-- a write is left
within : (g : Over) (c : In-loop-write g) → c.loop-write.write-index < length c.args.opened.now.writes
within g c = rw (c.deref-write-items.ensures.value ∙ c.writes.ensures.items) at c.loop-write-test.true

-- it is of the object that is locked
named : (g : Over) (c : In-loop-write g) →
    (write_at c.args.opened.now.writes c.loop-write.write-index).0
    ≡ (write_at c.deref-write-items.result.now c.loop-write.write-index).0
named g c =
    ap (λ ws. (write_at ws c.loop-write.write-index).0)
    (sym (c.deref-write-items.ensures.value ∙ c.writes.ensures.items))

pub word-word-requires-clause-read : goal.word-word-requires-clause-read
word-word-requires-clause-read g c =
    has_slot c.requires.lists c.requires.rest
    c.loop-write.invariant.so_far c.requires.read (within g (goal.at.word-word-requires-clause-read g c).In-loop-write)
    _ (named g (goal.at.word-word-requires-clause-read g c).In-loop-write)

pub lock-requires-clause-exists : goal.lock-requires-clause-exists
lock-requires-clause-exists g c =
    let at = (goal.at.lock-requires-clause-exists g c).In-loop-write in
    rw (← c.requires.lists.objects, ← named g at) (c.writes.ensures.below c.loop-write.write-index (within g at))

pub lock-requires-clause-read : goal.lock-requires-clause-read
lock-requires-clause-read g c =
    not_nothing (read_of (write_at c.deref-write-items.result.now c.loop-write.write-index).0
    (now c.args.words.now c.loop-write.self).reads) (was_read c.requires.lists c.requires.rest
    c.loop-write.invariant.so_far c.requires.read (within g (goal.at.lock-requires-clause-read g c).In-loop-write)
    _ (named g (goal.at.lock-requires-clause-read g c).In-loop-write))

pub lock-requires-clause-word : goal.lock-requires-clause-word
lock-requires-clause-word g c =
    has_word c.requires.lists c.requires.rest
    c.loop-write.invariant.so_far c.requires.read (within g (goal.at.lock-requires-clause-word g c).In-loop-write)
    _ (named g (goal.at.lock-requires-clause-word g c).In-loop-write) c.word-word.result c.word-word.ensures

pub give_back-requires-clause-under : goal.give_back-requires-clause-under
give_back-requires-clause-under g c = (
  Some _,
  lost_under c.requires.lists c.requires.rest
      c.loop-write.invariant.so_far (within g (goal.at.give_back-requires-clause-under g c).In-loop-write)
      c.requires.work.0 c.requires.work.1 _ c.word-word.result c.in-Err.found
      c.writes-in-loop-write.ensures.items c.in-Err.ensures.went c.in-Err.ensures.answer refl,
)

pub give_back-requires-clause-lists : goal.give_back-requires-clause-lists
give_back-requires-clause-lists g c =
    rw c.loop-write.invariant.counted (lost_lists c.requires.lists c.requires.rest
    c.loop-write.invariant.so_far (within g (goal.at.give_back-requires-clause-lists g c).In-loop-write)
    c.requires.work.0 c.requires.work.1 _ c.word-word.result c.in-Err.found
    c.writes-in-loop-write.ensures.items c.in-Err.ensures.went c.in-Err.ensures.answer)

pub returns-in-Err-clause-ends : goal.returns-in-Err-clause-ends
returns-in-Err-clause-ends g c =
    lost_ends c.requires.lists c.requires.rest
    c.loop-write.invariant.so_far (within g (goal.at.returns-in-Err-clause-ends g c).In-loop-write)
    c.requires.work.0 c.requires.work.1 _ c.word-word.result c.in-Err.found
    c.writes-in-loop-write.ensures.items c.in-Err.ensures.went c.give_back.new.self
    c.in-Err.ensures.answer c.changed.ensures c.give_back.ensures.under

pub returns-clause-all : goal.returns-clause-all
returns-clause-all g c =
    let same : c.deref-write-items.result.now ≡ c.args.opened.now.writes =
    c.deref-write-items.ensures.value ∙ c.writes.ensures.items in
    c.loop-write.invariant.counted
    ∙ (locks_all c.loop-write.invariant.so_far (rw (← same) c.loop-write-test.false)).0

pub returns-clause-lists : goal.returns-clause-lists
returns-clause-lists g c =
    rw c.loop-write.invariant.counted (lists_now c.requires.lists c.requires.rest c.loop-write.invariant.so_far)

pub returns-clause-goes_on : goal.returns-clause-goes_on
returns-clause-goes_on g c =
    let same : c.deref-write-items.result.now ≡ c.args.opened.now.writes =
    c.deref-write-items.ensures.value ∙ c.writes.ensures.items in
    then_goes_on c.loop-write.invariant.so_far (rw (← same) c.loop-write-test.false)
