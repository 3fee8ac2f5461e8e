use Rattle.std.proofs.Common.{arith, None, List}
use Rattle.dstm_tl2.specs.State.{Hold}
use Rattle.dstm_tl2_steps.proofs.Bounds.{drawn_below}
use Rattle.dstm_tl2_steps.proofs.WritingBack.{HighPut, LowPut, first_below, high_put, low_put, unlocked, unlocked_state}
use Rattle.dstm_tl2_steps.specs.Under.{IsFirst, now}
use Rattle.dstm_tl2_steps.proofs.steps.Steps.write_one.Given.{Over}
use Rattle.dstm_tl2_steps.proofs.steps.Steps.write_one.Goals.{After-write_high, After-write_low}
use Rattle.dstm_tl2_steps.proofs.steps.Steps.write_one.Goals as goal

pub write_low-requires-clause-exists : goal.write_low-requires-clause-exists
write_low-requires-clause-exists g c = first_below c.requires.first.1 c.requires.under

pub write_high-requires-clause-exists : goal.write_high-requires-clause-exists
write_high-requires-clause-exists g c = first_below c.requires.first.1 c.requires.under

pub unlock-requires-clause-exists : goal.unlock-requires-clause-exists
unlock-requires-clause-exists g c = first_below c.requires.first.1 c.requires.under

pub overflow_mul-number : goal.overflow_mul-number
overflow_mul-number g c =
    let few = drawn_below c.requires.under c.args.number c.requires.drawn in omega arith

pub overflow_add-number : goal.overflow_add-number
overflow_add-number g c =
    let few = drawn_below c.requires.under c.args.number c.requires.drawn in omega arith

low : (g : Over) (c : After-write_low g) (rest : List Hold)
    (first : IsFirst (now c.args.words.now c.args.self.now) (c.args.o, c.args.value) rest) →
    LowPut g.L.Law.holds c.args.words.now g.B.InCall.began c.args.number c.args.o c.args.value c.args.self.now rest
    first c.write_low.new.self
low g c rest first = low_put _ _ _ _ _ _ _ _ _ c.requires.under _ c.write_low.ensures.went.1

high : (g : Over) (c : After-write_high g) (rest : List Hold)
    (first : IsFirst (now c.args.words.now c.args.self.now) (c.args.o, c.args.value) rest) →
    LowPut g.L.Law.holds c.args.words.now g.B.InCall.began c.args.number c.args.o c.args.value c.args.self.now rest
    first c.write_low.new.self →
    HighPut g.L.Law.holds c.args.words.now g.B.InCall.began c.args.number c.args.o c.args.value c.args.self.now rest
    first c.write_high.new.self
high g c rest first put = high_put _ _ _ _ _ _ _ _ _ c.requires.under c.requires.drawn _ put c.write_high.ensures.went.1

pub write_high-requires-clause-under : goal.write_high-requires-clause-under
write_high-requires-clause-under g c =
    (low g (goal.at.write_high-requires-clause-under g c).After-write_low _ c.requires.first.1).under

pub unlock-requires-clause-under : goal.unlock-requires-clause-under
unlock-requires-clause-under g c =
    let at = goal.at.unlock-requires-clause-under g c in
    (None, (high g at.After-write_high _ c.requires.first.1 (low g at.After-write_low _ c.requires.first.1)).under)

pub returns-clause-state : goal.returns-clause-state
returns-clause-state g c rest first =
    let at = goal.at.returns-clause-state g c in
    let put = high g at.After-write_high rest first (low g at.After-write_low rest first) in
    unlocked_state _ _ _ _ _ _ _ _ first c.requires.under c.requires.drawn _ put
    (c.unlock.ensures.went None put.under).1

pub returns-clause-under : goal.returns-clause-under
returns-clause-under g c =
    let at = goal.at.returns-clause-under g c in
    let first = c.requires.first.1 in
    let put = high g at.After-write_high _ first (low g at.After-write_low _ first) in
    unlocked _ _ _ _ _ _ _ _ first c.requires.under c.requires.valid c.requires.drawn _
    (c.unlock.ensures.went None put.under).1 (returns-clause-state g c _ first)
