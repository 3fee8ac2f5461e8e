use Rattle.std.proofs.Common.{rules}
use Rattle.dstm_crew.proofs.Least.{none_all}
use Rattle.dstm_crew.proofs.collecting.first_of.Goals as goal

pub returns-in-Some-clause-first : goal.returns-in-Some-clause-first
returns-in-Some-clause-first c = (search rules, c.loop-place.invariant)

pub returns-clause-none : goal.returns-clause-none
returns-clause-none c = none_all c.args.numbers.now c.loop-place.place c.loop-place-test.false c.loop-place.invariant
