use Rattle.dstm_crew.proofs.Least.{bound_all, least_all, place_within}
use Rattle.dstm_crew.proofs.collecting.least_of.Goals as goal

pub returns-clause-some : goal.returns-clause-some
returns-clause-some c =
    least_all c.args.numbers.now c.loop-place.place c.loop-place.least c.loop-place-test.false c.loop-place.invariant.0

pub returns-clause-ahead : goal.returns-clause-ahead
returns-clause-ahead c =
    bound_all c.args.numbers.now c.loop-place.place c.loop-place.least.0 c.loop-place.bound c.loop-place-test.false
    c.loop-place.invariant.1

pub returns-clause-within : goal.returns-clause-within
returns-clause-within c = place_within c.args.numbers.now c.loop-place.least c.loop-place.invariant.0.0
