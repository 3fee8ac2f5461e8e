use Rattle.dstm_structures.proofs.Doing.{does-then}
use Rattle.dstm_structures.proofs.InOrder.{tells-below}
use Rattle.dstm_structures.proofs.ordered.OrderedMap.next_below.Goals as goal

pub returns-clause-tells : goal.returns-clause-tells
returns-clause-tells g c =
    does-then c.in_ok-place.ensures.goes.keeps c.in_ok-place.ensures.precedes c.in_ok-entry.ensures.looks
    (λ before mid after size. tells-below g.V.Word.found c.args.self c.args.key c.in_ok-place.place c.in_ok-entry.entry before mid
    after)
