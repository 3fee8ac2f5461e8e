use Rattle.dstm_structures.proofs.Doing.{does-then}
use Rattle.dstm_structures.proofs.InOrder.{tells-end}
use Rattle.dstm_structures.proofs.ordered.OrderedMap.end.Goals as goal

pub returns-clause-tells : goal.returns-clause-tells
returns-clause-tells g c =
    does-then c.in_ok-place.ensures.goes.keeps c.in_ok-place.ensures.ends c.in_ok-entry.ensures.looks
    (λ before mid after size. tells-end g.V.Word.found c.args.self c.args.greatest c.in_ok-place.place c.in_ok-entry.entry
    before mid after)
