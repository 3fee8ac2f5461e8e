use Rattle.std.proofs.Common.{◌∙◌, arith, sym}
use Rattle.std.proofs.lemmas.Grind.{common_steps}
use Rattle.dstm_structures.proofs.Doing.{does-as, does-then, does-wider}
use Rattle.dstm_structures.proofs.Sets.{inserts-absent, inserts-there}
use Rattle.dstm_structures.proofs.Effects.{goes-stay}
use Rattle.dstm_structures.proofs.set.OrderedSet.insert.Goals as goal

pub returns-then-is_some-clause-inserts : goal.returns-then-is_some-clause-inserts
returns-then-is_some-clause-inserts g c =
    does-as (does-wider (omega arith) c.in_ok-found.ensures.seeks)
    (λ before after size. inserts-there c.args.self c.args.key c.in_ok-found.found before after
    (sym c.is_some.ensures ∙ c.if-is_some.true))

pub returns-clause-inserts : goal.returns-clause-inserts
returns-clause-inserts g c =
    does-then c.in_ok-found.ensures.goes.keeps (does-wider (omega arith) c.in_ok-found.ensures.seeks)
    c.in_ok-placed.ensures.adds
    (λ before mid after size. inserts-absent c.args.self c.args.key _ c.in_ok-found.found c.in_ok-placed.placed
    c.inserted_by.result before mid after (sym c.is_some.ensures ∙ c.if-is_some.false) c.inserted_by.ensures)

pub returns-in_err-placed-clause-stops : goal.returns-in_err-placed-clause-stops
returns-in_err-placed-clause-stops g c = let stay = goes-stay c.in_ok-found.ensures.goes in grind (arith, common_steps)
