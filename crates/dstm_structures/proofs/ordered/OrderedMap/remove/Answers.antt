use Rattle.std.proofs.Common.{arith, ◌∙◌}
use Rattle.std.proofs.lemmas.Grind.{common_steps}
use Rattle.dstm_structures.specs.Maps.{Seeks}
use Rattle.dstm_structures.proofs.Doing.{does-as, does-is, does-read, does-thrice, does-wider}
use Rattle.dstm_structures.proofs.Placing.{removes-none, removes-some}
use Rattle.dstm_structures.proofs.Effects.{goes-stay, notes-stay}
use Rattle.dstm_structures.proofs.ordered.OrderedMap.remove.Goals as goal

pub returns-in_default-clause-removes : goal.returns-in_default-clause-removes
returns-in_default-clause-removes g c =
    does-as (does-wider (omega arith)
    (does-is (Seeks c.args.self.map c.args.key) c.in_default.is c.in_ok-found.ensures.seeks))
    (λ before after size. removes-none g.V.Word.found c.args.self c.args.key before after)

pub returns-clause-removes : goal.returns-clause-removes
returns-clause-removes g c =
    does-thrice c.in_ok-found.ensures.goes.keeps c.in_ok-value.ensures.keeps (does-wider (omega arith)
    (does-is (Seeks c.args.self.map c.args.key) c.in-Some.is c.in_ok-found.ensures.seeks))
    (does-read c.in_ok-value.ensures.gets) c.in_ok-take.ensures.takes
    (λ before near mid after size. removes-some g.V.Word.found c.args.self c.args.key c.in-Some.at c.value_at.result.object
    c.in_ok-value.value before near mid after c.value_at.ensures)

pub returns-in_err-take-clause-stops : goal.returns-in_err-take-clause-stops
returns-in_err-take-clause-stops g c = let stay = notes-stay c.in_ok-value.ensures.notes ∙ goes-stay c.in_ok-found.ensures.goes in grind (arith, common_steps)
