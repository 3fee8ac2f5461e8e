use Rattle.std.proofs.Common.{arith, ◌∙◌}
use Rattle.std.proofs.lemmas.Grind.{common_steps}
use Rattle.dstm_structures.specs.Maps.{Inserts}
use Rattle.dstm_structures.specs.Tips.{SeeksFork}
use Rattle.dstm_structures.proofs.Doing.{does-as, does-is, does-then, does-thrice, does-wider}
use Rattle.dstm_structures.proofs.Placing.{adds-full, adds-new, adds-none}
use Rattle.dstm_structures.proofs.Effects.{goes-stay}
use Rattle.dstm_structures.proofs.ordered.OrderedMap.add.Goals as goal

pub returns-in_default-clause-adds : goal.returns-in_default-clause-adds
returns-in_default-clause-adds g c =
    does-as
    (does-is (SeeksFork c.args.self.map.cells) c.in_default.is c.in_ok-free.ensures.seeks)
    (λ before after size. adds-none g.V.Word.found c.args.self c.args.key c.args.value before after)

pub returns-in_default-placed-clause-adds : goal.returns-in_default-placed-clause-adds
returns-in_default-placed-clause-adds g c =
    does-then c.in_ok-free.ensures.goes.keeps
    (does-is (SeeksFork c.args.self.map.cells) c.in-Some.is c.in_ok-free.ensures.seeks)
    (does-wider (omega arith) (does-is (Inserts g.V.Word.found c.args.self.map c.args.key c.args.value)
    c.in_default-placed.is c.in_ok-placed.ensures.inserts))
    (λ before near after size. adds-full g.V.Word.found c.args.self c.args.key c.in-Some.cell c.args.value before near after)

pub returns-clause-adds : goal.returns-clause-adds
returns-clause-adds g c =
    does-thrice c.in_ok-free.ensures.goes.keeps c.in_ok-placed.ensures.goes.keeps
    (does-is (SeeksFork c.args.self.map.cells) c.in-Some.is c.in_ok-free.ensures.seeks)
    (does-wider (omega arith) (does-is (Inserts g.V.Word.found c.args.self.map c.args.key c.args.value)
    c.in-Some-placed.is c.in_ok-placed.ensures.inserts)) c.in_ok-add.ensures.adds
    (λ before near mid after size. adds-new g.V.Word.found c.args.self c.args.key c.in-Some-placed.at c.in-Some.cell c.args.value
    before near mid after (omega arith))

pub returns-in_err-placed-clause-stops : goal.returns-in_err-placed-clause-stops
returns-in_err-placed-clause-stops g c = let stay = goes-stay c.in_ok-free.ensures.goes in grind (arith, common_steps)

pub returns-in_err-add-clause-stops : goal.returns-in_err-add-clause-stops
returns-in_err-add-clause-stops g c = let stay = goes-stay c.in_ok-placed.ensures.goes ∙ goes-stay c.in_ok-free.ensures.goes in grind (arith, common_steps)
