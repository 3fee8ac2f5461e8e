use Rattle.std.proofs.Common.{arith, ◌∙◌}
use Rattle.std.proofs.lemmas.Grind.{common_steps}
use Rattle.dstm_structures.proofs.Doing.{does-read, does-thrice}
use Rattle.dstm_structures.proofs.Dropping.{key_added}
use Rattle.dstm_structures.proofs.Powers.{none_above}
use Rattle.dstm_structures.proofs.Effects.{goes-stay, notes-stay}
use Rattle.dstm_structures.proofs.order.Order.add.Goals as goal

pub returns-clause-adds : goal.returns-clause-adds
returns-clause-adds g c =
    does-thrice c.in_ok-root.ensures.keeps c.in_ok-now.ensures.goes.keeps (does-read c.in_ok-root.ensures.gets)
    c.in_ok-now.ensures.adds c.in_ok-set_root.ensures.sets (λ before mid near after size reads adds sets.
    key_added c.args.self.cells c.root_at.result.object c.in_ok-root.root c.in_ok-now.now c.args.key c.args.at c.args.cell
    before mid near after c.root_at.ensures reads adds sets (none_above c.args.key 64 (omega arith) c.ranges.key.fits))

pub returns-in_err-now-clause-stops : goal.returns-in_err-now-clause-stops
returns-in_err-now-clause-stops g c = let stay = notes-stay c.in_ok-root.ensures.notes in grind (arith, common_steps)

pub returns-in_err-set_root-clause-stops : goal.returns-in_err-set_root-clause-stops
returns-in_err-set_root-clause-stops g c = let stay = goes-stay c.in_ok-now.ensures.goes ∙ notes-stay c.in_ok-root.ensures.notes in grind (arith, common_steps)
