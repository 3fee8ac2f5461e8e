use Rattle.std.proofs.Common.{◌∙◌, ℕ, ◌/◌, ◌^◌, refl, subst, sym, arith}
use Rattle.std.proofs.lemmas.Grind.{common_steps}
use Rattle.std.specs.Prelude.{Option}
use Rattle.dstm_structures.specs.Maps.{key_of}
use Rattle.dstm_structures.specs.Tips.{AddsBeside}
use Rattle.dstm_structures.proofs.Doing.{Reads, does-as, does-is, does-read, does-then}
use Rattle.dstm_structures.proofs.Mapping.{reads-key}
use Rattle.dstm_structures.proofs.Places.{some_is}
use Rattle.dstm_structures.proofs.Tipping.{beside_none, beside_set}
use Rattle.dstm_structures.proofs.Effects.{notes-stay}
use Rattle.dstm_structures.proofs.order.Order.add_beside.Goals as goal

pub returns-then-other-added-clause-adds : goal.returns-then-other-added-clause-adds
returns-then-other-added-clause-adds g c =
    let added = c.args.added in
    does-is (AddsBeside c.args.self.cells added.key added.at added.cell c.args.place)
    (sym c.to_tip-then-other-added.ensures) (does-as (does-read c.in_ok-slot.ensures.gets)
    (λ before after size reads. beside_none c.args.self.cells added.key added.at added.cell c.args.place
    c.slot_at.result.object c.in_ok-slot.slot.key before after c.slot_at.ensures
    (λ k e. some_is k c.in-Some.other (sym e ∙ c.in-Some.is) ∙ c.if-other-added.true) (reads-key reads)))

pub returns-clause-adds : goal.returns-clause-adds
returns-clause-adds g c =
    let added = c.args.added in
    let level = c.parting-level.result in
    does-is (AddsBeside c.args.self.cells added.key added.at added.cell c.args.place)
    (sym c.to_fork.ensures) (does-then c.in_ok-slot.ensures.keeps (does-read c.in_ok-slot.ensures.gets) c.in_ok-set_fork.ensures.sets
    (λ before mid after size reads sets. beside_set c.args.self.cells added.key added.at added.cell c.args.place
    c.slot_at.result.object c.in-Some.other level (added.key / 2 ^ level) (c.in-Some.other / 2 ^ level) c.to_tip-2.result
    c.to_tip-3.result c.parted-fork.result before mid after c.slot_at.ensures c.requires.at c.requires.cell
    c.parting-level.ensures.within c.parting-level.ensures.differ c.parting-level.ensures.same refl refl
    c.parted-fork.ensures.level c.parted-fork.ensures.prefix c.parted-fork.ensures.left c.parted-fork.ensures.right
    c.to_tip-2.ensures c.to_tip-3.ensures
    (subst (λ (o : Option ℕ). Reads key_of c.slot_at.result.object o before mid) c.in-Some.is (reads-key reads)) sets))

pub returns-in_err-set_fork-clause-stops : goal.returns-in_err-set_fork-clause-stops
returns-in_err-set_fork-clause-stops g c = let stay = notes-stay c.in_ok-slot.ensures.notes in grind (arith, common_steps)

pub returns-clause-goes : goal.returns-clause-goes
returns-clause-goes g c = record {
  keeps = c.in_ok-set_fork.ensures.goes.keeps ∙ c.in_ok-slot.ensures.keeps;
  notes = λ first noted. c.in_ok-set_fork.ensures.goes.notes first (c.in_ok-slot.ensures.notes first noted);
}
