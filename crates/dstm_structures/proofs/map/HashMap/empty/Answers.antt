use Rattle.std.proofs.Common.{◌∙◌, sym, arith}
use Rattle.std.proofs.lemmas.Grind.{common_steps}
use Rattle.dstm_structures.proofs.Doing.{does-as, does-read, does-then}
use Rattle.dstm_structures.proofs.Mapping.{empties-none, empties-some, reads-key}
use Rattle.dstm_structures.proofs.Effects.{notes-stay}
use Rattle.dstm_structures.proofs.map.HashMap.empty.Goals as goal

pub returns-then-not-is_key-clause-empties : goal.returns-then-not-is_key-clause-empties
returns-then-not-is_key-clause-empties g c =
    does-as (does-read c.in_ok-slot.ensures.gets)
    (λ before after size reads. empties-none c.args.self c.args.at c.args.key c.slot_at.result.object c.in_ok-slot.slot.key
    before after c.slot_at.ensures (sym c.is_key.ensures ∙ c.if-not-is_key.true) (reads-key reads))

pub returns-clause-empties : goal.returns-clause-empties
returns-clause-empties g c =
    does-then c.in_ok-slot.ensures.keeps (does-read c.in_ok-slot.ensures.gets) c.in_ok-set_key.ensures.sets
    (λ before mid after size reads. empties-some c.args.self c.args.at c.args.key c.slot_at.result.object
    c.in_ok-slot.slot.key before mid after c.slot_at.ensures (sym c.is_key.ensures ∙ c.if-not-is_key.false) (reads-key reads))

pub returns-in_err-set_key-clause-stops : goal.returns-in_err-set_key-clause-stops
returns-in_err-set_key-clause-stops g c = let stay = notes-stay c.in_ok-slot.ensures.notes in grind (arith, common_steps)
