use Rattle.std.proofs.Common.{arith}
use Rattle.std.proofs.lemmas.Grind.{common_steps}
use Rattle.dstm_structures.proofs.Doing.{does-then, does-write}
use Rattle.dstm_structures.proofs.Mapping.{stores}
use Rattle.dstm_structures.proofs.Effects.{notes-stay}
use Rattle.dstm_structures.proofs.map.HashMap.store.Goals as goal

pub returns-clause-stores : goal.returns-clause-stores
returns-clause-stores g c =
    does-then c.in_ok-set.ensures.keeps (does-write c.in_ok-set.ensures.puts.1) c.in_ok-set_key.ensures.sets
    (λ before mid after size. stores g.V.Word.found c.args.self c.args.at c.args.key c.value_at.result.object c.args.value
    c.in_ok-set.ensures.puts.0 before mid after size c.requires c.value_at.ensures)

pub returns-in_err-set_key-clause-stops : goal.returns-in_err-set_key-clause-stops
returns-in_err-set_key-clause-stops g c = let stay = notes-stay c.in_ok-set.ensures.notes in grind (arith, common_steps)
