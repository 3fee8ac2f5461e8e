use Rattle.std.proofs.Common.{◌<◌, arith, rules}
use Rattle.std.proofs.lemmas.Grind.{common_steps}
use Rattle.dstm_structures.specs.Maps.{Seeks}
use Rattle.dstm_structures.proofs.Doing.{does-is, then-write}
use Rattle.dstm_structures.proofs.Effects.{goes-stay}
use Rattle.dstm_structures.proofs.Mapping.{puts-instead}
use Rattle.dstm_structures.proofs.Places.{of_some}
use Rattle.dstm_structures.proofs.map.HashMap.update.Goals as goal

pub returns-clause-puts : goal.returns-clause-puts
returns-clause-puts g c =
    let (now, post, changes) = c.in_ok-had.ensures.puts in (
      now,
      search rules,
      then-write c.in_ok-found.ensures.goes.keeps
          (does-is (Seeks c.args.self c.args.key) c.in-Some.is c.in_ok-found.ensures.seeks) changes
          (λ before mid after size. puts-instead g.V.Word.found c.args.self c.args.key c.in-Some.at c.value_at.result.object
          c.in_ok-had.had now before mid after c.args.self.cells.some size
          (of_some (λ at. at < c.args.self.cells.capacity) c.in-Some.is
          c.in_ok-found.ensures.within) c.value_at.ensures),
    )

pub returns-in_err-place-clause-stops : goal.returns-in_err-place-clause-stops
returns-in_err-place-clause-stops g c = let stay = goes-stay c.in_ok-found.ensures.goes in grind (arith, common_steps)

pub returns-in_err-had-clause-stops : goal.returns-in_err-had-clause-stops
returns-in_err-had-clause-stops g c = let stay = goes-stay c.in_ok-found.ensures.goes in grind (arith, common_steps)
