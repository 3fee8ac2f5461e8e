use Rattle.std.proofs.Common.{◌<◌, arith, rules, subst, sym}
use Rattle.std.proofs.lemmas.Grind.{common_steps}
use Rattle.std.specs.Prelude.{Option}
use Rattle.dstm_structures.specs.Maps.{Seeks}
use Rattle.dstm_structures.proofs.Doing.{does-is, does-then, does-wider, then-write}
use Rattle.dstm_structures.proofs.Effects.{goes-stay}
use Rattle.dstm_structures.proofs.Placing.{puts-absent, puts-instead}
use Rattle.dstm_structures.proofs.Places.{of_some}
use Rattle.dstm_structures.proofs.ordered.OrderedMap.update.Goals as goal

pub returns-in_default-clause-puts : goal.returns-in_default-clause-puts
returns-in_default-clause-puts g c = (
  c.f-value.result,
  subst (λ (o : Option g.row.V.Denot). g.F.FnOnce.post c.args.f (o, tt) c.f-value.result) (sym c.in_ok-placed.ensures.absent)
      c.f-value.ensures,
  does-then c.in_ok-found.ensures.goes.keeps (does-wider (omega arith)
      (does-is (Seeks c.args.self.map c.args.key) c.in_default.is c.in_ok-found.ensures.seeks))
      c.in_ok-placed.ensures.adds
      (λ before mid after size. puts-absent g.V.Word.found c.args.self c.args.key c.f-value.result c.in_ok-placed.placed before
      mid after),
)

pub returns-clause-puts : goal.returns-clause-puts
returns-clause-puts g c =
    let (now, post, changes) = c.in_ok-had.ensures.puts in (
      now,
      search rules,
      then-write c.in_ok-found.ensures.goes.keeps (does-wider (omega arith)
          (does-is (Seeks c.args.self.map c.args.key) c.in-Some.is c.in_ok-found.ensures.seeks)) changes
          (λ before mid after size. puts-instead g.V.Word.found c.args.self c.args.key c.in-Some.at c.value_at.result.object
          c.in_ok-had.had now before mid after (omega (arith, size))
          (of_some (λ at. at < c.args.self.map.cells.capacity) c.in-Some.is
          c.in_ok-found.ensures.within) c.value_at.ensures),
    )

pub returns-in_err-placed-clause-stops : goal.returns-in_err-placed-clause-stops
returns-in_err-placed-clause-stops g c = let stay = goes-stay c.in_ok-found.ensures.goes in grind (arith, common_steps)

pub returns-in_err-had-clause-stops : goal.returns-in_err-had-clause-stops
returns-in_err-had-clause-stops g c = let stay = goes-stay c.in_ok-found.ensures.goes in grind (arith, common_steps)
