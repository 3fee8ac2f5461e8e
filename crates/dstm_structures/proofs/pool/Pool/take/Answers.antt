use Rattle.std.proofs.Common.{◌∙◌, ◌%◌, ◌<◌, arith}
use Rattle.std.proofs.lemmas.Grind.{common_steps}
use Rattle.dstm_structures.specs.Pools.{Seeks}
use Rattle.dstm_structures.proofs.Doing.{does-is, does-thrice, does-write}
use Rattle.dstm_structures.proofs.Effects.{goes-stay, notes-stay}
use Rattle.dstm_structures.proofs.Places.{of_some}
use Rattle.dstm_structures.proofs.Pools.{opens-none, opens-taken, takes-cell}
use Rattle.dstm_structures.proofs.pool.Pool.take.Goals as goal

pub returns-in_default-clause-takes : goal.returns-in_default-clause-takes
returns-in_default-clause-takes g c =
    does-is (Seeks c.args.self (c.args.from % c.args.self.cells.capacity)) c.in_default.is c.in_ok-free.ensures.seeks

pub returns-in_default-clause-opens : goal.returns-in_default-clause-opens
returns-in_default-clause-opens g c =
    opens-none c.args.self g.L.Law.holds (c.args.from % c.args.self.cells.capacity) _ _ c.in_default.is
    c.in_ok-free.ensures.opens

pub returns-clause-takes : goal.returns-clause-takes
returns-clause-takes g c =
    does-thrice c.in_ok-free.ensures.goes.keeps c.in_ok-set.ensures.keeps
    (does-is (Seeks c.args.self (c.args.from % c.args.self.cells.capacity)) c.in-Some.is c.in_ok-free.ensures.seeks)
    (does-write c.in_ok-set.ensures.puts.1) (does-write c.in_ok-set-2.ensures.puts.1)
    (λ before mid near after size. takes-cell c.args.self g.T.Word.found (c.args.from % c.args.self.cells.capacity)
    c.in-Some.at c.mark_at.result.object c.cell_at-taken.result c.in_ok-set.ensures.puts.0 c.in_ok-set-2.ensures.puts.0
    c.args.value before mid near after size
    (of_some (λ at. at < c.args.self.cells.capacity) c.in-Some.is c.in_ok-free.ensures.within)
    c.mark_at.ensures c.cell_at-taken.ensures)

pub returns-clause-opens : goal.returns-clause-opens
returns-clause-opens g c =
    opens-taken c.args.self g.L.Law.holds (c.args.from % c.args.self.cells.capacity) _ _ _ _ c.in-Some.is
    c.mark_at.ensures c.cell_at-taken.ensures c.in_ok-free.ensures.opens c.in_ok-set.ensures.once
    c.in_ok-set-2.ensures.once

pub returns-clause-goes : goal.returns-clause-goes
returns-clause-goes g c = record {
  keeps = c.in_ok-set-2.ensures.keeps ∙ c.in_ok-set.ensures.keeps ∙ c.in_ok-free.ensures.goes.keeps;
  notes = λ first noted.
      c.in_ok-set-2.ensures.notes first (c.in_ok-set.ensures.notes first (c.in_ok-free.ensures.goes.notes first noted));
}

pub returns-in_err-set-clause-stops : goal.returns-in_err-set-clause-stops
returns-in_err-set-clause-stops g c = let stay = goes-stay c.in_ok-free.ensures.goes in grind (arith, common_steps)

pub returns-in_err-set-2-clause-stops : goal.returns-in_err-set-2-clause-stops
returns-in_err-set-2-clause-stops g c =
    let stay = notes-stay c.in_ok-set.ensures.notes ∙ goes-stay c.in_ok-free.ensures.goes in grind (arith, common_steps)
