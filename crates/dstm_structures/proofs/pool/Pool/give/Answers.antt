use Rattle.std.proofs.Common.{◌≡◌, ◌<◌, arith}
use Rattle.std.proofs.lemmas.Grind.{common_steps}
use Rattle.dstm_structures.specs.Pools.{cell_at}
use Rattle.dstm_structures.proofs.Doing.{does-read, does-then, does-write}
use Rattle.dstm_structures.proofs.Effects.{notes-stay}
use Rattle.dstm_structures.proofs.Places.{of_some}
use Rattle.dstm_structures.proofs.Pools.{gives-cell, opens-given, opens-look}
use Rattle.dstm_structures.proofs.pool.Pool.give.Goals as goal

pub returns-in_default-clause-opens : goal.returns-in_default-clause-opens
returns-in_default-clause-opens g c =
    opens-look c.args.self g.L.Law.holds _ _ c.args.self.cells.some c.mark_at.ensures c.in_ok-_first.ensures.once

pub returns-then-not-taken-clause-opens : goal.returns-then-not-taken-clause-opens
returns-then-not-taken-clause-opens g c =
    let place = of_some (λ at. (at < c.args.self.cells.capacity) × (c.args.given.object ≡ cell_at c.args.self at)) c.in-Some.is
    c.place_of-place.ensures.there in
    opens-look c.args.self g.L.Law.holds _ _ place.0 c.mark_at-2.ensures c.in_ok-taken.ensures.once

pub returns-in_err-set-clause-stops : goal.returns-in_err-set-clause-stops
returns-in_err-set-clause-stops g c = let stay = notes-stay c.in_ok-taken.ensures.notes in grind (arith, common_steps)

pub returns-clause-gives : goal.returns-clause-gives
returns-clause-gives g c =
    let place = of_some (λ at. (at < c.args.self.cells.capacity) × (c.args.given.object ≡ cell_at c.args.self at)) c.in-Some.is
    c.place_of-place.ensures.there in
    does-then c.in_ok-taken.ensures.keeps (does-read c.in_ok-taken.ensures.gets) (does-write c.in_ok-set.ensures.puts.1)
    (λ before mid after size. gives-cell c.args.self c.in-Some.at c.mark_at-2.result.object c.mark_at-3.result.object
    c.args.given.object c.in_ok-taken.taken c.in_ok-set.ensures.puts.0 before mid after size place.0 place.1
    c.mark_at-2.ensures c.mark_at-3.ensures c.if-not-taken.false)

pub returns-clause-opens : goal.returns-clause-opens
returns-clause-opens g c =
    let place = of_some (λ at. (at < c.args.self.cells.capacity) × (c.args.given.object ≡ cell_at c.args.self at)) c.in-Some.is
    c.place_of-place.ensures.there in
    opens-given c.args.self g.L.Law.holds _ _ _ place.0 c.mark_at-2.ensures c.mark_at-3.ensures c.in_ok-taken.ensures.once
    c.in_ok-set.ensures.once
