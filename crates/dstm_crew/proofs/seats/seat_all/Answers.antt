use Rattle.std.proofs.Common.{◌≡◌, ◌++◌, ◌∷◌, List, [], rules, subst, sym}
use Rattle.std.specs.Prelude.{All}
use Rattle.std.specs.Vec.Iter.{into_iter_items}
use Rattle.std.proofs.lemmas.List.Elements.{All-push}
use Rattle.dstm_crew.specs.declared.worker.Worker.{Worker}
use Rattle.dstm_crew.specs.declared.share.Share.{Share}
use Rattle.dstm_crew.specs.Seats.{HasCome}
use Rattle.dstm_crew.proofs.Seating.{Seats, has_come, seats_one}
use Rattle.dstm_crew.proofs.seats.seat_all.Goals as goal

pub loop-share-preserved : goal.loop-share-preserved
loop-share-preserved c =
    let table = c.args.table.now in
    let shares = c.args.shares.items in
    let workers = c.loop-share.workers.items in
    let left = into_iter_items c.next.new.self in
    let seats =
    subst (λ (ss : List Share). Seats table shares workers ss c.loop-share.founder) c.in-Some.ensures.steps.0
    c.loop-share.invariant.1 in
    let now : c.push_reserved.new.self.items ≡ workers ++ c.in_ok-seat.field-0 ∷ [] = c.push_reserved.ensures.items in (
      subst (All (HasCome c.args.options.now)) (sym now)
          (All-push (HasCome c.args.options.now) workers c.in_ok-seat.field-0 c.loop-share.invariant.0
          (has_come table c.args.options.now c.in_ok-seat.field-0
          c.in_ok-seat.ensures.share c.in_ok-seat.ensures.given)),
      subst (λ (ws : List Worker). Seats table shares ws left c.seat.new.founder) (sym now)
          (seats_one table left c.in_ok-seat.field-0 seats c.in_ok-seat.ensures.share c.in_ok-seat.ensures.given),
      search rules,
    )
