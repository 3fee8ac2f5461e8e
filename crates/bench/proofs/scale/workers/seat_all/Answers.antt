use Rattle.std.proofs.Common.{◌≡◌, ◌++◌, ◌∷◌, [], rules, subst, sym}
use Rattle.std.specs.Prelude.{All}
use Rattle.std.proofs.lemmas.List.Elements.{All-push}
use Rattle.bench.specs.Ready.{IsSeated}
use Rattle.bench.specs.declared.scale.workers.Worker.{Worker}
use Rattle.bench.proofs.scale.workers.seat_all.Goals as goal

pub loop-thread-preserved : goal.loop-thread-preserved
loop-thread-preserved c =
    let workers = c.loop-thread.workers.items in
    let worker = c.in_ok-worker.worker in
    let now : c.push.new.self.items ≡ workers ++ worker ∷ [] = c.in_ok-push.ensures.items in
    let seated = λ (one : Worker). IsSeated one.table.now one.caller in (
      search rules,
      subst (All seated) (sym now) (All-push seated workers worker c.loop-thread.invariant.1 c.in_ok-worker.ensures.ready),
    )
