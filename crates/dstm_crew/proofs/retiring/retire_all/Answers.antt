use Rattle.std.proofs.Common.{◌++◌, ◌∷◌, List, [], map, ap, rules, subst, sym, ◌∙◌}
use Rattle.std.proofs.lemmas.List.{map_push}
use Rattle.std.specs.Vec.Iter.{into_iter_items}
use Rattle.dstm_crew.specs.declared.worker.Worker.{Worker}
use Rattle.dstm_crew.specs.declared.share.Share.{Share}
use Rattle.dstm_crew.specs.Seats.{share_of}
use Rattle.dstm_crew.proofs.Taking.{Takes, takes_one}
use Rattle.dstm_crew.proofs.retiring.retire_all.Goals as goal

pub loop-worker-preserved : goal.loop-worker-preserved
loop-worker-preserved c =
    let workers = c.args.workers.items in
    let yielded = c.loop-worker.yielded in
    let worker : Worker = c.in-Some.worker in
    let takes =
    subst (λ (ws : List Worker). Takes c.args.table.now workers yielded ws c.loop-worker.founder) c.in-Some.ensures.steps.0
    c.loop-worker.invariant.0 in (
      takes_one c.args.table.now (into_iter_items c.next.new.self) worker
          takes c.retire.ensures.taken,
      c.push_reserved.ensures.items
          ∙ ap (λ (ss : List Share). ss ++ c.retire.result ∷ []) c.loop-worker.invariant.1
          ∙ ap (λ (s : Share). map share_of yielded ++ s ∷ []) c.retire.ensures.share
          ∙ sym (map_push share_of yielded worker),
      search rules,
    )
