use Rattle.dstm_tree.proofs.Placing.{taken}
use Rattle.dstm_tree.proofs.Stepping.{steps-as, steps-then}
use Rattle.dstm_tree.proofs.place.take_free.Goals as goal

pub returns-clause-steps : goal.returns-clause-steps
returns-clause-steps g c =
    let read = steps-then c.in_ok-head.ensures c.in_ok-next.ensures in
    steps-as (steps-then read c.in_ok-write.ensures) (λ none. absurd (c.if-first-eq0.false none)) (λ before after h.
    taken c.args.region c.in_ok-head.head c.in_ok-next.next before h.first.mid h.mid after c.if-first-eq0.false
    (rw c.free_object.ensures.object at h.first.first) (rw c.node_object_in.ensures.object at h.first.second)
    (rw c.free_object-2.ensures.object at h.second))
