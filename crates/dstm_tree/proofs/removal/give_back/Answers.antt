use Rattle.dstm_tree.proofs.Base.{refl}
use Rattle.dstm_tree.proofs.Taking.{gives-back}
use Rattle.dstm_tree.proofs.Stepping.{steps-as, steps-then, sets-same}
use Rattle.dstm_tree.proofs.removal.give_back.Goals as goal

pub returns : goal.returns
returns g c =
    let read = steps-then c.in_ok-first.ensures c.in_ok-write.ensures in
    steps-as (steps-then read c.in_ok-write-2.ensures) (λ never. absurd never) (λ before after h.
    gives-back c.args.region c.args.number c.in_ok-first.first c.requires.number.0
    (rw c.free_object.ensures.object at h.first.first)
    (sets-same c.node_object_in.ensures.object refl h.first.second)
    (sets-same c.free_object-2.ensures.object c.name.ensures h.second))
