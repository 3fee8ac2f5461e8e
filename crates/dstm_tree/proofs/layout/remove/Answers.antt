use Rattle.dstm_tree.proofs.Layouts.{done-in, removed}
use Rattle.dstm_tree.proofs.layout.remove.Goals as goal

pub returns : goal.returns
returns g c =
    done-in c.args.layout.now c.tree_region.ensures c.in_ok-reply.ensures (λ look. look)
    (λ before after h. removed c.args.key (rw c.tree_region.ensures at h))
