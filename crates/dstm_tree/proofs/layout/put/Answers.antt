use Rattle.dstm_tree.proofs.Layouts.{done-in, put}
use Rattle.dstm_tree.proofs.layout.put.Goals as goal

pub returns : goal.returns
returns g c =
    done-in c.args.layout.now c.tree_region.ensures c.in_ok-reply.ensures (λ look. look)
    (λ before after h. put c.args.key c.args.value c.requires.fits.1 (rw c.tree_region.ensures at h))
