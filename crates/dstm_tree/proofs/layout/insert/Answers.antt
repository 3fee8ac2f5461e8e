use Rattle.dstm_tree.proofs.Layouts.{done-in, inserted}
use Rattle.dstm_tree.proofs.layout.insert.Goals as goal

pub returns : goal.returns
returns g c =
    done-in c.args.layout.now c.tree_region.ensures c.in_ok-reply.ensures (λ look. look)
    (λ before after h. inserted c.args.key c.requires.fits.1 (rw c.tree_region.ensures at h))
