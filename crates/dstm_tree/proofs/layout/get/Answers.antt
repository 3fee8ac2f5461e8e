use Rattle.dstm_tree.proofs.Layouts.{done-in, found}
use Rattle.dstm_tree.proofs.layout.get.Goals as goal

pub returns-in-Some : goal.returns-in-Some
returns-in-Some g c =
    done-in c.args.layout.now c.tree_region.ensures c.in_ok-found.ensures (λ look. tt)
    (λ before after h. found c.args.key (rw (c.tree_region.ensures, c.in-Some.is) at h))

pub returns-in-None : goal.returns-in-None
returns-in-None g c =
    done-in c.args.layout.now c.tree_region.ensures c.in_ok-found.ensures (λ look. tt)
    (λ before after h. found c.args.key (rw (c.tree_region.ensures, c.in-None.is) at h))
