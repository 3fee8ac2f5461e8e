use Rattle.dstm_tree.proofs.Removing.{hoist-some}
use Rattle.dstm_tree.proofs.Stepping.{steps-as, steps-then}
use Rattle.dstm_tree.proofs.removal.hoist.Goals as goal

pub returns : goal.returns
returns g c =
    let region = c.args.region in
    steps-as (steps-then c.in_ok-node.ensures.steps c.in_ok-write_node.ensures) (λ never. absurd never)
    (λ before after h.
    hoist-some region c.args.child c.args.red c.in_ok-node.node c.with_red.result before h.mid after
    c.requires.ready.tree c.if-child-eq0.false h.first c.with_red.ensures h.second)
