use Rattle.dstm_tree.proofs.Forks.{forked_read, red_child}
use Rattle.dstm_tree.proofs.Stepping.{steps-as}
use Rattle.dstm_tree.proofs.balance.read_red.Goals as goal

pub returns-then-node-clause-steps : goal.returns-then-node-clause-steps
returns-then-node-clause-steps g c =
    steps-as c.in_ok-node.ensures.steps (λ q. q) (λ before after read. (
      read.same,
      λ side t h. red_child (forked_read side c.requires.ready.tree read c.if-number-eq0.false h) c.if-node.true,
    ))
