use Rattle.dstm_tree.proofs.Base.{true, false, arith, ap, ◌∙◌, child}
use Rattle.dstm_tree.proofs.Forks.{stands-within}
use Rattle.dstm_tree.proofs.Close.{close-kept, lifted, may-lift}
use Rattle.dstm_tree.proofs.Stepping.{steps-as}
use Rattle.dstm_tree.proofs.balance.close.Goals as goal

pub returns-then-not-fell : goal.returns-then-not-fell
returns-then-not-fell g c =
    steps-as c.in_ok-update_node.ensures (λ never. never) (λ before after update near far h.
    close-kept after h c.if-not-fell.true update)

pub read_node-requires-clause-number : goal.read_node-requires-clause-number
read_node-requires-clause-number g c =
    let (map, admitted) = c.requires.ready.admits in
    let (near, (far, h)) = c.requires.lawful map admitted in
    let within = stands-within h.far_stands in
    omega (arith, c.child.ensures ∙ ap (λ s. child s c.args.parent) c.other.ensures)

-- what the balance with a sibling of this colour asks

pub lift-requires-clause-lawful : goal.lift-requires-clause-lawful
lift-requires-clause-lawful g c map admitted =
    may-lift c.args.side false c.args.held c.args.parent c.requires.ready.tree c.if-not-sibling.true c.other.ensures
    c.child.ensures c.if-not-fell.false c.in_ok-sibling.ensures.steps c.requires.lawful map admitted

pub close_red-requires-clause-lawful : goal.close_red-requires-clause-lawful
close_red-requires-clause-lawful g c map admitted =
    may-lift c.args.side true c.args.held c.args.parent c.requires.ready.tree c.if-not-sibling.false c.other.ensures
    c.child.ensures c.if-not-fell.false c.in_ok-sibling.ensures.steps c.requires.lawful map admitted

-- and what it leaves

pub returns-then-not-sibling : goal.returns-then-not-sibling
returns-then-not-sibling g c =
    lifted c.args.side false c.args.held c.args.parent c.requires.ready.tree c.if-not-sibling.true c.other.ensures
    c.child.ensures c.if-not-fell.false c.in_ok-sibling.ensures.steps c.in_ok-cut.cut c.in_ok-cut.ensures

pub returns : goal.returns
returns g c =
    lifted c.args.side true c.args.held c.args.parent c.requires.ready.tree c.if-not-sibling.false c.other.ensures
    c.child.ensures c.if-not-fell.false c.in_ok-sibling.ensures.steps c.in_ok-cut-2.cut c.in_ok-cut-2.ensures
