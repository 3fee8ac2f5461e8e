use Rattle.dstm_tree.proofs.Base.{arith}
use Rattle.dstm_tree.proofs.Forks.{stands-within}
use Rattle.dstm_tree.proofs.Close.{has-fall_below, lifts-red}
use Rattle.dstm_tree.proofs.Stepping.{steps-as, steps-then}
use Rattle.dstm_tree.proofs.balance.close_red.Goals as goal

pub read_node-requires-clause-number : goal.read_node-requires-clause-number
read_node-requires-clause-number g c =
    let (map, admitted) = c.requires.ready.admits in
    let (near, (inner, (outer, h))) = c.requires.lawful map admitted in
    let within = stands-within h.fork.near_stands in
    omega (arith, c.child-number.ensures)

pub lift-requires-clause-lawful : goal.lift-requires-clause-lawful
lift-requires-clause-lawful g c map admitted =
    let read = c.in_ok-nephew.ensures.steps in
    rw (c.with_red-below.ensures, c.with_child.ensures, c.other.ensures, c.child-number.ensures)
    (has-fall_below c.args.side c.args.held c.args.parent c.args.sibling c.requires.ready.tree
    (rw c.child-number.ensures at (read.does map admitted)) (c.requires.lawful map (read.leads.narrows map admitted)))

pub returns : goal.returns
returns g c =
    let lifted = steps-then c.in_ok-nephew.ensures.steps c.in_ok-cut.ensures in
    steps-as (steps-then lifted c.in_ok-write_node.ensures) (λ never. absurd never) (λ before after h.
    lifts-red c.args.side c.args.held c.args.parent c.args.sibling c.in_ok-cut.cut c.requires.ready.tree
    (rw c.child-number.ensures at h.first.first) (rw (
      h.first.first.same,
      c.with_red-below.ensures,
      c.with_child.ensures,
      c.other.ensures,
      c.child-number.ensures,
    ) at h.first.second)
    (rw (c.with_red.ensures, c.with_child-2.ensures) at h.second))
