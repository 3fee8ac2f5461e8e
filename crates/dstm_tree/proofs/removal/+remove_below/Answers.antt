use Rattle.dstm_tree.proofs.Base.{arith}
use Rattle.dstm_tree.proofs.Removing.{remove-here, remove-none, has-gap, remove-some}
use Rattle.dstm_tree.proofs.Search.{part_of, read_root}
use Rattle.dstm_tree.proofs.Walk.{walk}
use Rattle.dstm_tree.proofs.Stepping.{steps-as, steps-then}
use Rattle.dstm_tree.proofs.removal.+remove_below.Goals as goal

pub returns-then-key-node : goal.returns-then-key-node
returns-then-key-node g t c =
    steps-as (steps-then c.in_ok-node.ensures.steps c.in_ok-removed.ensures) (λ never. absurd (cc never))
    (λ before after h. remove-here c.args.depth c.in_ok-removed.removed after c.if-key-node.true h.first h.second)

pub remove_below-requires : goal.remove_below-requires
remove_below-requires g t c κs within =
    let read = c.in_ok-node.ensures.steps in
    let w = walk c.toward-side.result c.requires.ready c.requires.lawful read c.if-at-eq0.false in (
      omega (arith, c.decreases),
      (
        within.0,
        (within.1, (omega (arith, c.child.ensures), (w.ready, λ m a. rw c.child.ensures (w.goes m a)))),
      ),
    )

pub returns-in_default : goal.returns-in_default
returns-in_default g t c =
    steps-as (steps-then c.in_ok-node.ensures.steps c.in_ok-below.ensures) (λ none. (tt, c.in_default.is))
    (λ before after h.
    remove-none c.toward-side.result c.args.depth c.args.key after c.requires.ready.tree c.if-at-eq0.false
    c.toward-side.ensures h.first (rw (h.first.same, c.child.ensures, c.in_default.is) at h.second))

pub close-requires-clause-lawful : goal.close-requires-clause-lawful
unfolding part_of
close-requires-clause-lawful g t c map admitted =
    let read = c.in_ok-node.ensures.steps in
    let below = c.in_ok-below.ensures in
    let in_read = below.leads.narrows map admitted in
    let is = read.does map in_read in
    let r = read_root c.toward-side.result c.requires.ready.tree is c.if-at-eq0.false
    (c.requires.lawful map (read.leads.narrows map in_read)) in
    has-gap c.with_child-parent.ensures r
    ((rw (is.same, c.child.ensures, c.in-Some.is) at (below.does map admitted)) (part_of r)).loses.became

pub returns : goal.returns
returns g t c =
    let found = steps-then c.in_ok-node.ensures.steps c.in_ok-below.ensures in
    steps-as (steps-then found c.in_ok-cut.ensures) (λ never. absurd (cc never)) (λ before after h.
    remove-some c.toward-side.result c.args.depth c.args.key c.in-Some.removed c.in_ok-cut.cut h.mid after
    c.requires.ready.tree c.if-at-eq0.false c.toward-side.ensures c.with_child-parent.ensures h.first.first
    (rw (h.first.first.same, c.child.ensures, c.in-Some.is) at h.first.second) h.second)
