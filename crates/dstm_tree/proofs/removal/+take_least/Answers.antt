use Rattle.dstm_tree.proofs.Base.{arith, Left, Right}
use Rattle.dstm_tree.proofs.Removing.{take-least-here, take-least-below, has-gap}
use Rattle.dstm_tree.proofs.Search.{part_of, read_root}
use Rattle.dstm_tree.proofs.Stepping.{steps-as, steps-then}
use Rattle.dstm_tree.proofs.Walk.{walk}
use Rattle.dstm_tree.proofs.removal.+take_least.Goals as goal

pub hoist-requires-clause-within : goal.hoist-requires-clause-within
hoist-requires-clause-within g t c =
    (walk Right c.requires.ready c.requires.lawful c.in_ok-node.ensures.steps
    (λ e. omega (arith, c.requires.some))).within

pub returns-then-node-eq0-clause-steps : goal.returns-then-node-eq0-clause-steps
returns-then-node-eq0-clause-steps g t c =
    steps-as (steps-then c.in_ok-node.ensures.steps c.in_ok-cut.ensures) (λ never. absurd never) (λ before after h.
    take-least-here c.args.depth c.in_ok-cut.cut after c.requires.ready.tree (λ e. omega (arith, c.requires.some))
    c.if-node-eq0.true h.first h.second)

pub take_least-requires : goal.take_least-requires
take_least-requires g t c κs within =
    let w = walk Left c.requires.ready c.requires.lawful c.in_ok-node.ensures.steps
    (λ e. omega (arith, c.requires.some)) in (
      omega (arith, c.decreases),
      (within.0, (within.1, (omega (arith, c.if-node-eq0.false), (w.within, (w.ready, w.goes))))),
    )

pub close-requires-clause-lawful : goal.close-requires-clause-lawful
unfolding part_of
close-requires-clause-lawful g t c map admitted =
    let read = c.in_ok-node.ensures.steps in
    let least = c.in_ok-below.ensures.steps in
    let in_read = least.leads.narrows map admitted in
    let is = read.does map in_read in
    let r = read_root Left c.requires.ready.tree is (λ e. omega (arith, c.requires.some))
    (c.requires.lawful map (read.leads.narrows map in_read)) in
    has-gap c.with_child-parent.ensures r ((rw is.same at (least.does map admitted)) (part_of r)).loses.became

pub returns-clause-steps : goal.returns-clause-steps
returns-clause-steps g t c =
    let found = steps-then c.in_ok-node.ensures.steps c.in_ok-below.ensures.steps in
    steps-as (steps-then found c.in_ok-cut-2.ensures) (λ never. absurd never) (λ before after h.
    take-least-below c.args.depth c.in_ok-below.below c.in_ok-cut-2.cut h.mid after c.requires.ready.tree
    (λ e. omega (arith, c.requires.some)) c.with_child-parent.ensures h.first.first h.first.second h.second)
