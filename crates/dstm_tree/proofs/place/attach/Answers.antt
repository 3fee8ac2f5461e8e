use Rattle.dstm_tree.proofs.Base.{subst, FitsPlaced, Left}
use Rattle.dstm_tree.proofs.Attach.{attach-full, attach-found, attach-added, attach-pair, attach-hung, attach-rotated}
use Rattle.dstm_tree.proofs.Attach.{root-on, pair-seen, pair-told, on-fits}
use Rattle.dstm_tree.proofs.Stepping.{steps-none, steps-as, steps-then}
use Rattle.dstm_tree.proofs.place.attach.Goals as goal

pub returns-then-parent-clause-steps : goal.returns-then-parent-clause-steps
returns-then-parent-clause-steps g c =
    steps-none c.requires.ready (λ before q near far free start h way placed.
    rw (c.order.ensures.first, c.order.ensures.second, c.with_child-upper.ensures, c.child.ensures, c.other-far.ensures)
    (pair-told (attach-pair q h way c.in-Root.child before c.if-parent.true
    (root-on c.args.side (rw c.in-Root.is at placed)))))

pub returns-in_ok-write_node-in-Root-2-clause-steps : goal.returns-in_ok-write_node-in-Root-2-clause-steps
returns-in_ok-write_node-in-Root-2-clause-steps g c =
    let fits = subst (FitsPlaced c.args.region) c.in-Root.is c.requires.below in
    steps-as (steps-then c.in_ok-write_node-in-Root.ensures c.in_ok-write_node-in-Root-2.ensures)
    (λ never. absurd never) (λ before after done q near far free start h way placed.
    attach-hung q h way c.in-Root.child before done.mid after fits.number c.if-parent.false
    (root-on c.args.side (rw c.in-Root.is at placed)) done.first (rw c.with_child.ensures at done.second))

pub returns-in_ok-write_node-in-Pair-2-clause-steps : goal.returns-in_ok-write_node-in-Pair-2-clause-steps
returns-in_ok-write_node-in-Pair-2-clause-steps g c =
    let side = c.args.side in
    let pair = c.order-in-Pair in
    let fits = subst (FitsPlaced c.args.region) c.in-Pair.is c.requires.below in
    let fits_x = on-fits c.args.region side c.in-Pair.lesser c.in-Pair.greater fits.0 fits.1 in
    steps-as (steps-then c.in_ok-write_node-in-Pair.ensures c.in_ok-write_node-in-Pair-2.ensures)
    (λ never. absurd never) (λ before after done q near far free start h way placed.
    rw (c.with_child-in-Pair-2.ensures, c.with_child-top.ensures, c.other-far.ensures)
    (root-on Left (attach-rotated q h way pair.result.0 pair.result.1 before done.mid after
    (rw (← pair.ensures.first) at fits_x).number
    (rw (← pair.ensures.first, ← pair.ensures.second) at (pair-seen side (rw c.in-Pair.is at placed)))
    (rw c.with_red.ensures at done.first)
    (simp (c.with_child-in-Pair.ensures, c.child-in-Pair.ensures, c.other-far.ensures) at done.second))))

pub returns-in-Full-clause-steps : goal.returns-in-Full-clause-steps
returns-in-Full-clause-steps g c =
    steps-none c.requires.ready
    (λ before q near far free start h way placed. attach-full q h way before (rw c.in-Full.is at placed))

pub returns-in-Found-clause-steps : goal.returns-in-Found-clause-steps
returns-in-Found-clause-steps g c =
    steps-none c.requires.ready
    (λ before q near far free start h way placed. attach-found q h way before (rw c.in-Found.is at placed))

pub returns-in-Added-clause-steps : goal.returns-in-Added-clause-steps
returns-in-Added-clause-steps g c =
    steps-none c.requires.ready
    (λ before q near far free start h way placed. attach-added q h way before (rw c.in-Added.is at placed))
