use Rattle.dstm_tree.proofs.Base.{arith, ap, ◌∙◌, child}
use Rattle.dstm_tree.proofs.Forks.{stands-within}
use Rattle.dstm_tree.proofs.Lift.{lifts-outer, lifts-inner, lifts-none}
use Rattle.dstm_tree.proofs.Stepping.{steps-as, steps-then}
use Rattle.dstm_tree.proofs.balance.lift.Goals as goal

pub read_red-requires-clause-number : goal.read_red-requires-clause-number
read_red-requires-clause-number g c =
    let (map, admitted) = c.requires.ready.admits in
    let (near, (inner, (outer, h))) = c.requires.lawful map admitted in
    let within = stands-within h.fork.far_stands in
    omega (arith, c.child.ensures ∙ ap (λ s. child s c.args.sibling) c.other-far.ensures)

pub returns-in-Some : goal.returns-in-Some
returns-in-Some g c =
    steps-as (steps-then c.in_ok-found.ensures.steps c.in_ok-cut.ensures) (λ never. absurd never) (λ before after h.
    lifts-outer c.args.side c.args.held c.args.parent c.args.sibling
    (rw (c.child.ensures, c.other-far.ensures, c.in-Some.is) at h.first)
    (rw (
      h.first.0,
      c.with_red-low.ensures,
      c.with_child.ensures,
      c.child-in-Some.ensures,
      c.with_red.ensures,
      c.with_red-top.ensures,
      c.with_child-in-Some.ensures,
      c.other-far.ensures,
    ) at h.second))

pub read_red-requires-2-clause-number : goal.read_red-requires-2-clause-number
read_red-requires-2-clause-number g c =
    let (map, admitted) = c.requires.ready.admits in
    let (near, (inner, (outer, h))) = c.requires.lawful map admitted in
    let within = stands-within h.fork.near_stands in
    omega (arith, c.child-2.ensures)

pub returns-in-Some-found_near : goal.returns-in-Some-found_near
returns-in-Some-found_near g c =
    let looked = steps-then c.in_ok-found.ensures.steps c.in_ok-found_near.ensures.steps in
    steps-as (steps-then looked c.in_ok-cut-2.ensures) (λ never. absurd never) (λ before after h.
    lifts-inner c.args.side c.args.held c.args.parent c.args.sibling
    (rw (h.first.first.0, c.child-2.ensures, c.in-Some-found_near.is) at h.first.second)
    (rw (
      h.first.second.0,
      h.first.first.0,
      c.with_red-low-in-Some-found_near.ensures,
      c.with_child-in-Some-found_near.ensures,
      c.child-in-Some-found_near.ensures,
      c.with_child-high.ensures,
      c.child-in-Some-found_near-2.ensures,
      c.with_red-in-Some-found_near.ensures,
      c.with_child-top.ensures,
      c.with_child-in-Some-found_near-2.ensures,
      c.other-far.ensures,
    ) at h.second))

pub returns : goal.returns
returns g c =
    let looked = steps-then c.in_ok-found.ensures.steps c.in_ok-found_near.ensures.steps in
    steps-as (steps-then looked c.in_ok-cut-3.ensures) (λ never. absurd never) (λ before after h.
    lifts-none c.args.side (rw (c.child.ensures, c.other-far.ensures, c.in_default.is) at h.first.first)
    (rw (h.first.first.0, c.child-2.ensures, c.in_default-found_near.is) at h.first.second)
    (rw (h.first.second.0, h.first.first.0) at h.second))
