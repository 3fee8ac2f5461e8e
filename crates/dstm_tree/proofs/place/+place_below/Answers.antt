use Rattle.dstm_tree.proofs.Base.{List, arith, sym, subst, Val, LeavesAll}
use Rattle.dstm_tree.proofs.Attach.{settled}
use Rattle.dstm_tree.proofs.Placing.{can-below, place-below, place-found, place-replaced}
use Rattle.dstm_tree.specs.declared.side.Side.TheVariants.{Left}
use Rattle.dstm_tree.proofs.Forks.{missing_child}
use Rattle.dstm_tree.proofs.Search.{stands_of}
use Rattle.dstm_tree.proofs.Walk.{walk}
use Rattle.dstm_tree.proofs.Stepping.{steps-as, steps-then}
use Rattle.dstm_tree.proofs.place.+place_below.Goals as goal

pub overflow_sub-depth : goal.overflow_sub-depth
overflow_sub-depth g t c =
    (walk Left c.requires.ready (λ m a. (c.requires.lawful m a).sub) c.in_ok-node.ensures.steps c.if-at-eq0.false).deep

pub place_below-requires : goal.place_below-requires
place_below-requires g t c κs within =
    let read = c.in_ok-node.ensures.steps in
    let w = walk c.toward-side.result c.requires.ready (λ m a. (c.requires.lawful m a).sub) read c.if-at-eq0.false in
    let goes = λ (m : List Val) (a : g.M.Mem.Admits c.read_node.new.mem m).
    can-below c.toward-side.result c.requires.ready.tree (read.does m a) c.if-at-eq0.false
    (c.requires.lawful m (read.leads.narrows m a)) in (
      omega (arith, c.decreases),
      (
        within.0,
        (within.1, (c.requires.key, (omega (arith, c.child.ensures), (w.ready, λ m a. rw c.child.ensures (goes m a))))),
      ),
    )

pub returns-then-at-eq0-clause-steps : goal.returns-then-at-eq0-clause-steps
returns-then-at-eq0-clause-steps g t c =
    steps-as c.in_ok-placed.ensures.steps (λ leaves. settled c.args.request c.in_ok-placed.placed leaves)
    (λ before after placed h.
    rw (missing_child c.if-at-eq0.true (stands_of h.sub)) (placed h.free h.is_free))

pub returns-then-request-node-clause-steps : goal.returns-then-request-node-clause-steps
returns-then-request-node-clause-steps g t c =
    let q = c.args.request in
    let placed = c.in_ok-placed-2.placed in
    let found = steps-then c.in_ok-node.ensures.steps c.in_ok-below.ensures.steps in
    steps-as (steps-then found c.in_ok-placed-2.ensures.steps) (λ leaves.
    let is = settled q placed leaves in
    ((tt, subst (LeavesAll q) (sym (c.in_ok-placed-2.ensures.settled is)) leaves), is)) (λ before after h. place-below q
    c.toward-side.result c.args.depth c.in_ok-below.below placed h.mid after c.requires.ready.tree c.if-at-eq0.false
    c.toward-side.ensures h.first.first (rw (h.first.first.same, c.child.ensures) at h.first.second) h.second)

pub returns-then-request-clause-steps : goal.returns-then-request-clause-steps
returns-then-request-clause-steps g t c =
    steps-as (steps-then c.in_ok-node.ensures.steps c.in_ok-write_node.ensures)
    (λ keep. absurd (cc (keep, c.if-request.true))) (λ before after h.
    place-replaced c.args.request c.args.depth c.requires.ready.tree c.if-at-eq0.false c.if-request-node.false
    c.if-request.true h.first (rw h.first.same at h.second))

pub returns-clause-steps : goal.returns-clause-steps
returns-clause-steps g t c =
    steps-as c.in_ok-node.ensures.steps (λ keep. tt) (λ before after.
    place-found c.args.request c.args.depth c.requires.ready.tree c.if-at-eq0.false c.if-request-node.false
    c.if-request.false)
