use Rattle.dstm_tree.proofs.Base.{refl, sym, subst, LeavesAll, FitsPlaced}
use Rattle.dstm_tree.proofs.Whole.{can-root, no-pair, answers-full, answers-found, answers-added, answers-root}
use Rattle.dstm_tree.proofs.Stepping.{steps-as, steps-then, sets-same}
use Rattle.dstm_tree.proofs.place.place.Goals as goal

pub place_below-requires-clause-lawful : goal.place_below-requires-clause-lawful
place_below-requires-clause-lawful g c map admitted =
    let read = c.in_ok-root.ensures.steps in
    let (limit, (items, t)) = c.requires.ready.lawful map (read.leads.narrows map admitted) in
    can-root items t (read.does map admitted)

pub unreachable-requires : goal.unreachable-requires
unreachable-requires g c =
    let steps = steps-then c.in_ok-root.ensures.steps c.in_ok-placed.ensures.steps in
    let (map, admitted) = steps.leads.admits in
    let (limit, (items, t)) = c.requires.ready.lawful map (steps.leads.narrows map admitted) in
    let h = steps.does map admitted in
    no-pair c.args.request _ _ _ items t c.in-Pair.is h.first h.second

pub returns-in-Full : goal.returns-in-Full
returns-in-Full g c =
    steps-as (steps-then c.in_ok-root.ensures.steps c.in_ok-placed.ensures.steps)
    (λ leaves. (tt, subst (LeavesAll c.args.request) (sym c.in-Full.is) tt))
    (λ before after h. answers-full c.args.request h.first (rw c.in-Full.is at h.second))

pub returns-in-Found : goal.returns-in-Found
returns-in-Found g c =
    steps-as (steps-then c.in_ok-root.ensures.steps c.in_ok-placed.ensures.steps)
    (λ leaves. (tt, subst (LeavesAll c.args.request) (sym c.in-Found.is) (leaves.1 refl)))
    (λ before after h. answers-found c.args.request h.first (rw c.in-Found.is at h.second))

pub returns-in-Added : goal.returns-in-Added
returns-in-Added g c =
    steps-as (steps-then c.in_ok-root.ensures.steps c.in_ok-placed.ensures.steps) (λ leaves. absurd (leaves.0 refl))
    (λ before after h. answers-added c.args.request h.first (rw c.in-Added.is at h.second))

pub returns-in_ok-write-in-Root : goal.returns-in_ok-write-in-Root
returns-in_ok-write-in-Root g c =
    let fits = subst (FitsPlaced c.args.region) c.in-Root.is c.in_ok-placed.ensures.fits in
    let placed = steps-then c.in_ok-root.ensures.steps c.in_ok-placed.ensures.steps in
    let black = steps-then placed c.in_ok-write_node-in-Root.ensures in
    steps-as (steps-then black c.in_ok-write-in-Root.ensures) (λ leaves. absurd (leaves.0 refl)) (λ before after h.
    answers-root c.args.request c.in-Root.node fits.number h.first.first.first
    (rw c.in-Root.is at h.first.first.second) (rw c.with_red.ensures at h.first.second)
    (sets-same refl c.name.ensures h.second))
