use Rattle.dstm_tree.proofs.Base.{Some, None, refl}
use Rattle.dstm_tree.proofs.Taking.{whole-none, whole-removed, part_at_root, removed_at_root}
use Rattle.dstm_tree.proofs.Stepping.{steps-as, steps-then}
use Rattle.dstm_tree.proofs.removal.remove_in.Goals as goal

pub remove_below-requires-clause-lawful : goal.remove_below-requires-clause-lawful
remove_below-requires-clause-lawful g c map admitted =
    let read = c.in_ok-root.ensures.steps in
    let (limit, (items, t)) = c.requires.lawful map (read.leads.narrows map admitted) in
    part_at_root items t (read.does map admitted)

pub returns-in_default : goal.returns-in_default
returns-in_default g c =
    steps-as (steps-then c.in_ok-root.ensures.steps c.in_ok-found.ensures) (λ other. (tt, c.in_default.is))
    (λ before after h limit items t.
    whole-none c.args.key items t (removed_at_root c.args.key None _ items t c.in_default.is h.first h.second))

pub give_back-requires-clause-number : goal.give_back-requires-clause-number
give_back-requires-clause-number g c =
    let steps = steps-then c.in_ok-root.ensures.steps c.in_ok-found.ensures in
    let (map, admitted) = steps.leads.admits in
    let (limit, (items, t)) = c.requires.lawful map (steps.leads.narrows map admitted) in
    let h = steps.does map admitted in
    let lost = (removed_at_root c.args.key (Some c.in-Some.removed) _ items t c.in-Some.is h.first h.second).loses in
    (lost.some, lost.within)

pub returns : goal.returns
returns g c =
    let found = steps-then c.in_ok-root.ensures.steps c.in_ok-found.ensures in
    let given = steps-then found c.in_ok-give_back.ensures in
    steps-as (steps-then given c.in_ok-update_root.ensures) (λ other. absurd (other refl))
    (λ before after h limit items t.
    let start = h.first.first in
    let taken = removed_at_root c.args.key (Some c.in-Some.removed) _ items t c.in-Some.is start.first start.second in
    whole-removed _ items t (start.first.is limit items t) taken h.first.second h.second)
