use Rattle.std.proofs.Common.{◌≡◌, ◌<◌, List, length, get_or, set, ap, sym, subst, ◌∙◌, arith}
use Rattle.std.specs.Prelude.{IsSome}
use Rattle.std.proofs.lemmas.List.{get_or_read}
use Rattle.dstm_workload.specs.declared.workload.Job.{Job}
use Rattle.dstm_report.specs.Lawful.{first_job}
use Rattle.dstm_report.specs.Turns.{Turning, without_first, ArePlaces, left_from}
use Rattle.dstm_report.proofs.Places.{has_place, passed, places_passed}
use Rattle.dstm_report.proofs.turns.Turns.pass.Goals as goal

pub index-place-requires : goal.index-place-requires
index-place-requires c =
    let at = has_place c.args.worker c.self.invariant
    (subst (λ (t : Turning). IsSome (first_job c.args.worker t.left)) (sym c.self.view_is) c.requires) in
    omega (arith, at.0)

pub index-requires : goal.index-requires
index-requires c =
    let next = c.self.inside.next.items in
    let at = has_place c.args.worker c.self.invariant
    (subst (λ (t : Turning). IsSome (first_job c.args.worker t.left)) (sym c.self.view_is) c.requires) in
    omega (arith, at.1, get_or_read next _ _ at.0 c.index-place.ensures 0, c.self.invariant.each_job)

pub index_mut-requires : goal.index_mut-requires
index_mut-requires c =
    let at = has_place c.args.worker c.self.invariant
    (subst (λ (t : Turning). IsSome (first_job c.args.worker t.left)) (sym c.self.view_is) c.requires) in
    omega (arith, at.0)

-- the place that is set
after_is : (c : goal.After-self-1) →
    c.index.result.now ≡ get_or c.self.inside.following.items (get_or c.self.inside.next.items c.args.worker 0) 0
after_is c =
    let next = c.self.inside.next.items in
    let followers = c.self.inside.following.items in
    let at = has_place c.args.worker c.self.invariant
    (subst (λ (t : Turning). IsSome (first_job c.args.worker t.left)) (sym c.self.view_is) c.requires) in
    let place = get_or_read next _ _ at.0 c.index-place.ensures 0 in
    let inside : c.index-place.result.now < length followers = omega (arith, at.1, place, c.self.invariant.each_job) in
    get_or_read followers _ _ inside c.index.ensures 0 ∙ ap (λ p. get_or followers p 0) place

pub invariant_of-self : goal.invariant_of-self
invariant_of-self c =
    let jobs = c.self.inside.jobs.now in
    let next = c.self.inside.next.items in
    let followers = c.self.inside.following.items in
    let at = has_place c.args.worker c.self.invariant
    (subst (λ (t : Turning). IsSome (first_job c.args.worker t.left)) (sym c.self.view_is) c.requires) in
    subst (λ after. ArePlaces jobs (set next c.args.worker after) followers) (sym (after_is c))
    (places_passed c.args.worker c.self.invariant at.0 at.1)

pub returns : goal.returns
returns c =
    let jobs = c.self.inside.jobs.now in
    let next = c.self.inside.next.items in
    let followers = c.self.inside.following.items in
    let at = has_place c.args.worker c.self.invariant
    (subst (λ (t : Turning). IsSome (first_job c.args.worker t.left)) (sym c.self.view_is) c.requires) in
    let whole : List Job → Turning = λ (left : List Job). record { jobs = jobs; left = left } in
    ap whole (ap (λ after. left_from 0 (set next c.args.worker after) jobs) (after_is c)
    ∙ passed c.args.worker c.self.invariant at.0 at.1)
    ∙ ap (λ (t : Turning). record { jobs = t.jobs; left = without_first c.args.worker t.left }) c.self.view_is
