use Rattle.std.proofs.Common.{◌≡◌, ℕ, ◌<◌, List, [], ◌∷◌, ◌++◌, ap, sym, subst, ◌∙◌, get_or, length, arith}
use Rattle.std.proofs.lemmas.List.{get_or_read}
use Rattle.dstm_report.specs.Turns.{Turning, left_from}
use Rattle.dstm_report.proofs.WorkerPlaces.{StandsAt, stands_first, stands_next}
use Rattle.dstm_report.proofs.turns.Turns.places.Goals as goal

pub loop-place-init : goal.loop-place-init
loop-place-init c =
    let jobs = c.self.inside.jobs.now in
    let next = c.self.inside.next.items in
    let place = c.place_of-place.result in
    subst (λ (t : Turning). StandsAt jobs t.left c.args.worker c.new-places.result.items place) c.self.view_is
    (subst (λ (found : List ℕ). StandsAt jobs (left_from 0 next jobs) c.args.worker found place)
    (sym c.new-places.ensures.items) (stands_first c.args.worker place c.self.invariant
    (c.place_of-place.ensures ∙ ap (λ (ns : List ℕ). get_or ns c.args.worker (length jobs)) c.deref.ensures.value)))

pub loop-place-preserved : goal.loop-place-preserved
loop-place-preserved c =
    let jobs = c.self.inside.jobs.now in
    let followers = c.self.inside.following.items in
    let place = c.loop-place.place in
    let inside : place < length followers = omega (arith, c.loop-place-test.true, c.self.invariant.each_job) in
    let pushed : c.push.new.self.items ≡ c.loop-place.places.items ++ place ∷ [] = c.in_ok-push.ensures.items in
    subst (λ (found : List ℕ). StandsAt jobs c.args.self.now.left c.args.worker found c.index-place.result.now) (sym pushed)
    (stands_next c.index-place.result.now c.self.invariant c.loop-place-test.true
    (get_or_read followers place _ inside c.index-place.ensures 0) c.loop-place.invariant)
