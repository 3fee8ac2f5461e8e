use Rattle.std.proofs.Common.{◌≡◌, ◌∙◌, ◌+◌, ◌∷◌, [], List, Option, ℕ, length, IsSome, set, sym, ap, subst, arith, rules}
use Rattle.dstm_crew.specs.Collecting.{IsAhead, heads}
use Rattle.dstm_crew.proofs.Least.{ahead_first, ahead_set, heads_length, heads_set}
use Rattle.dstm_workload.specs.declared.workload.Job.{Job}
use Rattle.dstm_report.specs.Turns.{Turning}
use Rattle.std.proofs.lemmas.List.{length-append, length-replicate, length-set}
use Rattle.dstm_report.proofs.Rising.{length-without_first}
use Rattle.dstm_crew.proofs.Merged.{Turn, collects_first, collects_last, collects_more, its_turn}
use Rattle.dstm_crew.proofs.collecting.collect.Goals.{After-push_row-arg-1}
use Rattle.dstm_crew.proofs.collecting.collect.Goals as goal

pub loop-lead-init : goal.loop-lead-init
loop-lead-init c =
    let numbers = c.note_numbers-numbers.ensures ∙ ap (heads c.args.shares.now) c.deref.ensures.value in
    let size = ap length c.requires.next ∙ length-replicate (length c.args.shares.now) 0 in (
      collects_first c.args.round c.requires.can c.requires.next,
      c.requires.room,
      numbers,
      ap length numbers ∙ heads_length c.args.shares.now c.args.next.items size,
      size,
      ahead_first c.note_numbers-numbers.result.items,
    )

pub lead_of-requires : goal.lead_of-requires
lead_of-requires c = record {
  ahead =
      subst (λ (xs : List (Option ℕ)). IsAhead xs c.loop-lead.before) (sym c.deref-in-loop-lead.ensures.value)
      c.loop-lead.invariant.5;
}

-- the share that comes next
turn : (c : After-push_row-arg-1) → Turn c.args.workload.now c.args.shares.now c.loop-lead.turns c.loop-lead.next.items
    c.in-Some.lead.place c.index-shares-least.result c.index-place.result.now
turn c =
    its_turn c.index-place.result.now c.loop-lead.invariant.0 (c.deref-in-loop-lead.ensures.value ∙ c.loop-lead.invariant.2) c.in-Some.ensures.some
    c.index-shares-least.is c.index-place.ensures

pub push_row-requires-clause-done : goal.push_row-requires-clause-done
push_row-requires-clause-done c = (turn (goal.at.push_row-requires-clause-done c).After-push_row-arg-1).some

pub push_row-requires-clause-room : goal.push_row-requires-clause-room
push_row-requires-clause-room c =
    let t = turn (goal.at.push_row-requires-clause-room c).After-push_row-arg-1 in
    let one = length-without_first c.index-shares-least.result.worker c.loop-lead.turns.left t.job t.first in
    let room = c.loop-lead.invariant.1 in
    omega (arith, one, room)

pub pass-requires : goal.pass-requires
pass-requires c =
    let t = turn (goal.at.pass-requires c).After-push_row-arg-1 in
    subst (λ (o : Option Job). IsSome o) (sym t.first) (search rules)

pub overflow_add-place : goal.overflow_add-place
overflow_add-place c =
    let t = turn (goal.at.overflow_add-place c).After-push_row-arg-1 in
    let some = t.some in
    let enough = t.fit.enough in
    let small = c.index-shares-least.result.places.small in
    let ok = c.index-shares-least.result.places.ok in
    omega (arith, some, enough, small, ok.0, ok.1)

pub overflow_add-place-in-Some : goal.overflow_add-place-in-Some
overflow_add-place-in-Some c =
    let t = turn (goal.at.overflow_add-place-in-Some c).After-push_row-arg-1 in
    let some = t.some in
    let enough = t.fit.enough in
    let small = c.index-shares-least.result.places.small in
    let ok = c.index-shares-least.result.places.ok in
    omega (arith, some, enough, small, ok.0, ok.1)

pub loop-lead-preserved : goal.loop-lead-preserved
loop-lead-preserved c =
    let t = turn (goal.at.loop-lead-preserved c).After-push_row-arg-1 in
    let one = length-without_first c.index-shares-least.result.worker c.loop-lead.turns.left t.job t.first in
    let fewer = ap (λ (turns : Turning). length turns.left) c.pass.ensures in
    let room = c.loop-lead.invariant.1 in
    let len : length c.push_row.new.rows.items ≡ length c.loop-lead.rows.items + 1 =
    ap length c.push_row.ensures.row.1.0 ∙ length-append c.loop-lead.rows.items (c.push_row.ensures.row.0 ∷ []) in
    let room_then = c.push_row.ensures.room in (
      collects_more c.loop-lead.invariant.0 (c.deref-in-loop-lead.ensures.value ∙ c.loop-lead.invariant.2) c.in-Some.ensures.some t c.push_row.ensures.row.1.0
          c.push_row.ensures.row.1.1 c.pass.ensures,
      omega (arith, one, fewer, room, len, room_then),
      ap (λ (xs : List (Option ℕ)). set xs c.in-Some.lead.place c.number_of.result) c.loop-lead.invariant.2
          ∙ ap (λ (n : Option ℕ). set (heads c.args.shares.now c.loop-lead.next.items) c.in-Some.lead.place n) c.number_of.ensures
          ∙ sym (heads_set c.args.shares.now c.loop-lead.next.items c.in-Some.lead.place (c.index-place.result.now + 1)
          c.index-shares-least.result t.there t.within),
      length-set c.loop-lead.numbers.items c.in-Some.lead.place c.number_of.result ∙ c.loop-lead.invariant.3,
      length-set c.loop-lead.next.items c.in-Some.lead.place (c.index-place.result.now + 1) ∙ c.loop-lead.invariant.4,
      ahead_set c.loop-lead.numbers.items c.in-Some.lead c.number_of.result
          (subst (λ (xs : List (Option ℕ)). IsAhead xs c.in-Some.lead) c.deref-in-loop-lead.ensures.value c.in-Some.ensures.ahead),
    )

pub loop-lead-smaller : goal.loop-lead-smaller
loop-lead-smaller c =
    let t = turn (goal.at.loop-lead-smaller c).After-push_row-arg-1 in
    let one = length-without_first c.index-shares-least.result.worker c.loop-lead.turns.left t.job t.first in
    let fewer = ap (λ (turns : Turning). length turns.left) c.pass.ensures in
    omega (arith, one, fewer)

pub returns-clause-collected : goal.returns-clause-collected
returns-clause-collected c = λ options r callers run.
    collects_last c.loop-lead.invariant.0 (c.deref-in-loop-lead.ensures.value ∙ c.loop-lead.invariant.2) c.in_default.ensures.none run
