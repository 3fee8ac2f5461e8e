use Rattle.std.proofs.Common.{◌≡◌, ◌∙◌, ◌++◌, ◌∷◌, List, [], append_assoc, rules, subst, sym}
use Rattle.std.specs.Vec.Iter.{into_iter_items}
use Rattle.dstm_cells.specs.Runs.{HaveAnswered, ends_of}
use Rattle.dstm_cells.specs.declared.memory.Ended.{Ended}
use Rattle.dstm_cells.proofs.Running.{ended_push, first_ended_failed, many_ended}
use Rattle.dstm_cells.proofs.memory.all_answers.Goals as goal

pub loop-ended-preserved : goal.loop-ended-preserved
loop-ended-preserved g c =
    let before = c.loop-ended.yielded in
    let ended : Ended _ = c.in-Some.ended in
    let are : before ++ ended ∷ into_iter_items c.next.new.self ≡ c.args.ends.items =
    subst (λ (es : List (Ended _)). before ++ es ≡ c.args.ends.items) c.in-Some.ensures.steps.0 c.loop-ended.invariant.0 in
    let have : HaveAnswered (ends_of (before ++ ended ∷ [])) c.push_reserved.new.self.items =
    subst (HaveAnswered (ends_of (before ++ ended ∷ []))) (sym c.push_reserved.ensures.items)
    (ended_push before c.loop-ended.answers.items ended c.in-Ok.answer c.loop-ended.invariant.1 c.in-Ok.is) in (
      append_assoc before (ended ∷ []) (into_iter_items c.next.new.self) ∙ are,
      have,
      many_ended (before ++ ended ∷ []) c.push_reserved.new.self.items have,
      search rules,
    )

pub returns-in-Err-clause-first : goal.returns-in-Err-clause-first
returns-in-Err-clause-first g c =
    let before = c.loop-ended.yielded in
    let ended : Ended _ = c.in-Some.ended in
    first_ended_failed c.args.ends.items before (into_iter_items c.next.new.self) ended c.loop-ended.answers.items c.in-Err.why
    (subst (λ (es : List (Ended _)). before ++ es ≡ c.args.ends.items) c.in-Some.ensures.steps.0 c.loop-ended.invariant.0)
    c.loop-ended.invariant.1 c.in-Err.is
