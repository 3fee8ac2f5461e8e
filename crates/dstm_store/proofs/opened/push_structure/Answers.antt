use Rattle.std.proofs.Common.{◌≡◌, ◌+◌, ◌<◌, List, [], ◌∷◌, ◌++◌, append_assoc, arith, sym, ◌∙◌, ap}
use Rattle.dstm_model.specs.declared.value.Val.{Val}
use Rattle.dstm_model.specs.Objects.{plain}
use Rattle.dstm_store.proofs.OpeningValues.{names_to, names_to-more, opening_structure-some}
use Rattle.dstm_store.proofs.opened.push_structure.Goals as goal

pub loop-free-preserved : goal.loop-free-preserved
loop-free-preserved c =
    let before = c.args.values.now.items in
    let i = c.loop-free.free in
    let v = c.plain-in-loop-free.result in
    let name : v ≡ plain (i + 1) = c.plain-in-loop-free.ensures ∙ ap (λ n. plain (n + 1)) c.from.ensures in
    c.in_ok-push-2.ensures.items
    ∙ ap (λ (vs : List Val). vs ++ v ∷ []) c.loop-free.invariant
    ∙ ap (λ (w : Val). (before ++ names_to i) ++ w ∷ []) name
    ∙ names_to-more before i

pub returns : goal.returns
returns c =
    let before = c.args.values.now.items in
    let i = c.loop-free.free in
    let all : i ≡ c.args.room = omega arith in
    let some : 0 < c.args.room = omega arith in
    c.in_ok-push-3.ensures.items
    ∙ ap (λ (vs : List Val). vs ++ c.plain-2.result ∷ []) c.loop-free.invariant
    ∙ ap (λ (w : Val). (before ++ names_to i) ++ w ∷ []) c.plain-2.ensures
    ∙ append_assoc before (names_to i) (plain 0 ∷ [])
    ∙ ap (λ k. before ++ (names_to k ++ plain 0 ∷ [])) all
    ∙ ap (λ (vs : List Val). before ++ vs) (sym (opening_structure-some c.args.room some))
