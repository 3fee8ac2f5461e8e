use Rattle.std.proofs.Common.{ℕ, List, refl, sym, ap, arith, subst, Contains}
use Rattle.std.proofs.lemmas.List.Elements.{Contains-append_right}
use Rattle.dstm_tl2_words.proofs.Seats.{numbers_differ}
use Rattle.dstm_engine_tests.proofs.tests.tl2_words.side_by_side.Goals as goal

pub returns-clause-differ : goal.returns-clause-differ
returns-clause-differ g c =
    let first = c.join-one.ensures.first.2 in
    let second = c.join-one.ensures.second.2 in
    let one = c.join-one.result.0 in
    let two = c.join-one.result.1 in
    let after = c.join.ensures.joined in
    let Has : ℕ → List ℕ → Type 0 = λ n ns. Contains ns n in
    let in_one : Has one.0 one.1.me.0.numbers = subst (Has one.0) (sym first) (0, omega arith, refl) in
    let in_two : Has two.0 two.1.me.0.numbers = subst (Has two.0) (sym second) (0, omega arith, refl) in
    let in_both = subst (Has one.0) (sym (ap (λ x. x.numbers) after.view)) (Contains-append_right _ _ one.0 in_one) in
    numbers_differ g.L.Law.holds _ _ _ one.0 two.0 c.join-2.ensures.joined in_both in_two
