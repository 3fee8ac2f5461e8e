use Rattle.std.proofs.Common.{◌∙◌, ◌<◌, ◌∷◌, ◌++◌, List, Option, None, [], length, ap, arith, refl, sym, take, ℕ}
use Rattle.std.proofs.lemmas.List.{length-set, take_all, take_more, take_more_set}
use Rattle.std.proofs.lemmas.Option.{slice_get_read}
use Rattle.dstm_crew.specs.Collecting.{heads}
use Rattle.dstm_crew.proofs.Going.{heads_at}
use Rattle.dstm_crew.proofs.Least.{heads_length}
use Rattle.dstm_crew.proofs.collecting.note_numbers.Goals as goal

pub loop-place-preserved : goal.loop-place-preserved
loop-place-preserved c =
    let shares = c.args.shares.now in
    let next = c.args.next.now in
    let place = c.loop-place.place in
    let numbers = c.loop-place.numbers.items in
    let share = c.index-shares-place.result in
    let (same, so_far) = c.loop-place.invariant in
    let all = heads_length shares next c.requires.next in
    let there = slice_get_read shares _ place share refl c.loop-place-test.true c.index-shares-place.is in
    let inside : place < length next = omega (arith, c.loop-place-test.true, c.requires.next) in
    let here = heads_at shares next place share there inside in (
      length-set numbers place c.number_of.result ∙ same,
      take_more_set numbers place c.number_of.result (omega (arith, same, c.loop-place-test.true))
          ∙ ap (λ (xs : List (Option ℕ)). xs ++ c.number_of.result ∷ []) so_far
          ∙ ap (λ (n : Option ℕ). take place (heads shares next) ++ n ∷ []) (c.number_of.ensures ∙ sym here)
          ∙ sym (take_more (heads shares next) place None (omega (arith, all, c.loop-place-test.true))),
    )

pub returns : goal.returns
returns c =
    let (same, all) = c.loop-place.invariant in
    let size = heads_length c.args.shares.now c.args.next.now c.requires.next in
    let past = c.loop-place-test.false in
    sym (take_all c.loop-place.place c.loop-place.numbers.items (omega (arith, same, past))) ∙ all
    ∙ take_all c.loop-place.place (heads c.args.shares.now c.args.next.now) (omega (arith, size, past))
