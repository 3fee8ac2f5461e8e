use Rattle.std.proofs.Common.{ℕ, ◌+◌, ◌∙◌, List, ap, arith, length, subst, sym}
use Rattle.std.proofs.lemmas.List.{length_push}
use Rattle.dstm_structures.specs.Effects.{goes-again, goes-still}
use Rattle.dstm_structures.specs.Ordered.{TellsAbove}
use Rattle.dstm_structures.proofs.Doing.{does-as, does-is, does-still, does-then}
use Rattle.dstm_structures.proofs.Items.{WalkingAbove, above-full, above-next, above-none, above-start}
use Rattle.dstm_structures.proofs.ordered.OrderedMap.list_above.Goals as goal

pub loop-told-init : goal.loop-told-init
loop-told-init g c = (
  goes-still,
  does-still (λ values. subst (λ (xs : List (ℕ × g.row.V.Denot)).
      WalkingAbove g.V.Word.found c.args.self c.args.key c.args.key xs values values) (sym c.new-items.ensures.items)
      (above-start g.V.Word.found c.args.self c.args.key values)),
  λ m. m,
  ap (length {A = ℕ × g.row.V.Denot}) c.new-items.ensures.items,
  λ m. m,
)

pub loop-told-preserved : goal.loop-told-preserved
loop-told-preserved g c = (
  goes-again c.loop-told.invariant.0 c.in_ok-above.ensures.goes,
  does-then c.loop-told.invariant.0.keeps c.loop-told.invariant.1
      (does-is (TellsAbove g.V.Word.found c.args.self c.loop-told.last) c.in-Some.is c.in_ok-above.ensures.tells)
      (λ before mid after size walking tells. subst (λ (xs : List (ℕ × g.row.V.Denot)).
      WalkingAbove g.V.Word.found c.args.self c.args.key c.in-Some.entry.0 xs before after) (sym c.in_ok-push.ensures.items)
      (above-next g.V.Word.found c.args.self c.args.key c.loop-told.last c.loop-told.items.items c.in-Some.entry before mid
      after walking tells)),
  λ m. c.in_ok-above.ensures.may,
  ap (length {A = ℕ × g.row.V.Denot}) c.in_ok-push.ensures.items
      ∙ length_push c.loop-told.items.items c.in-Some.entry ∙ ap (λ (n : ℕ). n + 1) c.loop-told.invariant.3,
  λ m. c.in_ok-above.ensures.together,
)

pub returns-in_default-clause-lists : goal.returns-in_default-clause-lists
returns-in_default-clause-lists g c =
    does-then c.loop-told.invariant.0.keeps c.loop-told.invariant.1
    (does-is (TellsAbove g.V.Word.found c.args.self c.loop-told.last) c.in_default.is c.in_ok-above.ensures.tells)
    (λ before mid after size. above-none g.V.Word.found c.args.self c.args.key c.loop-told.last c.args.most
    c.loop-told.items.items before mid after (omega (arith, c.loop-told.invariant.3, c.loop-told-test.true)))

pub returns-clause-lists : goal.returns-clause-lists
returns-clause-lists g c =
    does-as c.loop-told.invariant.1
    (λ before after size. above-full g.V.Word.found c.args.self c.args.key c.loop-told.last c.args.most
    c.loop-told.items.items before after (omega (arith, c.loop-told.invariant.3, c.loop-told-test.false, c.loop-told.auto)))

pub returns-in_default-clause-goes : goal.returns-in_default-clause-goes
returns-in_default-clause-goes g c = goes-again c.loop-told.invariant.0 c.in_ok-above.ensures.goes

pub returns-in_err-push-clause-goes : goal.returns-in_err-push-clause-goes
returns-in_err-push-clause-goes g c = goes-again c.loop-told.invariant.0 c.in_ok-above.ensures.goes
