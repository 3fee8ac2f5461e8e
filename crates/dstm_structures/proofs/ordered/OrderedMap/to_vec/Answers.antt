use Rattle.std.proofs.Common.{ℕ, List, subst, sym}
use Rattle.dstm_structures.specs.Effects.{goes-again}
use Rattle.dstm_structures.proofs.Doing.{does-as, does-then}
use Rattle.dstm_structures.proofs.Items.{Walking, walk-end, walk-next, walk-start}
use Rattle.dstm_structures.proofs.ordered.OrderedMap.to_vec.Goals as goal

pub loop-next-init : goal.loop-next-init
loop-next-init g c = (
  c.in_ok-next.ensures.goes,
  does-as c.in_ok-next.ensures.tells
      (λ before after size tells. subst (λ (xs : List (ℕ × g.row.V.Denot)).
      Walking g.V.Word.found c.args.self xs c.in_ok-next.next before after) (sym c.new-items.ensures.items)
      (walk-start g.V.Word.found c.args.self c.in_ok-next.next before after tells)),
  c.in_ok-next.ensures.may,
  c.in_ok-next.ensures.together,
)

pub loop-next-preserved : goal.loop-next-preserved
loop-next-preserved g c = (
  goes-again c.loop-next.invariant.0 c.in_ok-above.ensures.goes,
  does-then c.loop-next.invariant.0.keeps c.loop-next.invariant.1
      c.in_ok-above.ensures.tells (λ before mid after size walking tells. subst (λ (xs : List (ℕ × g.row.V.Denot)).
      Walking g.V.Word.found c.args.self xs c.if_above-next.result before after) (sym c.in_ok-push.ensures.items)
      (walk-next g.V.Word.found c.args.self c.loop-next.items.items c.in-Some.entry c.loop-next.next c.in_ok-above.above
      c.if_above-next.result before mid after c.in-Some.is c.if_above-next.ensures walking tells)),
  c.in_ok-above.ensures.may,
  c.in_ok-above.ensures.together,
)

pub returns-clause-lists : goal.returns-clause-lists
returns-clause-lists g c =
    does-as c.loop-next.invariant.1
    (λ before after size. walk-end g.V.Word.found c.args.self c.loop-next.items.items c.loop-next.next before after
    c.in_default.is)

pub returns-clause-may : goal.returns-clause-may
returns-clause-may g c = c.loop-next.invariant.2

pub returns-clause-together : goal.returns-clause-together
returns-clause-together g c = c.loop-next.invariant.3
