use Rattle.std.proofs.Common.{◌∙◌, arith, sym}
use Rattle.dstm_structures.specs.Effects.{goes-again, goes-still}
use Rattle.dstm_structures.proofs.Doing.{does-as, does-still, then-read}
use Rattle.dstm_structures.proofs.Mapping.{pass-found, pass-next, pass-none, pass-start, reads-key}
use Rattle.dstm_structures.proofs.map.HashMap.free.Goals as goal

pub loop-passed-init : goal.loop-passed-init
loop-passed-init g c = (
  goes-still,
  does-still (λ values. pass-start c.args.self c.args.home c.args.reach values),
  λ m. m,
  λ m. m,
)

pub returns-then-is_free-clause-frees : goal.returns-then-is_free-clause-frees
returns-then-is_free-clause-frees g c =
    then-read c.loop-passed.invariant.0.keeps c.loop-passed.invariant.1 c.in_ok-slot.ensures.gets
    (λ before mid after size p reads is. pass-found c.args.self c.args.home c.args.reach c.loop-passed.passed
    c.behind-at.result c.slot_at.result.object c.in_ok-slot.slot.key _ before mid after c.behind-at.ensures.behind c.slot_at.ensures
    (grind arith) (p is) (reads-key reads) (sym c.is_free.ensures ∙ c.if-is_free.true))

pub loop-passed-preserved : goal.loop-passed-preserved
loop-passed-preserved g c = (
  goes-again c.loop-passed.invariant.0 (record { keeps = c.in_ok-slot.ensures.keeps; notes = c.in_ok-slot.ensures.notes }),
  then-read c.loop-passed.invariant.0.keeps c.loop-passed.invariant.1 c.in_ok-slot.ensures.gets
      (λ before mid after size p reads is. pass-next c.args.self c.args.home c.args.reach c.loop-passed.passed
      c.behind-at.result c.slot_at.result.object c.in_ok-slot.slot.key _ before mid after c.behind-at.ensures.behind c.slot_at.ensures
      (grind arith) (p is) (reads-key reads) (sym c.is_free.ensures ∙ c.if-is_free.false)),
  λ m. c.in_ok-slot.ensures.may,
  λ m. c.in_ok-slot.ensures.together,
)

pub returns-clause-frees : goal.returns-clause-frees
returns-clause-frees g c =
    does-as c.loop-passed.invariant.1
    (λ before after size p is. pass-none c.args.self c.args.home c.args.reach c.loop-passed.passed before after
    (omega (arith, c.loop-passed-test.false)) (p is))
