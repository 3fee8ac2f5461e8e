use Rattle.std.proofs.Common.{◌∙◌, ◌/◌, ◌^◌, arith, refl, sym}
use Rattle.dstm_structures.specs.Orders.{IsPrevious, Precedes}
use Rattle.dstm_structures.proofs.Doing.{does-as, does-is, does-read, does-still, does-then, does-thrice}
use Rattle.dstm_structures.proofs.Mapping.{reads-key}
use Rattle.dstm_structures.proofs.Ordering.{finds-nothing, finds-stopped, precedes-all, precedes-earlier, precedes-left, precedes-no-tip, precedes-none, precedes-right, precedes-tip}
use Rattle.dstm_structures.proofs.order.Order.+below.Goals as goal

pub returns-in-Nothing-clause-precedes : goal.returns-in-Nothing-clause-precedes
returns-in-Nothing-clause-precedes g t c =
    does-still (λ values. finds-nothing c.args.self.cells (IsPrevious c.args.key) c.args.link c.args.under values
    (sym c.in-Nothing.is ∙ c.link.ensures.is))

pub returns-then-is_below-clause-precedes : goal.returns-then-is_below-clause-precedes
returns-then-is_below-clause-precedes g t c =
    does-as (does-read c.in_ok-slot-in-Tip.ensures.gets)
    (λ before after size reads. precedes-tip c.args.self.cells c.args.key c.args.link c.args.under c.in-Tip.at
    c.slot_at.result.object c.in_ok-slot-in-Tip.slot.key before after (sym c.in-Tip.is ∙ c.link.ensures.is) c.slot_at.ensures (reads-key reads)
    (sym c.is_below.ensures ∙ c.if-is_below.true))

pub returns-else-is_below-clause-precedes : goal.returns-else-is_below-clause-precedes
returns-else-is_below-clause-precedes g t c =
    does-as (does-read c.in_ok-slot-in-Tip.ensures.gets)
    (λ before after size reads. precedes-no-tip c.args.self.cells c.args.key c.args.link c.args.under c.in-Tip.at
    c.slot_at.result.object c.in_ok-slot-in-Tip.slot.key before after (sym c.in-Tip.is ∙ c.link.ensures.is) c.slot_at.ensures (reads-key reads)
    (sym c.is_below.ensures ∙ c.if-is_below.false))

pub returns-then-fork-under-clause-precedes : goal.returns-then-fork-under-clause-precedes
returns-then-fork-under-clause-precedes g t c =
    let fork = c.in_ok-fork-in-Fork.fork in
    does-as c.in_ok-fork-in-Fork.ensures.looks
    (λ before after size looks. finds-stopped c.args.self.cells c.args.link c.args.under c.in-Fork.at fork.level
    fork.prefix fork.left fork.right (sym c.in-Fork.is ∙ c.link.ensures.is) (IsPrevious c.args.key) before after
    (omega (arith, c.if-fork-under.true)) looks.tells looks.same)

pub returns-then-part-fork-clause-precedes : goal.returns-then-part-fork-clause-precedes
returns-then-part-fork-clause-precedes g t c =
    let fork = c.in_ok-fork-in-Fork.fork in
    does-then c.in_ok-fork-in-Fork.ensures.goes.keeps c.in_ok-fork-in-Fork.ensures.looks c.in_ok-last-in-Fork.ensures.ends
    (λ before mid after size looks done. precedes-all c.args.self.cells c.args.link c.args.under c.in-Fork.at fork.level
    fork.prefix fork.left fork.right (sym c.in-Fork.is ∙ c.link.ensures.is) c.args.key (c.args.key / 2 ^ fork.level) refl before mid
    looks.tells looks.same c.in_ok-last-in-Fork.last after (omega (arith, c.if-part-fork.true)) done)

pub returns-then-part-fork-2-clause-precedes : goal.returns-then-part-fork-2-clause-precedes
returns-then-part-fork-2-clause-precedes g t c =
    let fork = c.in_ok-fork-in-Fork.fork in
    does-as c.in_ok-fork-in-Fork.ensures.looks
    (λ before after size looks. precedes-none c.args.self.cells c.args.link c.args.under c.in-Fork.at fork.level
    fork.prefix fork.left fork.right (sym c.in-Fork.is ∙ c.link.ensures.is) c.args.key (c.args.key / 2 ^ fork.level) refl before after
    looks.tells looks.same (omega (arith, c.if-part-fork-2.true)))

pub below-requires : goal.below-requires
below-requires g t c κs within =
    (omega (arith, c.if-fork-under.false, c.decreases), (within.0, (within.1, omega (arith, c.if-fork-under.false, c.requires))))

pub returns-then-part-eq0-clause-precedes : goal.returns-then-part-eq0-clause-precedes
returns-then-part-eq0-clause-precedes g t c =
    let fork = c.in_ok-fork-in-Fork.fork in
    does-then c.in_ok-fork-in-Fork.ensures.goes.keeps
    c.in_ok-fork-in-Fork.ensures.looks c.in_ok-left-in-Fork.ensures.precedes
    (λ before mid after size looks done. precedes-left c.args.self.cells c.args.link c.args.under c.in-Fork.at fork.level
    fork.prefix fork.left fork.right (sym c.in-Fork.is ∙ c.link.ensures.is) c.args.key (c.args.key / 2 ^ fork.level) refl before mid
    looks.tells looks.same c.in_ok-left-in-Fork.left after
    (omega (arith, c.if-part-fork.false, c.if-part-fork-2.false, c.if-part-eq0.true)) done)

pub below-requires-in-Fork : goal.below-requires-in-Fork
below-requires-in-Fork g t c κs within =
    (omega (arith, c.if-fork-under.false, c.decreases), (within.0, (within.1, omega (arith, c.if-fork-under.false, c.requires))))

pub returns-in-Some-clause-precedes : goal.returns-in-Some-clause-precedes
returns-in-Some-clause-precedes g t c =
    let fork = c.in_ok-fork-in-Fork.fork in
    does-then c.in_ok-fork-in-Fork.ensures.goes.keeps c.in_ok-fork-in-Fork.ensures.looks
    (does-is (Precedes c.args.self.cells c.args.key fork.right fork.level) c.in-Some.is c.in_ok-right-in-Fork.ensures.precedes)
    (λ before mid after size looks done. precedes-right c.args.self.cells c.args.link c.args.under c.in-Fork.at fork.level
    fork.prefix fork.left fork.right (sym c.in-Fork.is ∙ c.link.ensures.is) c.args.key (c.args.key / 2 ^ fork.level) refl before mid
    looks.tells looks.same c.in-Some.at after
    (omega (arith, c.if-part-fork.false, c.if-part-fork-2.false, c.if-part-eq0.false)) done)

pub returns-in_ok-earlier-in-Fork-clause-precedes : goal.returns-in_ok-earlier-in-Fork-clause-precedes
returns-in_ok-earlier-in-Fork-clause-precedes g t c =
    let fork = c.in_ok-fork-in-Fork.fork in
    does-thrice c.in_ok-fork-in-Fork.ensures.goes.keeps c.in_ok-right-in-Fork.ensures.goes.keeps c.in_ok-fork-in-Fork.ensures.looks
    (does-is (Precedes c.args.self.cells c.args.key fork.right fork.level) c.in_default.is c.in_ok-right-in-Fork.ensures.precedes)
    c.in_ok-earlier-in-Fork.ensures.ends
    (λ before mid near after size looks none done. precedes-earlier c.args.self.cells c.args.link c.args.under c.in-Fork.at
    fork.level fork.prefix fork.left fork.right (sym c.in-Fork.is ∙ c.link.ensures.is) c.args.key (c.args.key / 2 ^ fork.level) refl before mid
    looks.tells looks.same c.in_ok-earlier-in-Fork.earlier near after (omega (arith, c.if-part-fork.false, c.if-part-fork-2.false, c.if-part-eq0.false)) none done)
