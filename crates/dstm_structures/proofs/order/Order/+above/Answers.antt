use Rattle.std.proofs.Common.{◌∙◌, ◌/◌, ◌^◌, arith, refl, sym}
use Rattle.dstm_structures.specs.Orders.{Follows, IsNext}
use Rattle.dstm_structures.proofs.Doing.{does-as, does-is, does-read, does-still, does-then, does-thrice}
use Rattle.dstm_structures.proofs.Mapping.{reads-key}
use Rattle.dstm_structures.proofs.Ordering.{finds-nothing, finds-stopped, follows-all, follows-later, follows-left, follows-no-tip, follows-none, follows-right, follows-tip}
use Rattle.dstm_structures.proofs.order.Order.+above.Goals as goal

pub returns-in-Nothing-clause-follows : goal.returns-in-Nothing-clause-follows
returns-in-Nothing-clause-follows g t c =
    does-still (λ values. finds-nothing c.args.self.cells (IsNext c.args.key) c.args.link c.args.under values
    (sym c.in-Nothing.is ∙ c.link.ensures.is))

pub returns-then-is_above-clause-follows : goal.returns-then-is_above-clause-follows
returns-then-is_above-clause-follows g t c =
    does-as (does-read c.in_ok-slot-in-Tip.ensures.gets)
    (λ before after size reads. follows-tip c.args.self.cells c.args.key c.args.link c.args.under c.in-Tip.at
    c.slot_at.result.object c.in_ok-slot-in-Tip.slot.key before after (sym c.in-Tip.is ∙ c.link.ensures.is) c.slot_at.ensures (reads-key reads)
    (sym c.is_above.ensures ∙ c.if-is_above.true))

pub returns-else-is_above-clause-follows : goal.returns-else-is_above-clause-follows
returns-else-is_above-clause-follows g t c =
    does-as (does-read c.in_ok-slot-in-Tip.ensures.gets)
    (λ before after size reads. follows-no-tip c.args.self.cells c.args.key c.args.link c.args.under c.in-Tip.at
    c.slot_at.result.object c.in_ok-slot-in-Tip.slot.key before after (sym c.in-Tip.is ∙ c.link.ensures.is) c.slot_at.ensures (reads-key reads)
    (sym c.is_above.ensures ∙ c.if-is_above.false))

pub returns-then-fork-under-clause-follows : goal.returns-then-fork-under-clause-follows
returns-then-fork-under-clause-follows g t c =
    let fork = c.in_ok-fork-in-Fork.fork in
    does-as c.in_ok-fork-in-Fork.ensures.looks
    (λ before after size looks. finds-stopped c.args.self.cells c.args.link c.args.under c.in-Fork.at fork.level
    fork.prefix fork.left fork.right (sym c.in-Fork.is ∙ c.link.ensures.is) (IsNext c.args.key) before after
    (omega (arith, c.if-fork-under.true)) looks.tells looks.same)

pub returns-then-part-fork-clause-follows : goal.returns-then-part-fork-clause-follows
returns-then-part-fork-clause-follows g t c =
    let fork = c.in_ok-fork-in-Fork.fork in
    does-then c.in_ok-fork-in-Fork.ensures.goes.keeps c.in_ok-fork-in-Fork.ensures.looks c.in_ok-first-in-Fork.ensures.ends
    (λ before mid after size looks done. follows-all c.args.self.cells c.args.link c.args.under c.in-Fork.at fork.level
    fork.prefix fork.left fork.right (sym c.in-Fork.is ∙ c.link.ensures.is) c.args.key (c.args.key / 2 ^ fork.level) refl before mid
    looks.tells looks.same c.in_ok-first-in-Fork.first after (omega (arith, c.if-part-fork.true)) done)

pub returns-then-part-fork-2-clause-follows : goal.returns-then-part-fork-2-clause-follows
returns-then-part-fork-2-clause-follows g t c =
    let fork = c.in_ok-fork-in-Fork.fork in
    does-as c.in_ok-fork-in-Fork.ensures.looks
    (λ before after size looks. follows-none c.args.self.cells c.args.link c.args.under c.in-Fork.at fork.level
    fork.prefix fork.left fork.right (sym c.in-Fork.is ∙ c.link.ensures.is) c.args.key (c.args.key / 2 ^ fork.level) refl before after
    looks.tells looks.same (omega (arith, c.if-part-fork-2.true)))

pub above-requires : goal.above-requires
above-requires g t c κs within =
    (omega (arith, c.if-fork-under.false, c.decreases), (within.0, (within.1, omega (arith, c.if-fork-under.false, c.requires))))

pub returns-then-part-eq1-clause-follows : goal.returns-then-part-eq1-clause-follows
returns-then-part-eq1-clause-follows g t c =
    let fork = c.in_ok-fork-in-Fork.fork in
    does-then c.in_ok-fork-in-Fork.ensures.goes.keeps
    c.in_ok-fork-in-Fork.ensures.looks c.in_ok-right-in-Fork.ensures.follows
    (λ before mid after size looks done. follows-right c.args.self.cells c.args.link c.args.under c.in-Fork.at fork.level
    fork.prefix fork.left fork.right (sym c.in-Fork.is ∙ c.link.ensures.is) c.args.key (c.args.key / 2 ^ fork.level) refl before mid
    looks.tells looks.same c.in_ok-right-in-Fork.right after
    (omega (arith, c.if-part-fork.false, c.if-part-fork-2.false, c.if-part-eq1.true)) done)

pub above-requires-in-Fork : goal.above-requires-in-Fork
above-requires-in-Fork g t c κs within =
    (omega (arith, c.if-fork-under.false, c.decreases), (within.0, (within.1, omega (arith, c.if-fork-under.false, c.requires))))

pub returns-in-Some-clause-follows : goal.returns-in-Some-clause-follows
returns-in-Some-clause-follows g t c =
    let fork = c.in_ok-fork-in-Fork.fork in
    does-then c.in_ok-fork-in-Fork.ensures.goes.keeps c.in_ok-fork-in-Fork.ensures.looks
    (does-is (Follows c.args.self.cells c.args.key fork.left fork.level) c.in-Some.is c.in_ok-left-in-Fork.ensures.follows)
    (λ before mid after size looks done. follows-left c.args.self.cells c.args.link c.args.under c.in-Fork.at fork.level
    fork.prefix fork.left fork.right (sym c.in-Fork.is ∙ c.link.ensures.is) c.args.key (c.args.key / 2 ^ fork.level) refl before mid
    looks.tells looks.same c.in-Some.at after
    (omega (arith, c.if-part-fork.false, c.if-part-fork-2.false, c.if-part-eq1.false)) done)

pub returns-in_ok-later-in-Fork-clause-follows : goal.returns-in_ok-later-in-Fork-clause-follows
returns-in_ok-later-in-Fork-clause-follows g t c =
    let fork = c.in_ok-fork-in-Fork.fork in
    does-thrice c.in_ok-fork-in-Fork.ensures.goes.keeps c.in_ok-left-in-Fork.ensures.goes.keeps c.in_ok-fork-in-Fork.ensures.looks
    (does-is (Follows c.args.self.cells c.args.key fork.left fork.level) c.in_default.is c.in_ok-left-in-Fork.ensures.follows)
    c.in_ok-later-in-Fork.ensures.ends
    (λ before mid near after size looks none done. follows-later c.args.self.cells c.args.link c.args.under c.in-Fork.at
    fork.level fork.prefix fork.left fork.right (sym c.in-Fork.is ∙ c.link.ensures.is) c.args.key (c.args.key / 2 ^ fork.level) refl before mid
    looks.tells looks.same c.in_ok-later-in-Fork.later near after (omega (arith, c.if-part-fork.false, c.if-part-fork-2.false, c.if-part-eq1.false)) none done)
