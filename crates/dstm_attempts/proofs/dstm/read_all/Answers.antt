use Rattle.std.proofs.Common.{◌∙◌, ◌≡◌, ℕ, List, arith, get_or, inl, inr, length, subst, sym}
use Rattle.std.specs.Prelude.{All}
use Rattle.std.proofs.lemmas.List.{take_all}
use Rattle.dstm_model.specs.declared.value.Val.{Val}
use Rattle.dstm_model.specs.Map.{value_at}
use Rattle.dstm_tables.specs.declared.tables.Caller.TheVariants.{Dstm}
use Rattle.dstm_attempts.specs.Attempts.{MayBegin}
use Rattle.dstm_attempts.specs.Waiting.{OpensFirst}
use Rattle.dstm_attempts.proofs.Letting.{finds_other_at, found_more, found_other, no_more_on, opens_more, other_value, same_value, untouched_on}
use Rattle.dstm_attempts.proofs.dstm.read_all.Goals as goal

pub loop-pair-preserved : goal.loop-pair-preserved
loop-pair-preserved g c =
    let k = c.loop-pair.caller in
    let n = c.read.new.self in
    let so_far = c.loop-pair.invariant in
    let values = c.args.values.now in
    let i = c.loop-pair.pair-index in
    let object : ℕ = (get_or values i (0, record { low = 0; high = 0 })).0 in
    let found = c.in-Ok.found in
    let finds = c.in-Ok.ensures.finds in
    record {
      keeps = c.read.ensures.keeps ∙ so_far.keeps;
      going = c.in-Ok.ensures.going;
      flags = c.read.ensures.flags;
      untouched = untouched_on g.L.Law.holds k n object found so_far.untouched finds;
      may = c.in-Ok.ensures.may;
      found = found_more g.L.Law.holds k n values i (0, record { low = 0; high = 0 }) found c.loop-pair-test.true so_far.untouched finds
          (same_value found (get_or values i (0, record { low = 0; high = 0 })).1 (sym c.ne.ensures ∙ c.if-ne.false)) so_far.found;
      no_more = no_more_on c.args.caller.now k n so_far.keeps so_far.no_more c.in-Ok.ensures.unmarked;
      reads = opens_more g.L.Law.holds i values c.args.caller.now k n so_far.reads c.in-Ok.ensures.once;
    }

pub returns-clause-same : goal.returns-clause-same
returns-clause-same g c h =
    let so_far = c.loop-pair.invariant in
    let k = c.loop-pair.caller in
    record {
      live = so_far.flags.0 so_far.going;
      untouched = so_far.untouched;
      may = so_far.may;
      found = subst (λ (ps : List (ℕ × Val)). (map : List Val) → MayBegin g.L.Law.holds (Dstm k) map →
          All (λ (p : ℕ × Val). value_at map p.0 ≡ p.1) ps) (take_all c.loop-pair.pair-index c.args.values.now c.loop-pair-test.false)
          so_far.found;
    }

pub returns-in_default-clause-other : goal.returns-in_default-clause-other
returns-in_default-clause-other g c h =
    let so_far = c.loop-pair.invariant in
    finds_other_at g.L.Law.holds c.args.caller.now c.loop-pair.caller _ c.args.values.now c.loop-pair.pair-index
    c.loop-pair-test.true so_far.reads so_far.keeps (so_far.flags.0 so_far.going)
    (inr (c.in_default.field-0, c.in_default.ensures.stops))

pub returns-then-ne-clause-other : goal.returns-then-ne-clause-other
returns-then-ne-clause-other g c h =
    let so_far = c.loop-pair.invariant in
    let d : ℕ × Val = (0, record { low = 0; high = 0 }) in
    let pair : ℕ × Val = get_or c.args.values.now c.loop-pair.pair-index d in
    finds_other_at g.L.Law.holds c.args.caller.now c.loop-pair.caller c.read.new.self c.args.values.now
    c.loop-pair.pair-index c.loop-pair-test.true so_far.reads so_far.keeps (so_far.flags.0 so_far.going)
    (inl (
      found_other g.L.Law.holds c.loop-pair.caller c.read.new.self pair.0 c.in-Ok.found pair.1 so_far.untouched
          c.in-Ok.ensures.finds c.in-Ok.ensures.may (other_value c.in-Ok.found pair.1 (sym c.ne.ensures ∙ c.if-ne.true)),
      c.in-Ok.ensures.once,
    ))

pub returns-clause-reads : goal.returns-clause-reads
returns-clause-reads g c h =
    let end : c.loop-pair.pair-index ≡ length c.args.values.now =
    omega (arith, c.loop-pair-test.false, c.loop-pair.auto.pair-index-end) in
    subst (λ count. OpensFirst g.L.Law.holds count c.args.values.now c.args.caller.now c.loop-pair.caller) end
    c.loop-pair.invariant.reads
