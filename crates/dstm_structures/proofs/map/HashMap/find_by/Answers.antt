use Rattle.std.proofs.Common.{◌∙◌, ap, arith, refl, sym, rules, false, ◌≡◌}
use Rattle.std.specs.Prelude.{Err}
use Rattle.dstm_structures.specs.Maps.{end_of}
use Rattle.dstm_structures.specs.declared.cells.Slot.{Slot}
use Rattle.dstm_structures.proofs.Mapping.{seek-found, seek-home, seek-next, seek-none}
use Rattle.dstm_structures.proofs.Circles.{behind-none}
use Rattle.dstm_structures.proofs.map.HashMap.find_by.Goals as goal

pub returns-in_err-first-clause-fails : goal.returns-in_err-first-clause-fails
returns-in_err-first-clause-fails g c =
    let answer = c.from_residual.ensures in
    let is : c.from_residual.result ≡ Err c.in_err-first.field-0.0 = search rules in
    rw is (c.in_err-first.ensures.fails (end_of c.args.self) (omega (arith, c.slot_at.ensures, c.home-home.ensures.within)))

pub returns-then-reach-eq0-clause-seeks : goal.returns-then-reach-eq0-clause-seeks
returns-then-reach-eq0-clause-seeks g c map values at =
    seek-none c.args.self c.args.key c.at_most-reach.result 0 values values (omega (arith, c.if-reach-eq0.true))
    (seek-home c.args.self c.args.key c.home-home.result c.at_most-reach.result c.slot_at.result.object c.in_ok-first.first
    values values c.home-home.ensures.home c.slot_at.ensures c.at_most-reach.ensures
    (record { is = c.in_ok-first.ensures.is map values at; same = refl }))

pub returns-then-is_key-clause-seeks : goal.returns-then-is_key-clause-seeks
returns-then-is_key-clause-seeks g c map values at =
    seek-found c.args.self c.args.key c.at_most-reach.result 0 c.home-home.result c.home-home.result
    c.slot_at.result.object c.in_ok-first.first.key values values values (omega (arith, c.if-reach-eq0.false))
    c.home-home.ensures.home (sym (behind-none _ c.home-home.result c.home-home.ensures.within)) c.slot_at.ensures
    (seek-home c.args.self c.args.key c.home-home.result c.at_most-reach.result c.slot_at.result.object c.in_ok-first.first
    values values c.home-home.ensures.home c.slot_at.ensures c.at_most-reach.ensures
    (record { is = c.in_ok-first.ensures.is map values at; same = refl }))
    (record { is = ap (λ (s : Slot). s.key) (c.in_ok-first.ensures.is map values at); same = refl })
    (sym c.is_key.ensures ∙ c.if-is_key.true)

pub loop-passed-init : goal.loop-passed-init
loop-passed-init g c = (
  c.in_ok-first.ensures.stays,
  λ map values at. seek-next c.args.self c.args.key c.at_most-reach.result 0 c.home-home.result c.home-home.result
      c.slot_at.result.object c.in_ok-first.first.key values values values (omega (arith, c.if-reach-eq0.false))
      c.home-home.ensures.home (sym (behind-none _ c.home-home.result c.home-home.ensures.within)) c.slot_at.ensures
      (seek-home c.args.self c.args.key c.home-home.result c.at_most-reach.result c.slot_at.result.object c.in_ok-first.first
      values values c.home-home.ensures.home c.slot_at.ensures c.at_most-reach.ensures
      (record { is = c.in_ok-first.ensures.is map values at; same = refl }))
      (record { is = ap (λ (s : Slot). s.key) (c.in_ok-first.ensures.is map values at); same = refl })
      (sym c.is_key.ensures ∙ c.if-is_key.false),
  c.in_ok-first.ensures.may,
)

pub returns-in_err-slot-clause-stays : goal.returns-in_err-slot-clause-stays
returns-in_err-slot-clause-stays g c =
    g.met.B.Looks.again c.args.by.now c.loop-passed.by c.look-in-loop-passed.new.self c.loop-passed.invariant.0
    c.in_err-slot.ensures.stays

pub returns-in_err-slot-clause-fails : goal.returns-in_err-slot-clause-fails
returns-in_err-slot-clause-fails g c =
    let answer = c.from_residual-in_err-slot.ensures in
    let is : c.from_residual-in_err-slot.result ≡ Err c.in_err-slot.field-0.0 = search rules in
    rw is
    (g.met.B.Looks.fails_later false (end_of c.args.self) c.args.by.now c.loop-passed.by _ _ c.loop-passed.invariant.0
    (c.in_err-slot.ensures.fails (end_of c.args.self)
    (omega (arith, c.slot_at-in-loop-passed.ensures, c.behind-at.ensures.within))))

pub returns-then-is_key-2-clause-stays : goal.returns-then-is_key-2-clause-stays
returns-then-is_key-2-clause-stays g c =
    g.met.B.Looks.again c.args.by.now c.loop-passed.by c.look-in-loop-passed.new.self c.loop-passed.invariant.0
    c.in_ok-slot.ensures.stays

pub returns-then-is_key-2-clause-seeks : goal.returns-then-is_key-2-clause-seeks
returns-then-is_key-2-clause-seeks g c map values at =
    seek-found c.args.self c.args.key c.at_most-reach.result c.loop-passed.passed c.home-home.result c.behind-at.result
    c.slot_at-in-loop-passed.result.object c.in_ok-slot.slot.key values values values (omega (arith, c.loop-passed-test.true))
    c.home-home.ensures.home c.behind-at.ensures.behind c.slot_at-in-loop-passed.ensures
    (c.loop-passed.invariant.1 map values
    (g.met.B.Looks.narrows c.loop-passed.by c.look-in-loop-passed.new.self map values c.in_ok-slot.ensures.stays at))
    (record { is = ap (λ (s : Slot). s.key) (c.in_ok-slot.ensures.is map values at); same = refl })
    (sym c.is_key-in-loop-passed.ensures ∙ c.if-is_key-2.true)

pub loop-passed-preserved : goal.loop-passed-preserved
loop-passed-preserved g c = (
  g.met.B.Looks.again c.args.by.now c.loop-passed.by c.look-in-loop-passed.new.self c.loop-passed.invariant.0
      c.in_ok-slot.ensures.stays,
  λ map values at. seek-next c.args.self c.args.key c.at_most-reach.result c.loop-passed.passed c.home-home.result
      c.behind-at.result c.slot_at-in-loop-passed.result.object c.in_ok-slot.slot.key values values values
      (omega (arith, c.loop-passed-test.true)) c.home-home.ensures.home c.behind-at.ensures.behind c.slot_at-in-loop-passed.ensures
      (c.loop-passed.invariant.1 map values
      (g.met.B.Looks.narrows c.loop-passed.by c.look-in-loop-passed.new.self map values c.in_ok-slot.ensures.stays at))
      (record { is = ap (λ (s : Slot). s.key) (c.in_ok-slot.ensures.is map values at); same = refl })
      (sym c.is_key-in-loop-passed.ensures ∙ c.if-is_key-2.false),
  c.in_ok-slot.ensures.may,
)

pub returns-clause-stays : goal.returns-clause-stays
returns-clause-stays g c = c.loop-passed.invariant.0

pub returns-clause-seeks : goal.returns-clause-seeks
returns-clause-seeks g c map values at =
    seek-none c.args.self c.args.key c.at_most-reach.result c.loop-passed.passed values values
    (omega (arith, c.loop-passed-test.false)) (c.loop-passed.invariant.1 map values at)

pub returns-clause-may : goal.returns-clause-may
returns-clause-may g c = c.loop-passed.invariant.2
