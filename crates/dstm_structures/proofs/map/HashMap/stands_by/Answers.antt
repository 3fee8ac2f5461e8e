use Rattle.std.proofs.Common.{◌∙◌, ap, arith, refl, sym, rules, false, ◌≡◌}
use Rattle.std.specs.Prelude.{Err}
use Rattle.dstm_structures.specs.Maps.{end_of}
use Rattle.dstm_structures.specs.declared.cells.Slot.{Slot}
use Rattle.dstm_structures.proofs.Items.{stands-here, stands-none, stands-other}
use Rattle.dstm_structures.proofs.map.HashMap.stands_by.Goals as goal

pub returns-in_err-slot-clause-fails : goal.returns-in_err-slot-clause-fails
returns-in_err-slot-clause-fails g c =
    let answer = c.from_residual.ensures in
    let is : c.from_residual.result ≡ Err c.in_err-slot.field-0.0 = search rules in
    rw is (c.in_err-slot.ensures.fails (end_of c.args.self) (omega (arith, c.slot_at.ensures, c.requires)))

pub returns-in_default-clause-stands : goal.returns-in_default-clause-stands
returns-in_default-clause-stands g c map values at =
    stands-none c.args.self c.args.at c.slot_at.result.object c.in_ok-slot.slot.key values values c.slot_at.ensures
    (record { is = ap (λ (s : Slot). s.key) (c.in_ok-slot.ensures.is map values at); same = refl }) c.in_default.is

pub returns-in_err-place-clause-stays : goal.returns-in_err-place-clause-stays
returns-in_err-place-clause-stays g c =
    g.met.B.Looks.again c.args.by.now c.look.new.self c.find_by.new.by c.in_ok-slot.ensures.stays c.in_err-place.ensures.stays

pub returns-in_err-place-clause-fails : goal.returns-in_err-place-clause-fails
returns-in_err-place-clause-fails g c =
    let answer = c.from_residual-in_err-place.ensures in
    let is : c.from_residual-in_err-place.result ≡ Err c.in_err-place.field-0.0 = search rules in
    rw is (g.met.B.Looks.fails_later false (end_of c.args.self) c.args.by.now c.look.new.self _ _ c.in_ok-slot.ensures.stays
    c.in_err-place.ensures.fails)

pub returns-then-is_at-clause-stays : goal.returns-then-is_at-clause-stays
returns-then-is_at-clause-stays g c =
    g.met.B.Looks.again c.args.by.now c.look.new.self c.find_by.new.by c.in_ok-slot.ensures.stays c.in_ok-place.ensures.stays

pub returns-then-is_at-clause-stands : goal.returns-then-is_at-clause-stands
returns-then-is_at-clause-stands g c map values at =
    stands-here c.args.self c.args.at c.slot_at.result.object c.in_ok-slot.slot.key values values c.slot_at.ensures
    (record {
      is = ap (λ (s : Slot). s.key) (c.in_ok-slot.ensures.is map values
          (g.met.B.Looks.narrows c.look.new.self c.find_by.new.by map values c.in_ok-place.ensures.stays at));
      same = refl;
    }) c.in-Some.key c.in_ok-place.place values c.in-Some.is (c.in_ok-place.ensures.seeks map values at)
    (sym c.is_at.ensures ∙ c.if-is_at.true)

pub returns-else-is_at-clause-stays : goal.returns-else-is_at-clause-stays
returns-else-is_at-clause-stays g c =
    g.met.B.Looks.again c.args.by.now c.look.new.self c.find_by.new.by c.in_ok-slot.ensures.stays c.in_ok-place.ensures.stays

pub returns-else-is_at-clause-stands : goal.returns-else-is_at-clause-stands
returns-else-is_at-clause-stands g c map values at =
    stands-other c.args.self c.args.at c.slot_at.result.object c.in_ok-slot.slot.key values values c.slot_at.ensures
    (record {
      is = ap (λ (s : Slot). s.key) (c.in_ok-slot.ensures.is map values
          (g.met.B.Looks.narrows c.look.new.self c.find_by.new.by map values c.in_ok-place.ensures.stays at));
      same = refl;
    }) c.in-Some.key c.in_ok-place.place values c.in-Some.is (c.in_ok-place.ensures.seeks map values at)
    (sym c.is_at.ensures ∙ c.if-is_at.false)
