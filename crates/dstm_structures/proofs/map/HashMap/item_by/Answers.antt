use Rattle.std.proofs.Common.{ℕ, arith, refl, subst, rules, false, ◌≡◌}
use Rattle.std.specs.Prelude.{Err, Option, ◌<◌}
use Rattle.dstm_structures.specs.Maps.{Seeks, end_of}
use Rattle.dstm_structures.proofs.Mapping.{tells-none, tells-some}
use Rattle.dstm_structures.proofs.Places.{of_some}
use Rattle.dstm_structures.proofs.map.HashMap.item_by.Goals as goal

pub returns-in_default-clause-tells : goal.returns-in_default-clause-tells
returns-in_default-clause-tells g c map values at =
    tells-none g.V.Word.found c.args.self c.args.key values values
    (subst (λ (place : Option ℕ). Seeks c.args.self c.args.key place values values) c.in_default.is
    (c.in_ok-found.ensures.seeks map values at))

pub returns-in_err-value-clause-stays : goal.returns-in_err-value-clause-stays
returns-in_err-value-clause-stays g c =
    g.met.B.Looks.again c.args.by.now c.find_by.new.by c.look.new.self c.in_ok-found.ensures.stays c.in_err-value.ensures.stays

pub returns-in_err-value-clause-fails : goal.returns-in_err-value-clause-fails
returns-in_err-value-clause-fails g c =
    let within = of_some (λ at. at < c.args.self.cells.capacity) c.in-Some.is
    c.in_ok-found.ensures.within in
    let answer = c.from_residual-in_err-value.ensures in
    let is : c.from_residual-in_err-value.result ≡ Err c.in_err-value.field-0.0 = search rules in
    rw is (g.met.B.Looks.fails_later false (end_of c.args.self) c.args.by.now c.find_by.new.by _ _ c.in_ok-found.ensures.stays
    (c.in_err-value.ensures.fails (end_of c.args.self) (omega (arith, c.value_at.ensures, within))))

pub returns-clause-stays : goal.returns-clause-stays
returns-clause-stays g c =
    g.met.B.Looks.again c.args.by.now c.find_by.new.by c.look.new.self c.in_ok-found.ensures.stays c.in_ok-value.ensures.stays

pub returns-clause-tells : goal.returns-clause-tells
returns-clause-tells g c map values at =
    tells-some g.V.Word.found c.args.self c.args.key c.in-Some.at c.value_at.result.object c.in_ok-value.value values values
    values c.value_at.ensures
    (subst (λ (place : Option ℕ). Seeks c.args.self c.args.key place values values) c.in-Some.is
    (c.in_ok-found.ensures.seeks map values
    (g.met.B.Looks.narrows c.find_by.new.by c.look.new.self map values c.in_ok-value.ensures.stays at)))
    (record { is = c.in_ok-value.ensures.is map values at; same = refl })
