use Rattle.std.proofs.Common.{◌≡◌, false, refl, rules}
use Rattle.std.specs.Prelude.{Err}
use Rattle.dstm_structures.specs.Effects.{GoesOn}
use Rattle.dstm_structures.proofs.Effects.{stops-look}
use Rattle.dstm_structures.proofs.Looking.{look-goes, look-is, look-stops}
use Rattle.dstm_structures.proofs.looks.AttemptLooks.look.Goals as goal

pub returns-in_err-value-clause-stays : goal.returns-in_err-value-clause-stays
returns-in_err-value-clause-stays g c =
    let goes : GoesOn g.L.Law.holds c.args.self.now c.get.new.self =
    record { keeps = c.in_err-value.ensures.keeps; notes = c.in_err-value.ensures.notes } in
    look-stops goes c.args.cell.object c.in_err-value.field-0.0.why c.in_err-value.ensures.stops

pub returns-in_err-value-clause-fails : goal.returns-in_err-value-clause-fails
returns-in_err-value-clause-fails g c =
    let answer = c.from_residual.ensures in
    let is : c.from_residual.result ≡ Err c.in_err-value.field-0.0 = search rules in
    rw is (λ size inside. stops-look g.L.Law.holds size c.args.cell.object false c.args.self.now c.args.self.now
    c.get.new.self refl inside c.in_err-value.field-0.0.why c.in_err-value.ensures.stops)

pub returns-clause-stays : goal.returns-clause-stays
returns-clause-stays g c =
    let goes : GoesOn g.L.Law.holds c.args.self.now c.get.new.self =
    record { keeps = c.in_ok-value.ensures.keeps; notes = c.in_ok-value.ensures.notes } in
    look-goes goes c.in_ok-value.ensures.gets

pub returns-clause-is : goal.returns-clause-is
returns-clause-is g c = look-is c.get.new.self c.in_ok-value.ensures.gets

pub returns-clause-may : goal.returns-clause-may
returns-clause-may g c = (c.in_ok-value.ensures.may.0, _, (c.in_ok-value.ensures.may.1, refl), c.in_ok-value.ensures.together)
