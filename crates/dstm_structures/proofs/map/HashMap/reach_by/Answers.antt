use Rattle.std.proofs.Common.{arith, refl, rules, ◌≡◌}
use Rattle.std.specs.Prelude.{Err}
use Rattle.dstm_structures.specs.Maps.{end_of}
use Rattle.dstm_structures.proofs.Mapping.{reach-told}
use Rattle.dstm_structures.proofs.map.HashMap.reach_by.Goals as goal

pub returns-in_err-slot-clause-fails : goal.returns-in_err-slot-clause-fails
returns-in_err-slot-clause-fails g c =
    let answer = c.from_residual.ensures in
    let is : c.from_residual.result ≡ Err c.in_err-slot.field-0.0 = search rules in
    rw is
    (c.in_err-slot.ensures.fails (end_of c.args.self) (omega (arith, c.slot_at.ensures, c.requires)))

pub returns-clause-reaches : goal.returns-clause-reaches
returns-clause-reaches g c map values at =
    reach-told c.args.self c.args.home c.slot_at.result.object c.in_ok-slot.slot c.at_most.result values values
    c.slot_at.ensures c.at_most.ensures (record { is = c.in_ok-slot.ensures.is map values at; same = refl })
