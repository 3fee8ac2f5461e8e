use Rattle.std.proofs.Common.{arith, rules, false, ◌≡◌}
use Rattle.std.specs.Prelude.{Err}
use Rattle.dstm_structures.specs.Maps.{end_of}
use Rattle.dstm_structures.proofs.Items.{place-none}
use Rattle.dstm_structures.proofs.map.HashMap.list_by.Goals as goal

pub returns-in_err-found-clause-fails : goal.returns-in_err-found-clause-fails
returns-in_err-found-clause-fails g c =
    let answer = c.from_residual.ensures in
    let is : c.from_residual.result ≡ Err c.in_err-found.field-0.0 = search rules in
    rw is (g.met.B.Looks.fails_listing (end_of c.args.self) c.args.by.now _ _ c.in_err-found.ensures.fails)

pub returns-in_default-clause-lists : goal.returns-in_default-clause-lists
returns-in_default-clause-lists g c map values at =
    place-none g.V.Word.found c.args.self c.args.at c.args.items.now.items c.in_ok-found.found values values
    c.in_default.is (c.in_ok-found.ensures.stands map values at)

pub returns-in_err-held-clause-stays : goal.returns-in_err-held-clause-stays
returns-in_err-held-clause-stays g c =
    g.met.B.Looks.again c.args.by.now c.stands_by.new.by c.look.new.self c.in_ok-found.ensures.stays c.in_err-held.ensures.stays

pub returns-in_err-held-clause-fails : goal.returns-in_err-held-clause-fails
returns-in_err-held-clause-fails g c =
    let answer = c.from_residual-in_err-held.ensures in
    let is : c.from_residual-in_err-held.result ≡ Err c.in_err-held.field-0.0 = search rules in
    rw is (g.met.B.Looks.fails_listing (end_of c.args.self) c.args.by.now _ _
    (g.met.B.Looks.fails_later false (end_of c.args.self) c.args.by.now c.stands_by.new.by _ _ c.in_ok-found.ensures.stays
    (c.in_err-held.ensures.fails (end_of c.args.self) (omega (arith, c.value_at.ensures, c.requires)))))
