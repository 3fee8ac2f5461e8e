use Rattle.std.proofs.Common.{ℕ, List, arith, subst, sym, rules, true, ◌≡◌}
use Rattle.std.specs.Prelude.{Err}
use Rattle.dstm_structures.specs.Maps.{end_of}
use Rattle.dstm_structures.proofs.Items.{Listing, list-end, list-next, list-start}
use Rattle.dstm_structures.proofs.map.HashMap.items_by.Goals as goal

pub loop-at-init : goal.loop-at-init
loop-at-init g c = (
  g.met.B.Looks.still c.args.by.now,
  λ map values at. subst (λ (xs : List (ℕ × g.row.V.Denot)). Listing g.V.Word.found c.args.self 0 xs values values)
      (sym c.new-items.ensures.items) (list-start g.V.Word.found c.args.self values),
  λ some. absurd (omega (arith, some)),
)

pub returns-in_err-list_by-clause-stays : goal.returns-in_err-list_by-clause-stays
returns-in_err-list_by-clause-stays g c =
    g.met.B.Looks.again c.args.by.now c.loop-at.by c.list_by.new.by c.loop-at.invariant.0 c.in_err-list_by.ensures.stays

pub returns-in_err-list_by-clause-fails : goal.returns-in_err-list_by-clause-fails
returns-in_err-list_by-clause-fails g c =
    let answer = c.from_residual.ensures in
    let is : c.from_residual.result ≡ Err c.in_err-list_by.field-0.0 = search rules in
    rw is (g.met.B.Looks.fails_later true (end_of c.args.self) c.args.by.now c.loop-at.by _ _ c.loop-at.invariant.0
    c.in_err-list_by.ensures.fails)

pub loop-at-preserved : goal.loop-at-preserved
loop-at-preserved g c = (
  g.met.B.Looks.again c.args.by.now c.loop-at.by c.list_by.new.by c.loop-at.invariant.0 c.in_ok-list_by.ensures.stays,
  λ map values at. list-next g.V.Word.found c.args.self c.loop-at.at c.loop-at.items.items c.list_by.new.items.items values
      values values
      (c.loop-at.invariant.1 map values
      (g.met.B.Looks.narrows c.loop-at.by c.list_by.new.by map values c.in_ok-list_by.ensures.stays at))
      (c.in_ok-list_by.ensures.lists map values at),
  λ some. c.in_ok-list_by.ensures.may,
)

pub returns-clause-stays : goal.returns-clause-stays
returns-clause-stays g c = c.loop-at.invariant.0

pub returns-clause-lists : goal.returns-clause-lists
returns-clause-lists g c map values at =
    list-end g.V.Word.found c.args.self c.loop-at.at c.loop-at.items.items values values
    (omega (arith, c.loop-at-test.false)) (c.loop-at.invariant.1 map values at)

pub returns-clause-may : goal.returns-clause-may
returns-clause-may g c = c.loop-at.invariant.2 (omega (arith, c.loop-at-test.false, c.args.self.cells.some))
