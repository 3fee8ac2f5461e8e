use Rattle.std.proofs.Common.{◌≡◌, arith}
use Rattle.dstm_model.specs.contracts.value.AnyLawLaw.TheImpl as TheLaw
use Rattle.dstm_attempts.proofs.UnderWay.{all_values}
use Rattle.dstm_handles.proofs.cells.all.Goals as goal

pub returns-clause-reads : goal.returns-clause-reads
returns-clause-reads c map may =
    let so_far = c.loop-cell.invariant in
    let end : c.loop-cell.cell ≡ c.args.cells = omega (arith, c.loop-cell-test.false, c.loop-cell.auto.cell-end) in
    all_values (TheLaw.holds-value).it c.args.last.now.tx.attempts.caller c.loop-cell.last.tx.attempts.caller
    c.loop-cell.values.items map c.loop-cell.cell c.args.cells so_far.1 c.requires.all end so_far.0 may (so_far.4 map may)
