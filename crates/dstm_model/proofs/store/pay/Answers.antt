use Rattle.std.proofs.Common.{arith}
use Rattle.std.proofs.Math.Facts.{Fits-of_lt}
use Rattle.std.specs.Int.{w64}
use Rattle.dstm_model.proofs.Transfers.{credited_le, sum-moved}
use Rattle.dstm_model.proofs.store.pay.Goals as goal

pub overflow_add-balances : goal.overflow_add-balances
overflow_add-balances c =
    let r = c.requires in
    let within = credited_le c.args.balances.now c.args.source c.args.target c.args.amount r.source r.target r.enough in
    Fits-of_lt {w = w64} (omega (arith, within, r.sum))

pub returns-clause-sum : goal.returns-clause-sum
returns-clause-sum c =
    let r = c.requires in
    sum-moved c.args.balances.now c.args.source c.args.target c.args.amount r.source r.target r.enough
