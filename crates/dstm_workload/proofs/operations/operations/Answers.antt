use Rattle.std.proofs.Common.{◌∷◌, [], length, arith, refl, sym, ap}
use Rattle.std.proofs.lemmas.{List.length-append, Result.err_from_is_err_and}
use Rattle.dstm_model.specs.declared.op.Op.TheVariants as Op
use Rattle.dstm_workload.proofs.OpsLoop.{none_left, op_refused, goes_on}
use Rattle.dstm_workload.proofs.operations.operations.Goals as goal
use Rattle.dstm_workload.proofs.operations.operations.Goals.{in-Then, in-OrElse}

pub loop-init : goal.loop-init
loop-init c = rw c.requires (record { read = refl; room = omega arith })

pub returns-in_err-operation : goal.returns-in_err-operation
returns-in_err-operation c =
    let p = err_from_is_err_and c.from_residual.result c.from_residual.ensures.1 in
    rw (p.1, p.2) (op_refused c.loop.invariant c.loop-test.true c.in_err-operation.ensures)

pub returns-in_err-next_separator : goal.returns-in_err-next_separator
returns-in_err-next_separator c =
    let p =
    err_from_is_err_and c.from_residual-in_err-next_separator.result
    c.from_residual-in_err-next_separator.ensures.1 in
    rw (p.1, p.2) (goes_on c.loop.invariant c.loop-test.true c.in_ok-operation.ensures
    c.push.ensures c.as_slice.ensures.value c.in_err-next_separator.ensures.read)

pub loop-preserved : goal.loop-preserved
loop-preserved c =
    let slice = c.as_slice.result.now in
    let room = c.in_ok-next_separator.ensures.room in
    let same_length = ap length c.as_slice.ensures.value in
    let read =
    goes_on c.loop.invariant c.loop-test.true c.in_ok-operation.ensures c.push.ensures
    c.as_slice.ensures.value c.in_ok-next_separator.ensures.read in
    elim c.match-branch-3.branch [
      | in-Then w ↦
          let some = rw w.in-Then.is at room in
          let read = sym (rw w.in-Then.is at read) in
          rw (w.ops-is, w.first-is) (record { read = read; room = omega (arith, same_length, some) })
      | in-OrElse w ↦
          let some = rw w.in-OrElse.is at room in
          let longer = length-append c.push.new.self (Op.OrElse ∷ []) in
          let read = sym (rw w.in-OrElse.is at read) in
          rw (w.ops-is, w.first-is, w.push-in-OrElse.ensures)
          (record { read = read; room = omega (arith, same_length, longer, some) })
    ]

pub returns : goal.returns
returns c = none_left c.loop.invariant c.loop-test.false
