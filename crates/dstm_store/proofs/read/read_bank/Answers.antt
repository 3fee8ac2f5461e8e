use Rattle.std.proofs.Common.{◌≤◌, length, arith, ◌∙◌}
use Rattle.dstm_store.proofs.Walks.{balances-read}
use Rattle.dstm_store.proofs.read.read_bank.Goals as goal

pub returns : goal.returns
returns c store stands =
    let layout = c.args.layout.now in
    let within : layout.accounts ≤ length c.args.values.now = omega (arith, stands.objects) in
    c.in_ok-balances.ensures ∙ balances-read layout c.args.values.now store within stands.bank
