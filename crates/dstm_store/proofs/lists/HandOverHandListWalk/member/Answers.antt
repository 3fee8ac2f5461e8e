use Rattle.dstm_store.proofs.Few.{touches-member}
use Rattle.dstm_store.proofs.lists.HandOverHandListWalk.member.Goals as goal

pub returns-clause-touches : goal.returns-clause-touches
returns-clause-touches g c lets stay =
    let done = c.member.ensures in
    touches-member g.M.Mem c.args.mem.now c.member.new.mem c.args.layout.now c.args.key c.member.result done.adds
    done.applies stay
