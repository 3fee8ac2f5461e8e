use Rattle.dstm_list.proofs.Walked.{member-walked}
use Rattle.dstm_release_list.proofs.Adding.{three-walked}
use Rattle.dstm_release_list.proofs.region.member_in.Goals as goal

pub returns-clause-applies : goal.returns-clause-applies
returns-clause-applies g c =
    member-walked g.M.Mem c.args.region c.member_at.result c.in_ok-walk.ensures.walks c.member_at.ensures

pub returns-clause-adds : goal.returns-clause-adds
returns-clause-adds g c = three-walked g.M.Mem c.in_ok-walk.ensures.adds
