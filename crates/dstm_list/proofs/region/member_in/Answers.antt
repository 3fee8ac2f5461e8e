use Rattle.dstm_list.proofs.Walked.{member-walked}
use Rattle.dstm_list.proofs.region.member_in.Goals as goal

pub returns : goal.returns
returns g c =
    member-walked g.M.Mem c.args.region c.member_at.result c.in_ok-place.ensures.walks c.member_at.ensures
