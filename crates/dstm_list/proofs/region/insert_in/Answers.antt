use Rattle.dstm_list.proofs.Walked.{changes-walked}
use Rattle.dstm_list.proofs.region.insert_in.Goals as goal

pub returns : goal.returns
returns g c =
    assumption (changes-walked g.M.Mem c.args.region c.in_ok-reply.reply c.in_ok-place.ensures.walks
    (record { applies = c.in_ok-reply.ensures.applies; few = c.in_ok-reply.ensures.few }))
