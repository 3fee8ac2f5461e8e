use Rattle.dstm_list.proofs.Walked.{changes-walked}
use Rattle.dstm_release_list.proofs.Adding.{adds-insert}
use Rattle.dstm_release_list.proofs.region.insert_in.Goals as goal

pub returns : goal.returns
returns g c =
    let done = c.in_ok-reply.ensures in
    assumption (
      changes-walked g.M.Mem c.args.region c.in_ok-reply.reply
          c.in_ok-place.ensures.walks (record { applies = done.applies; few = done.few }),
      adds-insert g.M.Mem c.in_ok-reply.reply c.in_ok-place.ensures.adds
          done.looked done.reads done.link_opened,
    )
