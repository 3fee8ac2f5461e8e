use Rattle.dstm_list.proofs.Walked.{changes-walked}
use Rattle.dstm_release_list.proofs.Adding.{adds-remove}
use Rattle.dstm_release_list.proofs.region.remove_in.Goals as goal

pub returns : goal.returns
returns g c =
    let done = c.in_ok-reply.ensures in
    assumption (
      changes-walked g.M.Mem c.args.region c.in_ok-reply.reply
          c.in_ok-found.ensures.walks (record { applies = done.applies; few = done.few }),
      adds-remove g.M.Mem c.args.region c.in_ok-found.found c.in_ok-reply.reply c.in_ok-found.ensures.adds
          done.reads done.there done.link_opened done.node_opened,
    )
