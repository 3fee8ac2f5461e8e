use Rattle.dstm_crew.proofs.Worked.{line_there}
use Rattle.dstm_crew.proofs.collecting.line_at.Goals as goal

pub returns : goal.returns
returns c =
    line_there c.args.workload.now.jobs c.args.share.now.places.items c.args.share.now.done.lines c.args.place c.requires.fit.lines
    c.line.ensures
