use Rattle.std.proofs.Common.{◌∙◌}
use Rattle.dstm_mem.proofs.WithSet.{length-with_set}
use Rattle.bench.proofs.cells.pairs.PairBodyOfSize.run.Goals as goal

pub returns-clause-lawful : goal.returns-clause-lawful
returns-clause-lawful g c map admitted =
    let M = g.M.Mem in
    let second = (c.set-2.ensures.admits map).0 admitted in
    let set = c.in_ok-second.ensures.narrows map second in
    let first = (c.set.ensures.admits map).0 set in
    length-with_set map (M.written c.set-2.new.self) ∙ c.requires.lawful map (c.in_ok-first.ensures.narrows map first)
