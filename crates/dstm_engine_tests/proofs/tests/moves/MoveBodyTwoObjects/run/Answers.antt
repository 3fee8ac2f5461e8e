use Rattle.std.proofs.Common.{◌∙◌}
use Rattle.dstm_mem.proofs.WithSet.{length-with_set}
use Rattle.dstm_engine_tests.proofs.tests.moves.MoveBodyTwoObjects.run.Goals as goal

pub returns-clause-lawful : goal.returns-clause-lawful
returns-clause-lawful g c map admitted =
    let M = g.M.Mem in
    let in_two = (c.set.ensures.admits map).0 ((c.set-2.ensures.admits map).0 admitted) in
    let in_one = c.in_ok-target.ensures.narrows map in_two in
    length-with_set map (M.written c.set-2.new.self)
    ∙ c.requires.lawful map (c.in_ok-source.ensures.narrows map in_one)
