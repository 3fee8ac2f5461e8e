use Rattle.std.proofs.Common.{◌∙◌}
use Rattle.dstm_engine.proofs.Made.{home}
use Rattle.dstm_engine_tests.proofs.Jobs.{lawful_there}
use Rattle.dstm_engine_tests.proofs.tests.lists.look_up.Goals as goal

pub commit-requires-clause-lawful : goal.commit-requires-clause-lawful
commit-requires-clause-lawful c map admits =
    let ran = c.in-Ok-run.ensures in
    let k = c.run.new.mem.caller.now in
    let there = home _ c.args.one.now c.in-Ok.tx.caller.now k _ _ _ _ c.in-Ok.ensures.begins ran.leads.place in
    lawful_there k (there ∙ c.requires.tables.0) c.requires.law c.make-body.ensures.layout ran.task (ran.lawful map admits)
