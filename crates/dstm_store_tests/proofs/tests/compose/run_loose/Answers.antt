use Rattle.std.proofs.Common.{sym, subst}
use Rattle.dstm_store.specs.Whole.{IsLawful}
use Rattle.dstm_store_tests.proofs.tests.compose.run_loose.Goals as goal

pub run-requires-clause-lawful : goal.run-requires-clause-lawful
run-requires-clause-lawful c map admitted =
    subst (IsLawful c.args.body.now.task.layout) (sym (c.in_ok-mem.ensures.admits map admitted)) c.requires

pub returns-clause-lawful : goal.returns-clause-lawful
returns-clause-lawful c =
    let done = c.in-Ok.ensures in
    let (map, admitted) = done.leads.admits in
    subst (IsLawful c.run.new.self.task.layout) (sym (c.end.ensures map admitted)) (done.lawful map admitted)
