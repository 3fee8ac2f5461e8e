use Rattle.std.proofs.Common.{sym, subst}
use Rattle.dstm_store_tests.proofs.tests.counting.run_body.Goals as goal

pub run-requires-clause-lawful : goal.run-requires-clause-lawful
run-requires-clause-lawful g c map admitted =
    subst (g.L.Law.holds (g.B.Body.law c.args.body.now)) (sym (c.in_ok-mem.ensures.admits map admitted)) c.requires

pub returns-clause-lawful : goal.returns-clause-lawful
returns-clause-lawful g c =
    let done = c.in-Ok.ensures in
    let (map, admitted) = done.leads.admits in
    subst (g.L.Law.holds (g.B.Body.law c.run.new.self)) (sym (c.end.ensures map admitted)) (done.lawful map admitted)

pub returns-clause-right : goal.returns-clause-right
returns-clause-right g c =
    let done = c.in-Ok.ensures in
    let (map, admitted) = done.leads.admits in
    let start = c.in_ok-mem.ensures.admits map (done.leads.narrows map admitted) in
    let at_map = subst (g.B.Body.right c.run.new.self map) (sym (c.end.ensures map admitted))
    (done.right map admitted) in
    subst (λ before. g.B.Body.right c.run.new.self before c.end.result.1.items) start at_map
