use Rattle.std.proofs.Common.{◌∙◌, ◌≡◌, ◌+◌, arith}
use Rattle.dstm_tables.specs.Callers.{begun}
use Rattle.dstm_tables.specs.declared.tables.Caller.TheVariants.{Dstm}
use Rattle.dstm_attempts.proofs.Letting.{finds_another, lets_go}
use Rattle.dstm_attempts.proofs.UnderWay.{begins_none}
use Rattle.dstm_attempts.proofs.dstm.let_go.Goals as goal

pub returns-then-read_all-clause-same : goal.returns-then-read_all-clause-same
returns-then-read_all-clause-same g c h =
    lets_go g.L.Law.holds c.args.caller.now c.begin.new.self c.read_all.new.caller c.deref.result.now c.in-Ok.ensures.begins
    c.read_all.ensures.keeps (c.read_all.ensures.reads c.if-read_all.true) (c.read_all.ensures.same c.if-read_all.true) (c.read_all.ensures.unmarked c.if-read_all.true)
    (c.deref.ensures.value ∙ c.in_ok-copy_held.ensures)

pub returns-then-read_all-clause-begun : goal.returns-then-read_all-clause-begun
returns-then-read_all-clause-begun g c =
    let one : begun (Dstm c.begin.new.self) ≡ begun (Dstm c.args.caller.now) + 1 = c.in-Ok.ensures.begins.begun in
    let none = begins_none (Dstm c.begin.new.self) (Dstm c.read_all.new.caller) c.read_all.ensures.keeps in
    omega (arith, one, none)

pub returns-clause-changed : goal.returns-clause-changed
returns-clause-changed g c h =
    finds_another g.L.Law.holds c.args.caller.now c.begin.new.self c.read_all.new.caller c.abandon.new.caller
    c.deref.result.now c.in-Ok.ensures.begins c.read_all.ensures.keeps (c.read_all.ensures.other c.if-read_all.false)
    (c.deref.ensures.value ∙ c.in_ok-copy_held.ensures) c.abandon.ensures.keeps c.abandon.ensures.quit c.abandon.ensures.leaves

pub returns-clause-begun : goal.returns-clause-begun
returns-clause-begun g c =
    let one : begun (Dstm c.begin.new.self) ≡ begun (Dstm c.args.caller.now) + 1 = c.in-Ok.ensures.begins.begun in
    let none = begins_none (Dstm c.begin.new.self) (Dstm c.read_all.new.caller) c.read_all.ensures.keeps in
    let no_more = begins_none (Dstm c.read_all.new.caller) (Dstm c.abandon.new.caller) c.abandon.ensures.keeps in
    omega (arith, one, none, no_more)
