use Rattle.std.proofs.Common.{◌≡◌, ◌∙◌, ◌<◌, ℕ, Err, Ok, ap, subst, sym}
use Rattle.std.specs.Prelude.{OnOk, Result}
use Rattle.dstm_model.specs.contracts.value.AnyLawLaw.TheImpl as TheLaw
use Rattle.dstm_cells.specs.Runs.{CalledFor, FailsByFirst, FailsFor, LeavesBy, RanOn}
use Rattle.dstm_cells.specs.declared.error.Failed.{Failed}
use Rattle.dstm_cells.proofs.Calling.{err_is, is_err}
use Rattle.dstm_cells.proofs.Running.{answers_nothing, failed_leaves, tells_more}
use Rattle.dstm_cells.proofs.memory.Memory.run.Goals as goal

pub returns-clause-called : goal.returns-clause-called
returns-clause-called g c number below =
    let memory = c.args.self.now in
    subst (λ answer. CalledFor TheLaw.holds-value.it g.F.Fn c.args.f memory.engine memory.law memory.values.items number (Ok answer))
    (answers_nothing _) (c.in_ok-run_each.ensures.called number tt below)

pub returns-clause-left : goal.returns-clause-left
returns-clause-left g c =
    let memory = c.args.self.now in
    tells_more TheLaw.holds-value.it g.F.Fn c.args.f memory.engine memory.law memory.values.items c.args.threads _
    (λ ends told. (λ number below. told.0 number tt below ∙ ap Ok (answers_nothing _), tt)) c.in_ok-run_each.ensures.left

pub returns-in_err-run_each-clause-fails : goal.returns-in_err-run_each-clause-fails
returns-in_err-run_each-clause-fails g c =
    is_err c.from_residual.result c.in_err-run_each.field-0.0 (FailsFor _ _ c.args.threads) c.from_residual.ensures.1
    c.in_err-run_each.ensures.fails

pub returns-in_err-run_each-clause-left : goal.returns-in_err-run_each-clause-left
returns-in_err-run_each-clause-left g c =
    let memory = c.args.self.now in
    let why = c.in_err-run_each.field-0.0 in
    let after = c.run_each.new.self.values.items in
    let ran : Result (Unit {0}) Failed → Type 0 =
    λ answer. RanOn TheLaw.holds-value.it g.F.Fn c.args.f memory.engine memory.law memory.values.items c.args.threads after
    (λ ends. OnOk answer ((number : ℕ) → number < c.args.threads → ends number ≡ Ok tt) × FailsByFirst ends c.args.threads answer) in
    let same : Type 0 = (c.run_each.new.self ≡ memory) in
    subst (λ (answer : Result (Unit {0}) Failed). LeavesBy (ran answer) same answer)
    (sym (err_is c.from_residual.result why c.from_residual.ensures.1))
    (failed_leaves c.run_each.result (Unit {0}) (ran (Err why)) same why c.in_err-run_each.ensures.left)
