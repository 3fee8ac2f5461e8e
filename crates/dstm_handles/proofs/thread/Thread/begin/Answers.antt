use Rattle.std.proofs.Common.{◌∙◌}
use Rattle.dstm_model.specs.contracts.value.AnyLawLaw.TheImpl as TheLaw
use Rattle.dstm_handles.proofs.Calling.{begins_from, never_begun, starting_new, starting_on}
use Rattle.dstm_handles.proofs.thread.Thread.begin.Goals as goal

pub returns-then-not-self : goal.returns-then-not-self
returns-then-not-self c =
    let thread = c.args.self.now in
    begins_from (TheLaw.holds-value).it thread c.attempt.new.self _ c.attempt.result
    (c.renew_attempts.ensures.caller ∙ starting_new thread c.if-not-self.true) (never_begun thread c.if-not-self.true)
    c.attempt.ensures.tells c.attempt.ensures.begins c.attempt.ensures.spent c.attempt.ensures.nothing

pub returns : goal.returns
returns c =
    let thread = c.args.self.now in
    begins_from (TheLaw.holds-value).it thread c.attempt-2.new.self _ c.attempt-2.result (starting_on thread c.if-not-self.false)
    (c.is_open.ensures.over c.if-is_open.false) c.attempt-2.ensures.tells c.attempt-2.ensures.begins c.attempt-2.ensures.spent
    c.attempt-2.ensures.nothing
