use Rattle.std.proofs.Common.{◌∙◌, Ok, ap, inl, inr}
use Rattle.dstm_cells.specs.Attempts.{FollowsLooks, FollowsRetry}
use Rattle.dstm_cells.proofs.Resting.{of_all, of_so_many}
use Rattle.dstm_cells.proofs.Waiting.{waits_on}
use Rattle.dstm_cells.proofs.under_way.Attempt.wait.Goals as goal

pub returns-in-Ok-Same-clause-stays : goal.returns-in-Ok-Same-clause-stays
returns-in-Ok-Same-clause-stays g c =
    let done = c.let_go.ensures in
    waits_on c.args.self.now.attempts.caller c.let_go.new.self.caller c.look_on.new.self.attempts.caller done.nothing done.begun
    done.renews c.look_on.ensures.stays

pub returns-in-Ok-Same-clause-follows : goal.returns-in-Ok-Same-clause-follows
returns-in-Ok-Same-clause-follows g c =
    let first = c.let_go.new.self.caller in
    let last = c.look_on.new.self.attempts.caller in
    let next = c.look_on.result in
    let lets_go = c.let_go.ensures.same (c.in-Ok-Same.is ∙ ap Ok c.in-Ok-Same.field-0-is) in
    of_so_many g.R.Rest.tires c.args.self.now.looks (λ looks. FollowsLooks g.L.Law.holds looks first last next)
    (λ looks. FollowsRetry g.L.Law.holds looks c.args.self.now.attempts.caller last next)
    (λ looks follows. inl (record { first = first; lets_go = lets_go; follows = follows })) c.look_on.ensures.follows

pub returns-in-Ok-Changed-clause-follows : goal.returns-in-Ok-Changed-clause-follows
returns-in-Ok-Changed-clause-follows g c =
    of_all g.R.Rest.tires c.args.self.now.looks _ (inr (c.let_go.ensures.changed (c.in-Ok-Changed.is ∙ ap Ok c.in-Ok-Changed.field-0-is)))

pub returns-in-Ok-Spent-clause-follows : goal.returns-in-Ok-Spent-clause-follows
returns-in-Ok-Spent-clause-follows g c =
    let spent = c.in-Ok-Spent.is ∙ ap Ok c.in-Ok-Spent.field-0-is in
    of_all g.R.Rest.tires c.args.self.now.looks _ (inr (c.let_go.ensures.spent spent, c.let_go.ensures.unbegun spent))

pub returns-in-Err-clause-follows : goal.returns-in-Err-clause-follows
returns-in-Err-clause-follows g c = of_all g.R.Rest.tires c.args.self.now.looks _ (inr c.in-Err.ensures.memory)
