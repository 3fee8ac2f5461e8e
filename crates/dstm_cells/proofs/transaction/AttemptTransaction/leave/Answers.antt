use Rattle.dstm_cells.specs.Attempts.{Follows, FollowsAndLeaves}
use Rattle.dstm_cells.proofs.Resting.{of_so_many}
use Rattle.dstm_cells.proofs.Waiting.{stop_kept}
use Rattle.dstm_cells.proofs.transaction.AttemptTransaction.leave.Goals as goal

pub returns-clause-stays : goal.returns-clause-stays
returns-clause-stays g c =
    stop_kept c.args.stop.why c.args.self.now.attempts.caller c.follow-next.new.self.attempts.caller c.abandon.new.self.caller
    c.follow-next.ensures.stays c.abandon.ensures.keeps

pub returns-clause-follows : goal.returns-clause-follows
returns-clause-follows g c =
    let first = c.args.self.now.attempts.caller in
    let last = c.follow-next.new.self.attempts.caller in
    let new = c.abandon.new.self.caller in
    let why = c.args.stop.why in
    let next = c.follow-next.result in
    of_so_many g.R.Rest.tires c.args.self.now.looks (λ looks. Follows g.L.Law.holds looks first why last next)
    (λ looks. FollowsAndLeaves g.L.Law.holds looks first why new next)
    (λ looks follows. record { last = last; follows = follows; leaves = c.abandon.ensures.leaves; keeps = c.abandon.ensures.keeps })
    c.follow-next.ensures.follows
