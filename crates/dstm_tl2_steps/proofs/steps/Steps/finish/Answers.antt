use Rattle.std.proofs.Common.{refl, Some}
use Rattle.dstm_tl2_steps.proofs.Committing.{bad_ends, bad_under, drawn_lists, drawn_under, lists_checked}
use Rattle.dstm_tl2_steps.proofs.steps.Steps.finish.Goals as goal

pub check_all-requires-clause-under : goal.check_all-requires-clause-under
check_all-requires-clause-under g c =
    drawn_under c.args.opened.now.writes
    c.requires.under c.writes.result.now.items _ c.draw-number.result c.draw-number.ensures.went

pub check_all-requires-clause-lists : goal.check_all-requires-clause-lists
check_all-requires-clause-lists g c =
    drawn_lists c.args.opened.now.writes c.requires.under _ c.draw-number.result
    c.writes.ensures.items c.draw-number.ensures.went _ c.requires.lists c.requires.locked.0

pub give_back-requires-clause-under : goal.give_back-requires-clause-under
give_back-requires-clause-under g c = (
  Some c.in-Some.again,
  bad_under c.args.opened.now.writes c.requires.under c.in-Some.ensures.bad.1,
)

pub give_back-requires-clause-lists : goal.give_back-requires-clause-lists
give_back-requires-clause-lists g c =
    lists_checked c.check_all.new.self (drawn_lists c.args.opened.now.writes c.requires.under _ c.draw-number.result
    c.writes.ensures.items c.draw-number.ensures.went _ c.requires.lists refl) c.check_all.ensures.rest

pub returns-in-Some-clause-ends : goal.returns-in-Some-clause-ends
returns-in-Some-clause-ends g c =
    bad_ends c.args.opened.now.writes c.requires.under (c.give_back.ensures.under (Some c.in-Some.again)
    (bad_under c.args.opened.now.writes c.requires.under c.in-Some.ensures.bad.1))

pub write_back-requires-clause-lists : goal.write_back-requires-clause-lists
write_back-requires-clause-lists g c =
    lists_checked c.check_all.new.self (drawn_lists c.args.opened.now.writes c.requires.under _ c.draw-number.result
    c.writes.ensures.items c.draw-number.ensures.went _ c.requires.lists c.requires.locked.0) c.check_all.ensures.rest
