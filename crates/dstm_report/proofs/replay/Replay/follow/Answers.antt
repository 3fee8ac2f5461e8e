use Rattle.std.proofs.Common.{◌≡◌, ap}
use Rattle.dstm_report.specs.declared.replay.Replay.{Replay}
use Rattle.dstm_report.specs.Turns.{Turning}
use Rattle.dstm_report.proofs.Following.{OwnAnswer, HasPassed, has_next, next_fits, left_fit, left_small}
use Rattle.dstm_report.proofs.Following.{good_row, followed_more}
use Rattle.dstm_report.proofs.replay.Replay.follow.Goals as goal

pub answers-requires-clause-job : goal.answers-requires-clause-job
answers-requires-clause-job c =
    next_fits (has_next c.args.row.now c.requires.valid c.requires.followed c.in-Some.ensures)

pub answers-requires-clause-left : goal.answers-requires-clause-left
answers-requires-clause-left c = left_fit c.requires.valid c.requires.followed

pub answers-requires-clause-small : goal.answers-requires-clause-small
answers-requires-clause-small c = left_small c.requires.valid c.requires.followed

pub returns : goal.returns
returns c =
    let row = c.args.row.now in
    let replay = c.args.self.now in
    let job = c.in-Some.job.now in
    let h = has_next row c.requires.valid c.requires.followed c.in-Some.ensures in
    let told = c.in_ok-answers.ensures in
    let line : job.line ≡ row.line = c.if-job-row.false in
    let answer : OwnAnswer row replay job = simp c.as_slice.ensures.value at (told.answer.0 c.if-not-branch.false) in
    let after : Replay = record c.answers.new.self { turns = c.pass.new.self } in
    let passed : HasPassed row job replay after = record {
      store = told.store;
      layout = told.layout;
      turns = rw (← told.turns) (ap (λ (t : Turning). t.left) c.pass.ensures);
    } in
    followed_more h line (good_row h line (c.is_behind.ensures.0 c.if-not-is_behind.false) answer) passed
