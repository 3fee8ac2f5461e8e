use Rattle.std.proofs.Common.{refl, ap, sym, ◌∙◌, Some, arith}
use Rattle.dstm_core.specs.Words.{code_of}
use Rattle.dstm_steps.specs.Under.{now, effort_by}
use Rattle.dstm_steps.proofs.Meeting.{greedy_rank, in_other_phase, less_waiting, quit_waited}
use Rattle.dstm_steps.proofs.Stepping.{under_is}
use Rattle.dstm_steps.proofs.steps.Steps.give_way.Goals as goal

pub pause-requires-clause-enemy : goal.pause-requires-clause-enemy
pause-requires-clause-enemy g c =
    let met = c.requires.met in (
      rw met.owner_is refl,
      greedy_rank _ _ c.requires.manager met.rank,
      c.requires.elder,
      rw met.status c.requires.live.0,
      rw met.status c.requires.live.1,
    )

pub returns-then-not-lets_go-clause-ends : goal.returns-then-not-lets_go-clause-ends
returns-then-not-lets_go-clause-ends g c =
    let met = c.stand_aside-code.ensures.met in
    under_is c.quit.ensures.under refl (ap Some (quit_waited (now c.args.words.now c.stand_aside-code.new.self)
    (effort_by c.stand_aside-code.new.self) met.agreed met.tries))

pub returns-then-not-resume-clause-ends : goal.returns-then-not-resume-clause-ends
returns-then-not-resume-clause-ends g c = c.resume.ensures.killed c.if-not-resume.true

pub returns-clause-met : goal.returns-clause-met
returns-clause-met g c =
    let met = c.stand_aside-code.ensures.met in
    let resumed = c.resume.ensures in
    in_other_phase met (resumed.good c.if-not-resume.false) (resumed.state c.if-not-resume.false) resumed.left.2
    (λ _. resumed.left.0) (let same = resumed.left.1 in let tries = met.tries in omega arith)

pub returns-clause-less : goal.returns-clause-less
returns-clause-less g c =
    let paused = c.pause.ensures.left in
    let aside = c.stand_aside-code.ensures.kept in
    let resumed = c.resume.ensures.left in
    rw (resumed.1, aside.0, paused.1, resumed.2, aside.1, paused.2)
    (less_waiting c.args.self.now.missed c.args.self.now.round (code_of c.args.status) c.stand_aside-code.result
    c.requires.live.0 c.requires.live.1 (sym c.lets_go.ensures ∙ c.if-not-lets_go.false))
