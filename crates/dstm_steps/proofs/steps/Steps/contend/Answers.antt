use Rattle.std.proofs.Common.{refl}
use Rattle.dstm_steps.specs.Under.{now, effort_by}
use Rattle.dstm_steps.proofs.Meeting.{GivesWay, may_kill, gives_way, began_wait}
use Rattle.dstm_steps.proofs.steps.Steps.contend.Given.{Over}
use Rattle.dstm_steps.proofs.steps.Steps.contend.Goals.{In-GiveWay}
use Rattle.dstm_steps.proofs.steps.Steps.contend.Goals as goal

pub abort-requires-clause-may : goal.abort-requires-clause-may
abort-requires-clause-may g c =
    let kill = c.in-Kill.ensures.kill refl in rw kill.0 (may_kill _ _ (effort_by c.args.self.now) c.requires.met.rank kill.2)

-- it gives way as the manager chose
gives : (g : Over) (c : In-GiveWay g) →
    GivesWay c.args.words.now.terms.shape.manager (now c.args.words.now c.args.self.now)
gives g c = gives_way _ _ (effort_by c.args.self.now) (c.in-GiveWay.ensures.give_way refl).2

pub give_way-requires-clause-live : goal.give_way-requires-clause-live
give_way-requires-clause-live g c =
    (c.requires.live, rw c.requires.met.status at (gives g (goal.at.give_way-requires-clause-live g c).In-GiveWay).awake)

pub give_way-requires-clause-manager : goal.give_way-requires-clause-manager
give_way-requires-clause-manager g c = (gives g (goal.at.give_way-requires-clause-manager g c).In-GiveWay).manager

pub give_way-requires-clause-elder : goal.give_way-requires-clause-elder
give_way-requires-clause-elder g c =
    rw (c.in-GiveWay.ensures.give_way refl).0 (gives g (goal.at.give_way-requires-clause-elder g c).In-GiveWay).elder

pub wait-requires : goal.wait-requires
wait-requires g c =
    let waits = c.in-Waits.ensures.waits c.in-Waits.code refl in
    let rounds = c.in-Waits.ensures.rounds c.in-Waits.code refl in
    record { met = began_wait c.requires.met waits.1 waits.0 rounds.0 rounds.1 rounds.2 }
