use Rattle.std.proofs.Common.{refl, true}
use Rattle.dstm_engine.proofs.Abandoning.{fresh_ended}
use Rattle.dstm_engine.proofs.Setting.{stays_tied}
use Rattle.dstm_engine.specs.Mirror.{called}
use Rattle.dstm_engine.proofs.caller.Caller.next_transaction.Goals as goal

pub invariant_of-self : goal.invariant_of-self
invariant_of-self g c =
    let x = c.self.inside in
    let v = c.self.invariant in
    stays_tied true x.opened.writes v (λ h. absurd (cc h)) (fresh_ended (called x) x.left v.ended) v.writes refl
