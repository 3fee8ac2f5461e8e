use Rattle.dstm_attempts.proofs.Numbers.{up_to_left}
use Rattle.dstm_attempts.proofs.attempts.Attempts.write.Goals as goal

pub invariant_of-self : goal.invariant_of-self
invariant_of-self g c =
    let before = c.args.self.now in
    let up_to = up_to_left before.newest before.caller _ c.write.new.self c.in-Dstm.is c.write.ensures.keeps before.up_to in
    record { under_way = c.write.ensures.flags; up_to = up_to }
