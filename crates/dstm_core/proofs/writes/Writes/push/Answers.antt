use Rattle.std.proofs.Common.{arith}
use Rattle.std.proofs.lemmas.Bool.Decides.{nat_tests}
use Rattle.dstm_core.proofs.Opened.{is_open-push}
use Rattle.dstm_core.proofs.writes.Writes.push.Goals as goal

pub invariant_of-self-in_default : goal.invariant_of-self-in_default
invariant_of-self-in_default c =
    λ o. grind (
      arith,
      nat_tests,
      is_open-push,
      c.self.invariant o,
      c.in_ok-push.ensures.items,
      c.in_default.ensures.updates.0 o,
    )
