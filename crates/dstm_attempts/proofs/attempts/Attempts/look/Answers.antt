use Rattle.std.proofs.Common.{subst, sym}
use Rattle.dstm_tables.specs.declared.tables.Caller.TheVariants.{Dstm}
use Rattle.dstm_attempts.specs.Attempts.{LooksOnce}
use Rattle.dstm_attempts.proofs.attempts.Attempts.look.Goals as goal

pub returns-in-Dstm-table-clause-once : goal.returns-in-Dstm-table-clause-once
returns-in-Dstm-table-clause-once g c h =
    subst (λ k. LooksOnce g.L.Law.holds k (Dstm c.look.new.self)) (sym c.in-Dstm.is) (c.look.ensures.once h)
