use Rattle.std.proofs.Common.{subst, sym}
use Rattle.dstm_tables.specs.declared.tables.Caller.TheVariants.{Dstm}
use Rattle.dstm_attempts.specs.Waiting.{LetsGo}
use Rattle.dstm_attempts.proofs.attempts.Attempts.let_go.Goals as goal

pub returns-in-Dstm-table-clause-same : goal.returns-in-Dstm-table-clause-same
returns-in-Dstm-table-clause-same g c h =
    subst (λ k. LetsGo g.L.Law.holds k (Dstm c.let_go.new.caller)) (sym c.in-Dstm.is) (c.let_go.ensures.same h)
