use Rattle.std.proofs.Common.{sym}
use Rattle.dstm_mem.proofs.InTheEnd.{in_the_end}
use Rattle.dstm_attempts.specs.Dstm.{IsAbandoned, IsQuit}
use Rattle.dstm_attempts.proofs.ByDstm.{quit}
use Rattle.dstm_attempts.proofs.Resuming.{resumed}
use Rattle.dstm_attempts.proofs.dstm.abandon.Goals as goal

-- The caller ends as the attempt left it, since this has the reference that it was resumed with.

pub returns-clause-leaves : goal.returns-clause-leaves
returns-clause-leaves g c =
    resumed (IsAbandoned g.L.Law.holds) _ c.resume.result.caller.now _ _ _ _ (assumption c) (sym c.resume.ensures.same)
    c.resume.ensures.attempt
    (record { steps = c.abandon.ensures.steps; only = c.abandon.ensures.kept; over = c.abandon.ensures.dead })

pub returns-clause-quit : goal.returns-clause-quit
returns-clause-quit g c =
    in_the_end IsQuit _ _ _ _ (assumption c) (sym c.resume.ensures.same)
    (quit g.L.Law.holds c.resume.result.caller.now _ c.abandon.ensures.steps)

pub returns-clause-flags : goal.returns-clause-flags
returns-clause-flags g c = (λ on. absurd (cc), λ off. (returns-clause-quit g c).over)
