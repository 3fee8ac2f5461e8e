use Rattle.std.proofs.Common.{refl}
use Rattle.dstm_mem.proofs.Slots.{apart}
use Rattle.dstm_tl2_steps.proofs.opened.Opened.writes.Goals as goal

pub returns-clause-apart : goal.returns-clause-apart
returns-clause-apart c = rw (← c.self.view_is) (apart c.self.invariant.writes (λ i lt. refl))
