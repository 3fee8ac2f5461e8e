use Rattle.std.proofs.Common.{refl}
use Rattle.dstm_machines.specs.Traces.Access.{Load}
use Rattle.dstm_tl2_steps.proofs.Stepping.{went_on}
use Rattle.dstm_tl2_steps.proofs.steps.Steps.look_again.Goals as goal

pub returns : goal.returns
returns g c = record { went = went_on Load c.requires.under c.load.ensures.event refl c.lock-lock.ensures c.load.ensures.seat refl refl refl refl; rest = refl }
