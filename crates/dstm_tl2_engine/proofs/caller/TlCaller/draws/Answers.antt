use Rattle.std.proofs.Common.{◌∙◌, ap}
use Rattle.dstm_tl2_engine.proofs.Drawing.{draws_told}
use Rattle.dstm_tl2_engine.specs.Attempts.{draws}
use Rattle.dstm_tl2_engine.specs.Mirror.{called}
use Rattle.dstm_tl2_engine.proofs.caller.TlCaller.draws.Goals as goal

pub returns : goal.returns
returns g c =
    draws_told (called c.self.inside) _ _ c.self.invariant.run c.self.invariant.seat.0 c.draws.ensures ∙ ap draws c.self.view_is
