use Rattle.std.proofs.Common.{◌∙◌, ap}
use Rattle.std.specs.Prelude.{is_some}
use Rattle.dstm_mem.specs.Memory.{value_in}
use Rattle.dstm_tl2_engine.proofs.Handing.{set_opened}
use Rattle.dstm_tl2_engine.proofs.tx.TlAttempt.set.Goals as goal

pub returns-clause-opened : goal.returns-clause-opened
returns-clause-opened g c =
    λ p. ap (λ ws. is_some (value_in ws p)) c.set.ensures.writes
    ∙ set_opened c.args.o c.args.v c.args.self.now.caller.now.writes p c.requires.opened
