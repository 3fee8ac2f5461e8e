use Rattle.std.proofs.Common.{◌+◌}
use Rattle.dstm_model.specs.contracts.value.AnyLawLaw.TheImpl as TheLaw
use Rattle.dstm_c.proofs.Making.{adds_queue, makes_named, makes_none}
use Rattle.dstm_c.proofs.queues.dstmc_queue_new.Goals as goal

pub returns-in_default : goal.returns-in_default
returns-in_default c = makes_none (TheLaw.holds-value).it _ _ _ _ _ _ c.in_default.ensures c.number.ensures.is

pub returns : goal.returns
returns c =
    makes_named (TheLaw.holds-value).it (c.args.capacity + 1) _ (adds_queue c.args.capacity) _ _ _ _ _ _ c.make.ensures
