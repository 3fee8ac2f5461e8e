use Rattle.std.proofs.Common.{◌+◌, ◌*◌}
use Rattle.dstm_model.specs.contracts.value.AnyLawLaw.TheImpl as TheLaw
use Rattle.dstm_c.proofs.Making.{adds_set, makes_named, makes_none}
use Rattle.dstm_c.proofs.sets.dstmc_set_new.Goals as goal

pub returns-in_default : goal.returns-in_default
returns-in_default c = makes_none (TheLaw.holds-value).it _ _ _ _ _ _ c.in_default.ensures c.number.ensures.is

pub returns : goal.returns
returns c =
    makes_named (TheLaw.holds-value).it (3 * c.args.capacity + 1) _ (adds_set c.args.capacity) _ _ _ _ _ _ c.make.ensures
