use Rattle.std.proofs.Common.{Err, refl}
use Rattle.dstm_model.specs.contracts.value.AnyLawLaw.TheImpl as TheLaw
use Rattle.dstm_handles.specs.declared.code.Code.TheVariants as code
use Rattle.dstm_c.proofs.Opening.{held_closed, held_no_room}
use Rattle.dstm_c.proofs.exports.part_of.Goals as goal

pub returns-then-not-is_memory : goal.returns-then-not-is_memory
returns-then-not-is_memory c =
    (Err code.Closed, refl, held_closed _ _ _ (c.is_memory.ensures.is_not c.if-not-is_memory.true) refl)

pub returns-in_default-new : goal.returns-in_default-new
returns-in_default-new c = (
  Err code.Memory,
  refl,
  held_no_room (TheLaw.holds-value).it _ _ refl (c.is_memory.ensures.is c.if-not-is_memory.false),
)
