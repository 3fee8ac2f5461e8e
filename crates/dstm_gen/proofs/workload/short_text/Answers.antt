use Rattle.dstm_gen.proofs.Sizes.{text_le}
use Rattle.dstm_gen.proofs.workload.short_text.Goals as goal

pub returns : goal.returns
returns c = text_le
