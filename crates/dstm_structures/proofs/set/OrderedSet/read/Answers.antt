use Rattle.std.proofs.Common.{◌∙◌, ap}
use Rattle.std.specs.Prelude.{is_some}
use Rattle.dstm_structures.proofs.set.OrderedSet.read.Goals as goal

pub returns-clause-reads : goal.returns-clause-reads
returns-clause-reads g c = c.is_some.ensures ∙ ap is_some c.in_ok-answer.ensures.reads
