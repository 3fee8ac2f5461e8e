use Rattle.std.proofs.Common.{arith}
use Rattle.dstm_steps.proofs.Ranged.{version_below, version_fits}
use Rattle.dstm_steps.proofs.steps.Steps.look_high.Goals as goal

pub overflow_cast-named : goal.overflow_cast-named
overflow_cast-named g c = let fits = version_fits c.requires.runs.under c.requires.runs.running c.requires.version in omega arith

pub high_cell-place-requires-clause-below : goal.high_cell-place-requires-clause-below
high_cell-place-requires-clause-below g c = version_below c.requires.runs.under c.requires.runs.running c.requires.version
