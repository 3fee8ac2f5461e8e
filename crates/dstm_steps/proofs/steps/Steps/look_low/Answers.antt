use Rattle.std.proofs.Common.{arith}
use Rattle.dstm_steps.proofs.Ranged.{version_below, version_fits}
use Rattle.dstm_steps.proofs.steps.Steps.look_low.Goals as goal

pub overflow_cast-named : goal.overflow_cast-named
overflow_cast-named g c = let fits = version_fits c.requires.runs.under c.requires.runs.running c.requires.version in omega arith

pub new_cell-place-requires-clause-below : goal.new_cell-place-requires-clause-below
new_cell-place-requires-clause-below g c = version_below c.requires.runs.under c.requires.runs.running c.requires.version
