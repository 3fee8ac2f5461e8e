use Rattle.std.proofs.Common.{arith}
use Rattle.dstm_steps.proofs.Ranged.{word_below, word_fits}
use Rattle.dstm_steps.proofs.steps.Steps.look_old.Goals as goal

pub overflow_cast-word : goal.overflow_cast-word
overflow_cast-word g c = let fits = word_fits c.requires.runs.under c.requires.runs.running c.requires.word in omega arith

pub old_cell-place-requires-clause-below : goal.old_cell-place-requires-clause-below
old_cell-place-requires-clause-below g c = word_below c.requires.runs.under c.requires.runs.running c.requires.word
