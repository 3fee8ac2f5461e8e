use Rattle.std.proofs.Common.{refl}
use Rattle.dstm_cells.proofs.Calling.{where_so}
use Rattle.dstm_cells.proofs.thread.Part.atomically_by.Goals as goal

pub returns-clause-took : goal.returns-clause-took
returns-clause-took g c keeps = where_so c.make.result _ refl (c.make.ensures.took keeps)

pub make-requires-clause-lawful : goal.make-requires-clause-lawful
make-requires-clause-lawful g c f n old new answer commits = c.requires.lawful f n old new answer
