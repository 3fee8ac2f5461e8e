use Rattle.std.proofs.Common.{rules}
use Rattle.dstm_mem.specs.Flat.{written_in}
use Rattle.dstm_mem.proofs.WithSet.{with_set-set}
use Rattle.dstm_mem.proofs.flat.FlatMemMem.set.Goals as goal

pub returns-clause-puts : goal.returns-clause-puts
returns-clause-puts c map =
    with_set-set map (written_in c.args.self.now.notes.items) _ c.args.o c.args.v (search rules)
