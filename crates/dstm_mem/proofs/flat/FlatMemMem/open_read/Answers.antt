use Rattle.std.proofs.Common.{rules, ◌<◌, length, arith}
use Rattle.std.proofs.lemmas.Grind.{common_steps}
use Rattle.dstm_mem.proofs.WithSet.{value_at-with_set}
use Rattle.dstm_mem.proofs.flat.FlatMemMem.open_read.Goals as goal

pub returns-clause-found : goal.returns-clause-found
returns-clause-found c map is =
    let within : c.args.o < length map = search rules in
    rw (value_at-with_set map _ c.args.o within) (grind (arith, common_steps))
