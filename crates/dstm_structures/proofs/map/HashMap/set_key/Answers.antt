use Rattle.std.proofs.Common.{rules}
use Rattle.dstm_structures.proofs.Doing.{does-as, does-write}
use Rattle.dstm_structures.proofs.Mapping.{sets-key}
use Rattle.dstm_structures.proofs.map.HashMap.set_key.Goals as goal

pub returns-clause-sets : goal.returns-clause-sets
returns-clause-sets g c =
    let (now, post, changes) = c.in_ok-_before.ensures.puts in
    does-as (does-write changes)
    (λ before after size writes. sets-key c.args.self c.args.at c.slot_at.result.object c.in_ok-_before._before now before
    after size c.requires c.slot_at.ensures writes c.args.key (search rules))
