use Rattle.std.proofs.Common.{◌∙◌, ap}
use Rattle.std.specs.Prelude.{map}
use Rattle.dstm_structures.proofs.Sets.{lists}
use Rattle.dstm_structures.proofs.set.OrderedSet.read_all.Goals as goal

pub returns-clause-lists : goal.returns-clause-lists
returns-clause-lists g c =
    lists c.args.self c.in_ok-items.items.items c.in_ok-keys.keys.items c.args.memory.now.values.items
    (c.in_ok-keys.ensures ∙ ap (map (λ item. item.0)) c.deref.ensures.value) c.in_ok-items.ensures.lists
