use Rattle.std.proofs.Common.{◌∙◌, ap}
use Rattle.std.specs.Prelude.{map}
use Rattle.dstm_structures.proofs.Doing.{does-as}
use Rattle.dstm_structures.proofs.Sets.{lists-above}
use Rattle.dstm_structures.proofs.set.OrderedSet.list_above.Goals as goal

pub returns-clause-lists : goal.returns-clause-lists
returns-clause-lists g c =
    does-as c.in_ok-items.ensures.lists
    (λ before after size. lists-above c.args.self c.args.key c.args.most c.in_ok-items.items.items c.in_ok-keys.keys.items
    before after (c.in_ok-keys.ensures ∙ ap (map (λ item. item.0)) c.deref.ensures.value))
