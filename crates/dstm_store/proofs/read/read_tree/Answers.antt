use Rattle.std.proofs.Common.{◌<◌, arith, sym, ◌∙◌, ap, map, List, ◌++◌}
use Rattle.dstm_model.specs.declared.state.Item.{Item}
use Rattle.dstm_model.specs.Store.{item_of}
use Rattle.dstm_tree.specs.Tree.{items_of}
use Rattle.dstm_store.proofs.Unfolded.{whole}
use Rattle.dstm_store.proofs.read.read_tree.Goals as goal

pub read_below-requires-clause-stands : goal.read_below-requires-clause-stands
read_below-requires-clause-stands c =
    let declared : 0 < c.args.layout.now.tree = omega arith in
    (whole c.args.layout.now c.args.values.now c.requires.lawful.0 c.root_object.result c.root_object.ensures.object
    (c.requires.lawful.1.tree declared)).0

pub returns : goal.returns
returns c store stands =
    let declared : 0 < c.args.layout.now.tree = omega arith in
    let t = stands.tree declared in
    let (all, same) = whole c.args.layout.now c.args.values.now store c.root_object.result c.root_object.ensures.object
    t in
    c.in_ok-read_below.ensures all
    ∙ ap (λ (items : List Item). items ++ map item_of (items_of all.tree)) c.new-items.ensures.items
    ∙ ap (λ tree. map item_of (items_of tree)) same
    ∙ ap (map item_of) (sym t.holds.items)
