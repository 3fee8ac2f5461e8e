use Rattle.std.proofs.Common.{arith, ap}
use Rattle.dstm_tree.specs.Tree.{items_of}
use Rattle.dstm_store.proofs.Unfolded.{halves-of_value, joined}
use Rattle.dstm_store.proofs.read.+read_below.Goals as goal

pub read_below-requires : goal.read_below-requires
read_below-requires t c =
    let is = c.of-node.ensures in
    let r = halves-of_value c.of-node.result c.requires.tree c.if-at-eq0.false is.number is.left is.right
    c.node_object-object.ensures.object is.value c.requires.stands in
    (omega (arith, r.deep, c.decreases), (c.requires.tree, (c.requires.objects, r.left)))

pub read_below-requires-2 : goal.read_below-requires-2
read_below-requires-2 t c =
    let is = c.of-node.ensures in
    let r = halves-of_value c.of-node.result c.requires.tree c.if-at-eq0.false is.number is.left is.right
    c.node_object-object.ensures.object is.value c.requires.stands in
    (omega (arith, r.deep, c.decreases), (c.requires.tree, (c.requires.objects, r.right)))

pub returns : goal.returns
returns t c s =
    let x = c.of-node.result in
    let is = c.of-node.ensures in
    let r = halves-of_value x c.requires.tree c.if-at-eq0.false is.number is.left is.right
    c.node_object-object.ensures.object is.value s in
    joined c.args.items.now.items _ _ _ _ _ _ _ (x.key, x.value)
    (c.in_ok-read_below.ensures r.left) c.in_ok-push.ensures.items
    (ap (λ key. record { key = key; value = x.value }) c.from.ensures)
    (c.in_ok-read_below-2.ensures r.right) (ap items_of r.tree)
