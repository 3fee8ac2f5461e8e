use Rattle.std.proofs.Common.{◌<◌, ◌∙◌, ◌≡◌, arith, sym, length}
use Rattle.std.proofs.lemmas.List.{get_or_default, get_or-set_other, length-set}
use Rattle.dstm_model.specs.Map.{no_value, value_at}
use Rattle.dstm_core.specs.Left.{value_left}
use Rattle.dstm_mem.proofs.Settling.{settled_more}
use Rattle.dstm_engine.proofs.closing.settle.Goals as goal

pub loop-o-preserved : goal.loop-o-preserved
loop-o-preserved c =
    let v = c.loop-o.invariant in
    let shape = c.args.shape.now in
    let words = c.args.words.now in
    let start = c.args.start.items in
    let values = c.loop-o.values.items in
    let o = c.loop-o.o in
    let new = c.current.result in
    let below : o < length values = let objects = v.objects in omega (arith, c.loop-o-test.true) in
    let first = c.index-first.result.now in
    let found : value_at start o ≡ first =
    sym (v.rest o (omega arith)) ∙ get_or_default values o no_value first below ∙ sym c.index-first.ensures in
    record {
      objects = length-set values o new ∙ v.objects;
      settled = settled_more (value_left shape start words) values o new below (c.current.ensures start found) v.settled;
      rest = λ k le. get_or-set_other values o k new no_value (λ q. omega arith) ∙ v.rest k (omega arith);
    }
