use Rattle.dstm_tree.proofs.Base.{refl}
use Rattle.dstm_tree.proofs.Stepping.{steps-as, steps-then}
use Rattle.dstm_tree.proofs.balance.arrange.Goals as goal

pub returns : goal.returns
returns g c =
    let both = steps-then c.in_ok-write_node.ensures c.in_ok-write_node-2.ensures in
    steps-as (steps-then both c.in_ok-write_node-3.ensures) (λ never. absurd never) (λ before after h. record {
      root = refl;
      fell = refl;
      one = h.first.mid;
      two = h.mid;
      first = h.first.first;
      second = h.first.second;
      third = h.second;
    })
