use Rattle.dstm_tree.proofs.Base.{refl}
use Rattle.dstm_tree.proofs.Placing.{leaf-root}
use Rattle.dstm_tree.proofs.Stepping.{steps-as}
use Rattle.dstm_tree.proofs.place.place_leaf.Goals as goal

pub returns-clause-steps : goal.returns-clause-steps
returns-clause-steps g c =
    let region = c.args.region in
    let q = c.args.request in
    steps-as c.in_ok-number.ensures.steps (λ full. absurd full) (λ before after taken.
    leaf-root region q
    (record { number = c.in_ok-number.number; red = _; key = q.key; value = q.value; left = 0; right = 0 }) before after
    c.if-number-eq0.false refl refl refl refl refl taken)
