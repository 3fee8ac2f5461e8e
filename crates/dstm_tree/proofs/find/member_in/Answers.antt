use Rattle.dstm_tree.proofs.Base.{◌∙◌, ap, is_some}
use Rattle.dstm_tree.proofs.Stepping.{steps-as}
use Rattle.dstm_tree.proofs.find.member_in.Goals as goal

pub returns : goal.returns
returns g c =
    steps-as c.in_ok-found.ensures (λ q. q) (λ before after h.
    record { same = h.same; is = λ limit items t. c.is_some.ensures ∙ ap is_some (h.is limit items t) })
