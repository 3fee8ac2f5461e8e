use Rattle.dstm_tree.proofs.Base.{true, false, sym, ◌∙◌}
use Rattle.dstm_tree.proofs.Layouts.{done-in, found-member}
use Rattle.dstm_tree.proofs.layout.member.Goals as goal

pub returns-then-is_some : goal.returns-then-is_some
returns-then-is_some g c =
    done-in c.args.layout.now c.tree_region.ensures c.in_ok-found.ensures (λ look. tt) (λ before after h.
    found-member c.args.key true (sym c.is_some.ensures ∙ c.if-is_some.true) (rw c.tree_region.ensures at h))

pub returns : goal.returns
returns g c =
    done-in c.args.layout.now c.tree_region.ensures c.in_ok-found.ensures (λ look. tt) (λ before after h.
    found-member c.args.key false (sym c.is_some.ensures ∙ c.if-is_some.false) (rw c.tree_region.ensures at h))
