use Rattle.std.proofs.Common.{◌∙◌, ◌≡◌, ap, refl}
use Rattle.dstm_core.specs.State.{or_unresolved}
use Rattle.dstm_steps.specs.Under.{now}
use Rattle.dstm_steps.proofs.FoundValues.{found_kept, has_value}
use Rattle.dstm_steps.proofs.steps.Steps.try_acquire.Goals as goal

pub returns-then-install-clause-value : goal.returns-then-install-clause-value
returns-then-install-clause-value g c =
    let home = c.args.words.now in
    let same : (now home c.put_old.new.self).resolution ≡ (now home c.resolve.new.self).resolution =
    rw (c.put_old.ensures.state, c.put_owner.ensures.state) refl in
    has_value c.put_old.ensures.under (c.install.ensures.under c.if-install.true) c.install.ensures.past
    (found_kept same c.in_ok-found.ensures.found)
    (ap (λ o. (or_unresolved o).object) same ∙ c.in_ok-found.ensures.object)
