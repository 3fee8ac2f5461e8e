use Rattle.std.proofs.Common.{◌∙◌, ap, subst, sym}
use Rattle.dstm_tl2_steps.specs.Reads.{AtRest}
use Rattle.dstm_tl2_engine.proofs.Setting.{set_tied}
use Rattle.dstm_tl2_engine.specs.Callers.{TlCalled, is_live, is_opened, state}
use Rattle.dstm_tl2_engine.proofs.caller.TlCaller.set.Goals as goal

pub invariant_of-self : goal.invariant_of-self
invariant_of-self g c =
    set_tied c.self.invariant c.args.o c.args.v c.set.new.self (ap is_live c.self.view_is ∙ c.requires.live)
    (subst (λ (k : TlCalled _). AtRest (state k)) (sym c.self.view_is) c.requires.rest)
    (ap (λ (k : TlCalled _). is_opened k c.args.o) c.self.view_is ∙ c.requires.opened)
    c.set.ensures.writes c.set.ensures.set c.set.ensures.value c.set.ensures.rest
