use Rattle.std.proofs.Common.{◌∙◌, ℕ, ap, subst}
use Rattle.dstm_engine.specs.Callers.{Called}
use Rattle.dstm_engine.specs.Tables.{Enrols}
use Rattle.dstm_engine.proofs.stm.Founder.give_out.Goals as goal

pub returns-in-Ok-clause-caller : goal.returns-in-Ok-clause-caller
returns-in-Ok-clause-caller g c =
    let now = c.args.self.now in
    let new = c.caller.new.self in
    let enrols = c.in-Ok.ensures.caller in
    record {
      home = ap (λ (k : Called _). k.home) enrols.caller ∙ c.requires.table;
      enrols = (now, new, subst (λ (n : ℕ). Enrols g.L.Law.holds now new n c.in-Ok.caller) c.from.ensures enrols);
    }
