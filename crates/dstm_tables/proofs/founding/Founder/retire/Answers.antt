use Rattle.std.proofs.Common.{◌∙◌, ap, subst, sym}
use Rattle.dstm_tables.specs.declared.founding.Founder.{Founder}
use Rattle.dstm_tables.specs.declared.founding.Founder.TheVariants.{Dstm, Tl2}
use Rattle.dstm_tables.specs.declared.tables.Caller.{Caller}
use Rattle.dstm_tables.specs.Callers.{IsOver, home_of}
use Rattle.dstm_tables.specs.Founders.{TakesBack, home_there}
use Rattle.dstm_tables.proofs.GivingOut.{dstm_back, tl2_back, dstm_home_is, tl2_home_is}
use Rattle.dstm_tables.proofs.founding.Founder.retire.Goals as goal

pub returns-in-Dstm-caller-clause-back : goal.returns-in-Dstm-caller-clause-back
returns-in-Dstm-caller-clause-back g c over =
    let f = c.in-Dstm.founder in
    let n = c.retire.new.self in
    let k = c.in-Dstm-caller.caller in
    subst (λ (x : Founder _). TakesBack x (Dstm n) c.args.caller) (sym c.in-Dstm.is)
    (subst (λ (x : Caller _). TakesBack (Dstm f) (Dstm n) x) (sym c.in-Dstm-caller.is) (dstm_back f n k
    (dstm_home_is k f (ap home_of (sym c.in-Dstm-caller.is) ∙ c.requires.caller ∙ sym c.requires.table ∙ ap home_there c.in-Dstm.is))
    (subst IsOver c.in-Dstm-caller.is over) c.retire.ensures.retired))

pub returns-in-Tl2-caller-2-clause-back : goal.returns-in-Tl2-caller-2-clause-back
returns-in-Tl2-caller-2-clause-back g c over =
    let f = c.in-Tl2.founder in
    let n = c.retire-in-Tl2-caller-2.new.self in
    let k = c.in-Tl2-caller-2.caller in
    subst (λ (x : Founder _). TakesBack x (Tl2 n) c.args.caller) (sym c.in-Tl2.is)
    (subst (λ (x : Caller _). TakesBack (Tl2 f) (Tl2 n) x) (sym c.in-Tl2-caller-2.is) (tl2_back f n k
    (tl2_home_is k f (ap home_of (sym c.in-Tl2-caller-2.is) ∙ c.requires.caller ∙ sym c.requires.table ∙ ap home_there c.in-Tl2.is))
    (subst IsOver c.in-Tl2-caller-2.is over) c.retire-in-Tl2-caller-2.ensures.retired))
