use Rattle.std.proofs.Common.{◌∙◌, ap, sym}
use Rattle.dstm_tables.specs.Founders.{home_there}
use Rattle.dstm_tables.proofs.GivingOut.{dstm_new, tl2_new}
use Rattle.dstm_tables.proofs.founding.Founder.caller.Goals as goal

pub returns-in_ok-caller-in-Dstm-table-clause-gives : goal.returns-in_ok-caller-in-Dstm-table-clause-gives
returns-in_ok-caller-in-Dstm-table-clause-gives g c =
    rw c.in-Dstm.is (dstm_new c.args.table.now c.in-Dstm.founder c.caller.new.self c.args.seed
    c.in_ok-caller-in-Dstm-table.field-0 (ap home_there (sym c.in-Dstm.is) ∙ c.requires.table)
    c.in_ok-caller-in-Dstm-table.ensures.caller)

pub returns-in-Ok-clause-gives : goal.returns-in-Ok-clause-gives
returns-in-Ok-clause-gives g c =
    rw c.in-Tl2.is (tl2_new c.in-Tl2.founder c.caller-in-Tl2-table-2.new.self c.in-Ok.caller c.in-Ok.ensures.caller
    c.args.table.now c.args.seed (ap home_there (sym c.in-Tl2.is) ∙ c.requires.table))
