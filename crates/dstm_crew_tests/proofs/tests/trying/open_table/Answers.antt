use Rattle.std.proofs.Common.{◌∙◌, sym}
use Rattle.dstm_tables.specs.Callers.{round_of}
use Rattle.dstm_tables.specs.Founders.{first_of}
use Rattle.dstm_tables.proofs.Same.{callers_past, first_past}
use Rattle.dstm_jobs.proofs.Same.{layout_is, layout_past}
use Rattle.dstm_crew_tests.proofs.tests.trying.open_table.Goals as goal

pub returns-clause-law : goal.returns-clause-law
returns-clause-law c =
    let table = c.in_ok-table.table in
    let k = c.in_ok-caller.caller in
    sym (layout_is k)
    ∙ layout_past (first_of table) (round_of k) (first_past k table c.in_ok-caller.ensures.home) ∙ c.in_ok-table.ensures.told.layout

pub returns-clause-only : goal.returns-clause-only
returns-clause-only c =
    let table = c.in_ok-table.table in
    let k = c.in_ok-caller.caller in
    callers_past (first_of table) (round_of k) (first_past k table c.in_ok-caller.ensures.home) ∙ c.in_ok-table.ensures.told.callers
