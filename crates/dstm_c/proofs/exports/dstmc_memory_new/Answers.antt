use Rattle.std.proofs.Common.{◌∙◌, ap, sym}
use Rattle.dstm_c.specs.Codes.{engine_number}
use Rattle.dstm_c.proofs.Opening.{is_done}
use Rattle.dstm_c.proofs.exports.dstmc_memory_new.Goals as goal

pub returns-in-Ok-clause-opens : goal.returns-in-Ok-clause-opens
returns-in-Ok-clause-opens c none =
    let opened = c.open_handle.ensures.opened (is_done c.open_handle.result (sym c.number-in-Ok.ensures.is ∙ none)) in
    record {
      memory = c.in-Ok.made;
      held = opened.1;
      empty = c.in-Ok.ensures.empty;
      threads_are = c.in-Ok.ensures.by.1;
      engine_is = ap engine_number c.in-Ok.ensures.by.0 ∙ c.in-Some.ensures;
    }
