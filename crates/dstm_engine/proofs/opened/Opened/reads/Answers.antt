use Rattle.std.proofs.Common.{◌∙◌, ap, map}
use Rattle.dstm_steps.specs.Reads.{kept}
use Rattle.dstm_engine.specs.Mirror.{slot_word}
use Rattle.dstm_engine.specs.Opened.{OpenedAs}
use Rattle.dstm_engine.proofs.Slots.{words_all}
use Rattle.dstm_engine.proofs.opened.Opened.reads.Goals as goal

pub returns : goal.returns
returns c =
    ap kept c.deref.ensures.value ∙ words_all c.self.inside.reads.items
    ∙ ap (λ (x : OpenedAs). map slot_word x.reads) c.self.view_is
