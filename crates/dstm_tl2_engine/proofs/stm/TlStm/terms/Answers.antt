use Rattle.std.proofs.Common.{◌∙◌, ap, sym}
use Rattle.dstm_tl2_words.specs.Seats.{Home}
use Rattle.dstm_tl2_engine.proofs.Telling.{terms_same}
use Rattle.dstm_tl2_engine.proofs.stm.TlStm.terms.Goals as goal

pub returns : goal.returns
returns g c =
    let v = c.self.invariant in
    terms_same _ _ (sym v.1) (sym v.2) (c.of.ensures ∙ sym v.3) (c.of-2.ensures ∙ sym v.0)
    ∙ ap (λ (h : Home _). h.terms) c.self.view_is
