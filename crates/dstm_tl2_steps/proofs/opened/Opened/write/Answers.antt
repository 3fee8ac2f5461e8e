use Rattle.std.proofs.Common.{◌∙◌, ◌≡◌, List, ap, option_map, sym, ℕ}
use Rattle.dstm_mem.specs.Memory.{value_in}
use Rattle.dstm_mem.specs.Slots.{slot_in}
use Rattle.dstm_model.specs.declared.value.Val.{Val}
use Rattle.dstm_tl2_steps.specs.Opened.{OpenedAs}
use Rattle.dstm_tl2_steps.proofs.Placing.{found_write}
use Rattle.dstm_tl2_steps.proofs.opened.Opened.write.Goals.{After-look}
use Rattle.dstm_tl2_steps.proofs.opened.Opened.write.Goals as goal

-- the value of what was found
seen : (c : After-look) → option_map (λ (w : ℕ × Val). w.1) c.look.result ≡ value_in c.args.self.now.writes c.args.o
seen c =
    let x = c.self.inside in
    ap (option_map (λ (w : ℕ × Val). w.1))
    (c.look.ensures ∙ ap (λ (ws : List (ℕ × Val)). slot_in ws c.index.result.now.write) c.deref.ensures.value)
    ∙ found_write x.writes.items x.places.items c.self.invariant.writes c.args.o (rw (← c.self.view_is) at c.requires.exists)
    c.index.result.now c.index.ensures
    ∙ ap (λ (y : OpenedAs). value_in y.writes c.args.o) c.self.view_is

pub returns-in-Some : goal.returns-in-Some
returns-in-Some c =
    ap (option_map (λ (w : ℕ × Val). w.1)) (sym c.in-Some.is) ∙ seen (goal.at.returns-in-Some c).After-look

pub returns-in-None : goal.returns-in-None
returns-in-None c =
    ap (option_map (λ (w : ℕ × Val). w.1)) (sym c.in-None.is) ∙ seen (goal.at.returns-in-None c).After-look
