use Rattle.std.proofs.Common.{◌&&◌, ◌∙◌, ◌≡◌, Option, ap, false, not, sym, true}
use Rattle.std.specs.Prelude.{is_some}
use Rattle.dstm_engine.proofs.Base.{ReadSlot, WriteSlot}
use Rattle.dstm_engine.proofs.Holding.{both_there, is_read_there}
use Rattle.dstm_engine.specs.Callers.{Called, live_held, live_opened}
use Rattle.dstm_engine.specs.Opened.{read_slot, write_slot}
use Rattle.dstm_engine.proofs.caller.Caller.is_read.Given.{Over}
use Rattle.dstm_engine.proofs.caller.Caller.is_read.Goals.{After-is_some}
use Rattle.dstm_engine.proofs.caller.Caller.is_read.Goals as goal

-- it is read where it has a slot
read : (g : Over) (c : After-is_some g) → is_some (read_slot c.self.inside.opened.reads c.args.o) ≡ c.is_some.result
read g c = ap (λ (r : Option ReadSlot). is_some r) (sym c.read.ensures) ∙ sym c.is_some.ensures

pub returns-then-is_some : goal.returns-then-is_some
returns-then-is_some g c =
    let x = c.self.inside in
    let read : is_some (read_slot x.opened.reads c.args.o) ≡ true =
    read g (goal.at.returns-then-is_some g c).After-is_some ∙ c.if-is_some.true in
    let write : is_some (write_slot x.opened.writes c.args.o) ≡ not c.is_none.result =
    ap (λ (w : Option WriteSlot). is_some w) (sym c.write.ensures) ∙ c.is_none.ensures in
    sym (is_read_there c.self.invariant c.args.o c.if-not-self.false
    ∙ both_there _ _ c.is_none.result read write)
    ∙ ap (λ (k : Called _). is_some (live_held k c.args.o) && not (live_opened k c.args.o)) c.self.view_is

pub returns-else-is_some : goal.returns-else-is_some
returns-else-is_some g c =
    let x = c.self.inside in
    let read : is_some (read_slot x.opened.reads c.args.o) ≡ false =
    read g (goal.at.returns-else-is_some g c).After-is_some ∙ c.if-is_some.false in
    c.if-is_some.false
    ∙ sym (is_read_there c.self.invariant c.args.o c.if-not-self.false
    ∙ ap (λ b. b && not (is_some (write_slot x.opened.writes c.args.o))) read)
    ∙ ap (λ (k : Called _). is_some (live_held k c.args.o) && not (live_opened k c.args.o)) c.self.view_is
