use Rattle.std.proofs.Common.{◌∙◌, ◌≡◌, ap, sym, true}
use Rattle.std.specs.Prelude.{is_some}
use Rattle.dstm_engine.proofs.Setting.{opened_there, set_tied, sets_only}
use Rattle.dstm_engine.proofs.Tying.{live_there}
use Rattle.dstm_engine.specs.Callers.{Called, is_live, is_opened}
use Rattle.dstm_engine.specs.Opened.{write_slot}
use Rattle.dstm_engine.proofs.caller.Caller.set.Goals as goal

pub set-requires-clause-opened : goal.set-requires-clause-opened
set-requires-clause-opened g c =
    let x = c.self.inside in
    let live : x.live ≡ true = live_there c.self.invariant ∙ ap is_live c.self.view_is ∙ c.requires.live in
    sym (opened_there c.self.invariant live c.args.o)
    ∙ ap (λ (k : Called _). is_opened k c.args.o) c.self.view_is ∙ c.requires.opened

pub invariant_of-self : goal.invariant_of-self
invariant_of-self g c =
    let live : c.self.inside.live ≡ true = live_there c.self.invariant ∙ ap is_live c.self.view_is ∙ c.requires.live in
    rw c.set.ensures (set_tied c.args.o c.args.v c.self.invariant live)

pub returns-clause-written : goal.returns-clause-written
returns-clause-written g c =
    let x = c.self.inside in
    let live : x.live ≡ true = live_there c.self.invariant ∙ ap is_live c.self.view_is ∙ c.requires.live in
    let some : is_some (write_slot x.opened.writes c.args.o) ≡ true =
    sym (opened_there c.self.invariant live c.args.o)
    ∙ ap (λ (k : Called _). is_opened k c.args.o) c.self.view_is ∙ c.requires.opened in
    rw (← c.self.view_is, c.set.ensures) (sets_only c.args.o c.args.v x.opened.writes some)
