use Rattle.std.proofs.Common.{◌≡◌, List, subst, ℕ}
use Rattle.std.specs.Prelude.{OnOk}
use Rattle.dstm_engine.proofs.Base.{Val}
use Rattle.dstm_engine.proofs.Holding.{reads_there}
use Rattle.dstm_engine.proofs.caller.Caller.copy_held.Goals as goal

pub returns : goal.returns
returns g c =
    subst (λ (pairs : List (ℕ × Val)). OnOk c.copy_held.result (c.copy_held.new.values.items ≡ pairs))
    (reads_there c.self.invariant c.self.view_is c.requires.live) c.copy_held.ensures
