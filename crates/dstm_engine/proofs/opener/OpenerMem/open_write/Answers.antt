use Rattle.std.proofs.Common.{ℕ, ap}
use Rattle.dstm_engine.proofs.Handing.{finds}
use Rattle.dstm_engine.specs.Transactions.{TxPlace}
use Rattle.dstm_engine.proofs.LettingGo.{write_keeps, same_both}
use Rattle.dstm_engine.proofs.Looked.{few_still, write_few}
use Rattle.dstm_engine.proofs.opener.OpenerMem.open_write.Goals as goal

pub returns-clause-place : goal.returns-clause-place
returns-clause-place g c =
    ap (λ (x : TxPlace _ × ℕ). (x, c.args.self.now.tx.ghost_name)) (same_both _ _ c.open_write.ensures.place
    (ap g.K.TellsLetGo.told (write_keeps g.L.Law.holds c.args.self.now.tx.now.caller.now c.open_write.new.self.caller.now c.args.o
    c.open_write.result c.open_write.ensures.again c.open_write.ensures.stays c.open_write.ensures.leaves)))

pub returns-clause-found : goal.returns-clause-found
returns-clause-found g c =
    finds g.L.Law.holds c.args.self.now.tx.now.caller.now c.open_write.result c.open_write.ensures.kept
    c.args.o c.requires.exists c.open_write.ensures.value

pub invariant_of-self : goal.invariant_of-self
invariant_of-self g c =
    record {
      few =
          few_still c.args.self.now.tx.now.caller.now c.open_write.new.self.caller.now
          (write_few g.L.Law.holds c.args.self.now.tx.now.caller.now c.open_write.new.self.caller.now
          (ap (λ (p : TxPlace _). p.began) c.open_write.ensures.place) c.args.o c.open_write.result
          c.open_write.ensures.again c.open_write.ensures.stays c.open_write.ensures.leaves)
          g.C.Counted.sights g.C.Counted.looks c.args.self.now.few;
    }
