use Rattle.std.proofs.Common.{ap}
use Rattle.dstm_engine.specs.Transactions.{TxPlace}
use Rattle.dstm_engine.proofs.Looked.{few_still, release_few}
use Rattle.dstm_engine.proofs.opener.OpenerLetGoRelease.release.Goals as goal

pub invariant_of-self : goal.invariant_of-self
invariant_of-self g c =
    record {
      few =
          few_still c.args.self.now.tx.now.caller.now c.release.new.self.caller.now (release_few
          (ap (λ (p : TxPlace _). p.began) c.release.ensures.place) c.release.ensures.steps)
          g.C.Counted.sights g.C.Counted.looks c.args.self.now.few;
    }
