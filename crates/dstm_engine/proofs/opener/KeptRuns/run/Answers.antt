use Rattle.std.proofs.lemmas.Result.{on_ok_weaker}
use Rattle.dstm_engine.proofs.opener.KeptRuns.run.Goals as goal

pub returns-clause-few : goal.returns-clause-few
returns-clause-few g c = on_ok_weaker c.run.result (λ _ _ _ never. absurd never) c.run.ensures.leads.live
