use Rattle.dstm_workload.proofs.RefusedLaws.{refuses, first_refuses, headless_refuses}
use Rattle.dstm_workload.proofs.reading.first_refusal.Goals as goal

pub returns-clause-first : goal.returns-clause-first
returns-clause-first c = refuses

pub returns-clause-refuses : goal.returns-clause-refuses
returns-clause-refuses c = first_refuses

pub returns-clause-headless : goal.returns-clause-headless
returns-clause-headless c = headless_refuses
