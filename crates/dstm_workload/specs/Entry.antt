-- What one line of a workload tells.
use Rattle.std.specs.Prelude.{ℕ}
use Rattle.dstm_workload.specs.declared.known.Bank.{Bank as TheBank}
use Rattle.dstm_workload.specs.declared.workload.Job.{Job}

pub data Entry : Type 0 where
  Version : (version : ℕ) → Entry
  Workers : (count : ℕ) → Entry
  Bank : (bank : TheBank) → Entry
  List : (nodes : ℕ) → Entry
  Tree : (nodes : ℕ) → Entry
  Transaction : (job : Job) → Entry
