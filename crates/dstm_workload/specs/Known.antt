-- What is known line by line: the reader's running state.
use Rattle.std.specs.Prelude.{◌+◌, ◌≤◌, List, [], ◌∷◌, ◌++◌, Option, Some, None, Result, Ok, Err, IfSome, unwrap_or}
use Rattle.dstm_model.specs.declared.layout.Layout.{Layout}
use Rattle.dstm_workload.specs.declared.workload.Job.{Job}
use Rattle.dstm_workload.specs.declared.known.Known.{Known}
use Rattle.dstm_workload.specs.declared.refused.Why.{Why}
use Rattle.dstm_workload.specs.Entry.{Entry}
use Rattle.dstm_workload.specs.Entry as entry

abbrev pub nothing_known : Known
nothing_known =
    record { version = None; workers = None; bank = None; list = None; tree = None; transactions = 0 }

abbrev pub with_entry : Known → Entry → Known
with_entry known (entry.Version version) = record known { version = Some version }
with_entry known (entry.Workers n) = record known { workers = Some n }
with_entry known (entry.Bank bank) = record known { bank = Some bank }
with_entry known (entry.List n) = record known { list = Some n }
with_entry known (entry.Tree n) = record known { tree = Some n }
with_entry known (entry.Transaction job) = record known { transactions = known.transactions + 1 }

-- what is declared is in its range
pub record IsKnown (known : Known) : Type 0 where
  pub version : IfSome known.version (λ v. (1 ≤ v) × (v ≤ 3))
  pub workers : IfSome known.workers (λ n. (1 ≤ n) × (n ≤ 32))
  pub bank : IfSome known.bank
      (λ bank. (1 ≤ bank.accounts) × (bank.accounts ≤ 4096) × (bank.opening ≤ 1000000000))
  pub list : IfSome known.list (λ n. (1 ≤ n) × (n ≤ 1024))
  pub tree : IfSome known.tree (λ n. (1 ≤ n) × (n ≤ 65535))
  pub few : known.transactions ≤ 20000

-- sizes are 0 where nothing is declared
abbrev pub layout_of : Known → Layout
layout_of known =
    let bank = unwrap_or known.bank (record { accounts = 0; opening = 0 }) in
    record {
      accounts = bank.accounts;
      opening = bank.opening;
      list = unwrap_or known.list 0;
      tree = unwrap_or known.tree 0;
    }

abbrev pub jobs_in : Option Entry → List Job
jobs_in (Some (entry.Transaction job)) = job ∷ []
jobs_in other = []

-- what is known when a line has told this
abbrev pub known_with : Known → Option Entry → Known
known_with known None = known
known_with known (Some e) = with_entry known e

-- what is known with the jobs, when a line has told this
abbrev pub kept : Known → List Job → Entry → Known × List Job
kept known jobs (entry.Transaction job) = (with_entry known (entry.Transaction job), jobs ++ job ∷ [])
kept known jobs other = (with_entry known other, jobs)

-- what is known with the jobs, where a line tells this or is refused
abbrev pub kept_where : Known → List Job → Result Entry Why → Result (Known × List Job) Why
kept_where known jobs (Ok e) = Ok (kept known jobs e)
kept_where known jobs (Err why) = Err why

-- the same, where it may tell nothing
abbrev pub kept_if_told : Known → List Job → Result (Option Entry) Why → Result (Known × List Job) Why
kept_if_told known jobs (Ok None) = Ok (known, jobs)
kept_if_told known jobs (Ok (Some e)) = Ok (kept known jobs e)
kept_if_told known jobs (Err why) = Err why
