-- What an attempt has made of a job, as its own transaction tells.
use Rattle.std.specs.Prelude.{◌≡◌, ℕ, ◌≤◌, true, List, length, Option, None, All, IsSomeAnd, sum_by}
use Rattle.dstm_model.specs.declared.value.Val.{Val}
use Rattle.dstm_model.specs.declared.layout.Layout.{Layout}
use Rattle.dstm_model.specs.declared.op.Op.{Op}
use Rattle.dstm_model.specs.declared.reply.Reply.{Reply}
use Rattle.dstm_model.specs.Answers.{Committed}
use Rattle.dstm_model.specs.Job.{apply_job}
use Rattle.dstm_model.specs.Map.{Entry, Agrees, with_writes}
use Rattle.dstm_mem.specs.Memory.{value_in}
use Rattle.dstm_model.specs.Store.{Store}
use Rattle.dstm_store.specs.Keeps.{is_of_list, most_kept}
use Rattle.dstm_store.specs.Whole.{StandsFor}
use Rattle.dstm_compose.specs.Compose.{IsForeign}
use Rattle.dstm_workload.specs.declared.workload.Job.{Job}
use Rattle.dstm_jobs.specs.declared.trying.Finished.{Finished}

-- the transaction has read and written no object that is foreign to the job, which no operation and no condition of it
-- is about
abbrev pub StaysOut : Layout → List Op → Entry → Type 0
StaysOut layout ops entry =
    (o : ℕ) → IsForeign (record { layout = layout; ops = ops }) o →
    (value_in entry.reads o ≡ None) × (value_in entry.writes o ≡ None)

-- none of these values is of an object that is foreign to the job
abbrev pub AreOfJob : Layout → List Op → List (ℕ × Val) → Type 0
AreOfJob layout ops values = (o : ℕ) → IsForeign (record { layout = layout; ops = ops }) o → value_in values o ≡ None

-- On every lawful map on which the transaction could have run, the replies are the job's, and what the transaction
-- leaves stands for the store that the job leaves. It has to do with the job's objects alone.
pub record IsAnsweredBy (layout : Layout) (ops : List Op) (replies : List Reply) (entry : Entry) : Type 0 where
  pub answers :
      (map : List Val) (held : Store) → StandsFor layout map held → Agrees map entry.reads
      → IsSomeAnd (apply_job ops held) (λ outcome. (replies ≡ outcome.replies)
      × StandsFor layout (with_writes map entry.writes) outcome.store)
  pub inside : StaysOut layout ops entry

-- what was done of a job, and the transaction that did it
pub record IsDone (layout : Layout) (job : Job) (finished : Finished) (by : Committed) : Type 0 where
  pub number : finished.number ≡ by.number
  pub answered : IsAnsweredBy layout job.ops finished.replies by.entry

-- a transaction of a job of operations on the list has at most the reads that these keep, one by one
abbrev pub KeepsFew : Job → Committed → Type 0
KeepsFew job by = All (λ op. is_of_list op ≡ true) job.ops → length by.entry.reads ≤ sum_by most_kept job.ops

-- the job is blocked on every lawful map that has these values
abbrev pub IsBlockedWith : Layout → List (ℕ × Val) → Option Job → Type 0
IsBlockedWith layout values job =
    IsSomeAnd job (λ j. (map : List Val) (held : Store) → StandsFor layout map held → Agrees map values →
    apply_job j.ops held ≡ None)

-- there is a job, and none of these values is of an object that is foreign to it
abbrev pub AreOfSome : Layout → List (ℕ × Val) → Option Job → Type 0
AreOfSome layout values job = IsSomeAnd job (λ j. AreOfJob layout j.ops values)
