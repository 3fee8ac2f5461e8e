use Rattle.std.proofs.Common.{rules, ◌≡◌, ℕ, ◌+◌, ◌-◌, ◌<◌, ◌++◌, List, [], ◌∷◌, length, Ok, slice_set, ap, ◌∙◌}
use Rattle.std.proofs.Math.Seq.{set-append_seam}
use Rattle.std.proofs.lemmas.Bool.{lt-ltb}
use Rattle.dstm_workload.specs.declared.{known.Known.Known, workload.Job.Job}
use Rattle.dstm_workload.specs.Known.{kept_where}
use Rattle.dstm_workload.specs.Fields.{number_at}
use Rattle.dstm_workload.specs.Operations.{ops_at}
use Rattle.dstm_workload.specs.Entries.{worker_count, transaction_at}
use Rattle.dstm_workload.proofs.entry.transaction.Goals as goal

-- a job that was read is kept behind the others
kept_last : (version line : ℕ) (known : Known) (fields rest : List (List ℕ)) (worker : ℕ) (job : Job)
    (jobs all : List Job) → known.transactions < 20000 →
    number_at 0 (worker_count known - 1) fields ≡ Ok (worker, rest) → ops_at version known rest ≡ Ok job.ops →
    job ≡ record { line = line; worker = worker; ops = job.ops } → all ≡ jobs ++ job ∷ [] →
    kept_where known jobs (transaction_at version known line fields)
    ≡ Ok (record known { transactions = known.transactions + 1 }, all)
unfolding transaction_at
kept_last version line known fields rest worker job jobs all room number ops is last =
    let behind : all ≡ jobs ++ record { line = line; worker = worker; ops = job.ops } ∷ [] =
    last ∙ ap (λ (j : Job). jobs ++ j ∷ []) is in
    rw (lt-ltb known.transactions 20000 room, number, ops, behind)

pub returns : goal.returns
returns c =
    let known = c.args.known.now in
    let jobs = c.args.jobs.now.items in
    let job = c.fill.new.job in
    let at : c.len-last.result ≡ length jobs = search rules in
    let put : slice_set c.push_reserved.new.self.items c.len-last.result job ≡ jobs ++ job ∷ [] =
    rw (c.push_reserved.ensures.items, at) (set-append_seam jobs c.blank.result [] job) in
    let most : c.from.result ≡ worker_count known - 1 = search rules in
    let number = rw most at c.in_ok-worker.ensures.read in
    kept_last c.args.version c.args.line known c.args.fields.now c.number.new.fields c.in_ok-worker.worker job jobs
    (slice_set c.push_reserved.new.self.items c.len-last.result job) c.if-known-ge-MAX_JOBS.false number
    c.in_ok-fill.ensures.read c.in_ok-fill.ensures.place put
