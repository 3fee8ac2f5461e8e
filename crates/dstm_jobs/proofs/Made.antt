-- What an attempt at a job leaves by DSTM, from the clauses of the engine's calls.
use Rattle.std.proofs.Common.{◌≡◌, ◌∙◌, ◌≤◌, ◌∷◌, ℕ, Bool, List, true, false, length, refl, sym, ap, subst, arith}
use Rattle.std.specs.Prelude.{not, sum_by}
use Rattle.dstm_model.specs.Objects.{objects_of}
use Rattle.dstm_words.specs.Seats.{Home}
use Rattle.dstm_opacity.specs.Committed.{Committed}
use Rattle.dstm_engine.specs.Attempts.{ReadsAtMost, done}
use Rattle.dstm_engine.specs.Callers.{Called, law_of, shape_of}
use Rattle.dstm_store.specs.declared.law.StoreLaw.{StoreLaw}
use Rattle.dstm_store.specs.declared.job.JobTask.{JobTask}
use Rattle.dstm_store.specs.Job.{KeepsAtMost}
use Rattle.dstm_store.specs.Keeps.{most_kept}
use Rattle.dstm_workload.specs.declared.workload.Job.{Job}
use Rattle.dstm_jobs.specs.declared.style.Style.TheVariants.{Loose}
use Rattle.dstm_tables.specs.declared.tables.Caller.TheVariants.{Dstm}
use Rattle.dstm_jobs.specs.Tables.{AtRest}
use Rattle.dstm_jobs.proofs.Doing.{FewReads}

-- a table of the store's law has the objects of its layout
pub objects_are : (k : Called StoreLaw) → AtRest (Dstm k) → (shape_of k).objects ≡ objects_of (law_of k).layout
objects_are k rest = sym rest.run.run.values ∙ rest.run.lawful.1.objects

-- ---- by a body that lets reads go

-- what the newest transaction reads at most
newest_reads : (most : ℕ) (n : Called StoreLaw) (by : Committed) (before : List Committed) → ReadsAtMost most n →
    done n ≡ by ∷ before → length by.entry.reads ≤ most
newest_reads most n by before reads is =
    let same : by ≡ reads.last = let newest = reads.done in cc in
    subst (λ (c : Committed). length c.entry.reads ≤ most) (sym same) reads.few

not_true : (b : Bool) → not b ≡ true → b ≡ false
not_true true q = absurd (cc)
not_true false q = refl

pub few_loose : (job : Job) (k n : Called StoreLaw) (task : JobTask) → n.home ≡ k.home → task.ops ≡ job.ops →
    ((shape_of k).all_write ≡ false → (most : ℕ) → KeepsAtMost task most → ReadsAtMost most n) →
    FewReads Loose job (Dstm k) (Dstm n)
few_loose job k n task home ops reads loose lets by newest all =
    let stays = ap (λ (h : Home StoreLaw). h.terms.shape.all_write) (sym home) ∙ not_true (shape_of n).all_write lets in
    let most = sum_by most_kept job.ops in
    let fits : sum_by most_kept task.ops ≤ most = let kept = ap (sum_by most_kept) ops in omega arith in
    let ours = rw (← ops) at all in
    newest_reads most n by (done k) (reads stays most (ours, fits)) newest
