use Rattle.std.proofs.Common.{◌≡◌, ℕ, ◌<◌, List, length, take, true, false}
use Rattle.std.specs.Prelude.{Ok, IsSome, Contains, All, sum_by}
use Rattle.dstm_model.specs.declared.op.Op.TheVariants.{Total}
use Rattle.dstm_model.specs.declared.value.Val.{Val}
use Rattle.dstm_mem.specs.Memory.{with_set}
use Rattle.dstm_mem.specs.Operates.{IsUntouched}
use Rattle.dstm_mem.specs.Operations.{Leads}
use Rattle.dstm_store.specs.Whole.{IsLawful}
use Rattle.dstm_store.specs.Job.{DoesAll, IsForeign}
use Rattle.dstm_store.specs.Keeps.{is_of_list, most_kept, TouchesAtMost}
use Rattle.dstm_store.specs.Opens.{OnlyLooksAt, SetsIfOpened, IsOnlyRead, IsOpenedToSet}
use Rattle.dstm_store.proofs.Jobs.{up_to}
use Rattle.dstm_store.proofs.job.run_all.Given as goal

-- the replies so far are those of the operations so far, on each map that is still admitted
abbrev pub invariant-loop-op : goal.invariant-loop-op
invariant-loop-op g l = record {
  count : length l.replies ≡ l.op-index;
  leads : Leads g.M.Mem l.fn.mem l.mem (Ok l.replies);
  lawful : (map : List Val) → g.M.Mem.Admits l.mem map →
      IsLawful l.layout (with_set map (g.M.Mem.written l.mem));
  done : (map : List Val) → g.M.Mem.Admits l.mem map →
      DoesAll (up_to l.op-index (record { layout = l.layout; ops = l.ops })) (with_set map (g.M.Mem.written l.fn.mem))
      (with_set map (g.M.Mem.written l.mem)) l.replies;
  audits : Contains (take l.op-index l.ops) Total → (a : ℕ) → a < l.layout.accounts →
      IsSome (g.M.Mem.held l.mem a);
  few : g.L.ListWalk.lets_go ≡ true → g.M.Mem.all_write (g.M.Mem.place l.fn.mem) ≡ false →
      All (λ op. is_of_list op ≡ true) l.ops →
      TouchesAtMost (sum_by most_kept (take l.op-index l.ops)) g.M.Mem l.fn.mem l.mem;
  outside : (o : ℕ) → IsForeign (record { layout = l.layout; ops = l.ops }) o → IsUntouched g.M.Mem o l.fn.mem l.mem;
  quiet : (o : ℕ) → OnlyLooksAt (up_to l.op-index (record { layout = l.layout; ops = l.ops })) l.replies o →
      IsOnlyRead g.M.Mem o l.fn.mem l.mem;
  marks : (o : ℕ) → SetsIfOpened (up_to l.op-index (record { layout = l.layout; ops = l.ops })) l.replies o →
      IsOpenedToSet g.M.Mem o l.fn.mem l.mem;
}
