use Rattle.std.proofs.Common.{◌≡◌, ◌≤◌, ℕ, List, length, option_copied}
use Rattle.std.specs.Prelude.{Ok, IfSome, Contains}
use Rattle.std.specs.List.{All, find}
use Rattle.dstm_model.specs.declared.value.Val.{Val}
use Rattle.dstm_model.specs.declared.op.Op.{Op}
use Rattle.dstm_model.specs.Store.{Store}
use Rattle.dstm_model.specs.Job.{branches_left, branches_of, is_open, open_branch}
use Rattle.dstm_model.specs.Layout.{FitsLayout}
use Rattle.dstm_mem.specs.Memory.{with_set}
use Rattle.dstm_mem.specs.Operates.{IsUntouched}
use Rattle.dstm_mem.specs.Operations.{Leads, OnlyReads}
use Rattle.dstm_store.specs.Whole.{StandsFor}
use Rattle.dstm_compose.specs.Compose.{IsAwaited, IsAwaitedFirst, up_to_open}
use Rattle.dstm_compose.proofs.Branches.{AreOf}
use Rattle.dstm_compose.proofs.branch.open_branch.Given as goal

-- the first open branch is among those left, in whatever store an admitted map stands for
abbrev pub invariant-loop-rest : goal.invariant-loop-rest
invariant-loop-rest g l =
    let M = g.M.Mem in
    record {
      leads : Leads M l.fn.mem l.mem (Ok l.rest);
      looks : OnlyReads M l.fn.mem l.mem;
      found : (map : List Val) → M.Admits l.mem map → (store : Store) →
          StandsFor l.layout (with_set map (M.written l.fn.mem)) store →
          find (is_open store) (branches_left (option_copied l.rest)) ≡ open_branch l.fn.ops store;
      fits : IfSome l.rest (λ ops. All (FitsLayout l.layout) ops.now);
      among : AreOf l.fn.ops l.rest;
      awaited : (o : ℕ) → ¬ (IsAwaited l.layout l.fn.ops o) → IsUntouched M o l.fn.mem l.mem;
      tried : (map : List Val) → M.Admits l.mem map → (store : Store) →
          StandsFor l.layout (with_set map (M.written l.fn.mem)) store → (branch : List Op) →
          Contains (up_to_open store (branches_left (option_copied l.rest))) branch →
          Contains (up_to_open store (branches_of l.fn.ops)) branch;
      first : (map : List Val) → M.Admits l.mem map → (store : Store) →
          StandsFor l.layout (with_set map (M.written l.fn.mem)) store → (o : ℕ) →
          ¬ (IsAwaitedFirst l.layout store (branches_of l.fn.ops) o) → IsUntouched M o l.fn.mem l.mem;
      short : IfSome l.rest (λ ops. length ops.now ≤ length l.fn.ops);
    }

abbrev pub decreases-loop-rest : goal.decreases-loop-rest
decreases-loop-rest g l = length (branches_left (option_copied l.rest))
