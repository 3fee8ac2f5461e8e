use Rattle.std.proofs.Common.{◌≡◌, ℕ, ◌<◌, List, IsTrue, sum, take}
use Rattle.std.specs.Prelude.{IsSome}
use Rattle.dstm_model.specs.declared.value.Val.{Val}
use Rattle.dstm_model.specs.Store.{Store}
use Rattle.dstm_model.specs.Objects.{IsBank}
use Rattle.dstm_mem.specs.Memory.{with_set}
use Rattle.dstm_mem.specs.Operations.{OnlyReads}
use Rattle.dstm_mem.specs.Operates.{IsUntouched}
use Rattle.dstm_bank.proofs.total.Given as goal

abbrev pub invariant-loop-account : goal.invariant-loop-account
invariant-loop-account g l =
    let M = g.M.Mem in
    record {
      live : IsTrue (M.is_live l.mem);
      place : M.place l.mem ≡ M.place l.fn.mem;
      objects : M.objects l.mem ≡ M.objects l.fn.mem;
      narrows : (map : List Val) → M.Admits l.mem map → M.Admits l.fn.mem map;
      admits : 0 < l.account → (map : List Val) × M.Admits l.mem map;
      audits : (a : ℕ) → a < l.account → IsSome (M.held l.mem a);
      holds : (p : ℕ) → IsSome (M.held l.fn.mem p) → M.held l.mem p ≡ M.held l.fn.mem p;
      looks : OnlyReads M l.fn.mem l.mem;
      outside : (p : ℕ) → ¬ (p < l.layout.accounts) → IsUntouched M p l.fn.mem l.mem;
      sums : (map : List Val) → M.Admits l.mem map →
          (store : Store) → IsBank l.layout (with_set map (M.written l.fn.mem)) store →
          l.sum ≡ sum (take l.account store.balances);
    }
