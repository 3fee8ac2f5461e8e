-- A body's run begins on a fresh memory, whose maps are lawful.
use Rattle.std.proofs.Common.{List, subst}
use Rattle.dstm_model.specs.declared.value.Val.{Val}
use Rattle.dstm_mem.specs.declared.memory.Mem.{Ghosts}
use Rattle.dstm_mem.specs.Memory.{with_set}
use Rattle.dstm_mem.specs.Operations.{IsFresh}
use Rattle.dstm_mem.proofs.WithSet.{with_set-nothing}

module _ {S E : Type 0} (M : Ghosts S E) where
  -- what holds of the map with what is set holds of the map
  pub of-fresh : (memory : S) (map : List Val) (P : List Val → Type 0) → IsFresh M memory →
      P (with_set map (M.written memory)) → P map
  of-fresh memory map P fresh holds = subst P (with_set-nothing map (M.written memory) fresh.unwritten) holds
