-- What tells a read from what is none.
use Rattle.std.proofs.Common.{◌≡◌, ℕ, IsTrue, true, false, subst}
use Rattle.std.specs.Prelude.{Option, Some, None, Bool, is_some, ◌&&◌, not}
use Rattle.dstm_model.specs.declared.value.Val.{Val}
use Rattle.dstm_mem.specs.declared.memory.Mem.{Ghosts}
use Rattle.dstm_list.specs.Reads.{IsRead}

module _ {S E : Type 0} (M : Ghosts S E) where
  pub read-same : {old new : S} (p : ℕ) → M.held new p ≡ M.held old p → M.is_opened new p ≡ M.is_opened old p →
      IsRead M new p → IsRead M old p
  read-same {old} {new} p held opened read =
      subst (λ (b : Bool). IsTrue (is_some (M.held old p) && not b)) opened
      (subst (λ (h : Option Val). IsTrue (is_some h && not (M.is_opened new p))) held read)

  opened_is : (held : Option Val) (opened : Bool) → IsTrue opened → ¬ IsTrue (is_some held && not opened)
  opened_is None true is read = absurd (cc read)
  opened_is (Some v) true is read = absurd (cc read)
  opened_is held false is read = absurd (cc is)

  pub unread-opened : {memory : S} (p : ℕ) → IsTrue (M.is_opened memory p) → ¬ IsRead M memory p
  unread-opened {memory} p opened = opened_is (M.held memory p) (M.is_opened memory p) opened
