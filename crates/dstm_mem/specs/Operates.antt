-- What an operation on a memory has done. M has the meanings of the memory's kind.
use Rattle.std.specs.Prelude.{◌≡◌, ◌≢◌, ℕ, List, Result, OnOk, IfOk}
use Rattle.dstm_model.specs.declared.value.Val.{Val}
use Rattle.dstm_model.specs.declared.op.Op.{Op}
use Rattle.dstm_model.specs.declared.op.Op.TheVariants.{Transfer, Balance, Total, Insert, Remove, Member}
use Rattle.dstm_model.specs.declared.op.Op.TheVariants.{Put, Get, Await, OrElse}
use Rattle.dstm_model.specs.declared.reply.Reply.{Reply}
use Rattle.dstm_model.specs.declared.reply.Reply.TheVariants as reply
use Rattle.dstm_model.specs.Store.{Store}
use Rattle.dstm_model.specs.Objects.{Does}
use Rattle.dstm_mem.specs.declared.memory.Mem.{Ghosts}
use Rattle.dstm_mem.specs.Memory.{with_set}
pub use Rattle.dstm_mem.specs.Operations.{IsReady}
use Rattle.dstm_mem.specs.Operations.{Leads, OnlyReads, OpensToSet}

-- object o is set, held and opened for writing as before
pub record IsUntouched {S E : Type 0} (M : Ghosts S E) (o : ℕ) (old new : S) : Type 0 where
  pub written : M.written new o ≡ M.written old o
  pub held : M.held new o ≡ M.held old o
  pub opened : M.is_opened new o ≡ M.is_opened old o

-- The operation leads from the old state of a memory to the new one, touches only objects inside this part of them,
-- and does the same in every map that is admitted then. With a quiet answer it only read; where its answer says that
-- it sets all, it has set whatever it newly opened for writing.
pub record Operates {S E A : Type 0} (M : Ghosts S E) (Inside : ℕ → Type 0) (IsQuiet SetsAll : A → Type 0)
    (Effect : A → List Val → List Val → Type 0) (old new : S) (result : Result A E) : Type 0 where
  pub leads : Leads M old new result
  pub outside : OnOk result ((o : ℕ) → ¬ Inside o → IsUntouched M o old new)
  pub marks : IfOk result (λ a. SetsAll a → OpensToSet M old new)
  pub quiet : IfOk result (λ a. IsQuiet a → OnlyReads M old new)
  pub does : IfOk result (λ a. (map : List Val) → M.Admits new map →
      Effect a (with_set map (M.written old)) (with_set map (M.written new)))

-- an operation with this reply leaves every value as it was, and sets none
abbrev pub IsLook : Op → Reply → Type 0
IsLook (Transfer source target amount) r = source ≡ target
IsLook (Balance account) r = Unit {0}
IsLook Total r = Unit {0}
IsLook (Insert which key) r = r ≢ reply.Yes
IsLook (Remove which key) r = r ≢ reply.Yes
IsLook (Member which key) r = Unit {0}
IsLook (Put key value) r = r ≡ reply.Full
IsLook (Get key) r = Unit {0}
IsLook (Await condition) r = ⊥
IsLook OrElse r = ⊥

-- an operation with this reply sets whatever it newly opens for writing: only a source that is too poor stays unset
abbrev pub SetsAll : Op → Reply → Type 0
SetsAll (Transfer source target amount) r = r ≢ reply.Poor
SetsAll op r = Unit {0}

-- The operation is applied to what the objects inside this part stand for: the reply and the new values are those of
-- the plain store.
abbrev pub Applies : {S E : Type 0} → Ghosts S E → (ℕ → Type 0) → (List Val → Store → Type 0) → Op → S → S →
    Result Reply E → Type 0
Applies M Inside StandsFor op old new result =
    Operates M Inside (IsLook op) (SetsAll op) (λ reply before after. Does StandsFor op before after reply)
    old new result
