-- What a look of a transaction finds. Before the first one it lets go of what it has set.
use Rattle.std.specs.Prelude.{◌≡◌, ◌≢◌, ◌⊎◌, Bool, false, true, List}
use Rattle.dstm_model.specs.declared.value.Val.{Val}
use Rattle.dstm_model.specs.declared.value.AnyLaw.{AnyLaw}
use Rattle.dstm_tables.specs.declared.tables.Caller.{Caller}
use Rattle.dstm_attempts.specs.Attempts.{AddsNothing, BeginsNone, LooksChanged, LooksOnce, LooksSame, LooksSpent}
use Rattle.dstm_attempts.specs.Waiting.{IsSpentLettingGo, LetsGo}
use Rattle.dstm_attempts.specs.Waiting as attempts
use Rattle.dstm_handles.specs.Threads.{caller_of}
use Rattle.dstm_handles.specs.declared.code.Code.{Code}
use Rattle.dstm_handles.specs.declared.code.Code.TheVariants.{Again, Done, Idle, Memory, Spent}
use Rattle.dstm_handles.specs.declared.thread.Thread.{Thread}

-- every map is lawful
abbrev any : AnyLaw → List Val → Type 0
any law map = Unit {0}

-- before the first look the attempt lets go of what it has set; before a later one nothing is done
abbrev pub LetsGoBefore : (waits : Bool) → Caller AnyLaw → Caller AnyLaw → Type 0
LetsGoBefore false old new = LetsGo any old new
LetsGoBefore true old new = new ≡ old

-- or it does not: something had changed; or no attempt, or no memory, was left for it
abbrev pub FindsChangeBefore : (waits : Bool) → Caller AnyLaw → Caller AnyLaw → Type 0
FindsChangeBefore false old new = attempts.FindsChange any old new
FindsChangeBefore true old new = ⊥

abbrev pub IsSpentBefore : (waits : Bool) → Caller AnyLaw → Caller AnyLaw → Type 0
IsSpentBefore false old new = IsSpentLettingGo old new × BeginsNone any old new
IsSpentBefore true old new = ⊥

abbrev pub HasNoRoomBefore : (waits : Bool) → Caller AnyLaw → Caller AnyLaw → Type 0
HasNoRoomBefore false old new = attempts.HasNoRoom old new
HasNoRoomBefore true old new = ⊥

-- a look has found nothing changed
pub record FindsNoChange (old new : Thread) : Type 0 where
  pub first : Caller AnyLaw
  pub lets_go : LetsGoBefore old.waits (caller_of old) first
  pub looks : LooksSame old.since first (caller_of new)
  pub once : LooksOnce any first (caller_of new)

-- a look has found a change
pub record LooksOnChanged (old new : Thread) : Type 0 where
  pub first : Caller AnyLaw
  pub lets_go : LetsGoBefore old.waits (caller_of old) first
  pub looks : LooksChanged any old.since first (caller_of new)
  pub once : LooksOnce any first (caller_of new)

abbrev pub FindsChange : Thread → Thread → Type 0
FindsChange old new = FindsChangeBefore old.waits (caller_of old) (caller_of new) ⊎ LooksOnChanged old new

-- no attempt was left to look
pub record LooksOnSpent (old new : Thread) : Type 0 where
  pub first : Caller AnyLaw
  pub lets_go : LetsGoBefore old.waits (caller_of old) first
  pub looks : LooksSpent first (caller_of new)
  pub unbegun : BeginsNone any first (caller_of new)

abbrev pub IsSpentLooking : Thread → Thread → Type 0
IsSpentLooking old new = IsSpentBefore old.waits (caller_of old) (caller_of new) ⊎ LooksOnSpent old new

-- no memory was left to let go
abbrev pub HasNoRoom : Thread → Thread → Type 0
HasNoRoom old new = HasNoRoomBefore old.waits (caller_of old) (caller_of new)

-- WHAT A LOOK ANSWERS, and what it leaves
pub record Looks (old new : Thread) (code : Code) : Type 0 where
  pub same : code ≡ Done → FindsNoChange old new
  pub changed : code ≡ Again → FindsChange old new
  pub spent : code ≡ Spent → IsSpentLooking old new
  pub memory : code ≡ Memory → HasNoRoom old new
  pub waits : code ≢ Idle → new.waits ≡ true
  pub since : new.since ≡ old.since
  pub idle : old.begun ≡ false → code ≡ Idle
  pub still : old.begun ≡ false → new ≡ old
  pub tells : old.begun ≡ true → (code ≡ Done) ⊎ (code ≡ Again) ⊎ (code ≡ Spent) ⊎ (code ≡ Memory)
  pub begun : code ≢ Spent → new.begun ≡ old.begun
  pub over : code ≡ Spent → new.begun ≡ false
  pub nothing : AddsNothing (caller_of old) (caller_of new)
