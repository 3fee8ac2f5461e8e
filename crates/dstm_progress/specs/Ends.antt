-- What begins and ends an attempt, and what stands of it.
use Rattle.std.specs.Prelude.{◌≡◌, ◌≢◌, ℕ, ◌+◌, Bool, true, false, List, ◌++◌, if◌then◌else◌}
use Rattle.dstm_core.specs.Events.{Event}
use Rattle.dstm_core.specs.declared.shape.Shape.{Shape}
use Rattle.dstm_core.specs.declared.state.Phase.TheVariants.{Outside, Running}
use Rattle.dstm_core.specs.declared.status.Status.TheVariants as status
use Rattle.dstm_core.specs.Runs.{Core, local}
use Rattle.dstm_core.specs.State.{LocalState, own_attempt}
use Rattle.dstm_core.specs.Traces.{events_of, word}
use Rattle.dstm_core.specs.Words.{code_of}
use Rattle.dstm_core.specs.Words.Word.{StatusWord}
use Rattle.dstm_order.specs.Calls.{IsCall}
use Rattle.dstm_order.specs.Order.{is_spent}
use Rattle.dstm_order.specs.Tasks.{Task}
use Rattle.rand_pcg.specs.Lcg.{Lcg}

-- the status of an attempt that has ended
abbrev pub ended_as : (committed : Bool) → ℕ
ended_as committed = if committed then code_of status.Committed else code_of status.Aborted

-- the status of the caller's last attempt is this one, and stays so in every later run
abbrev pub StaysAt : Shape → (run : List Event) → (c code : ℕ) → Type 0
StaysAt shape run c code =
    (later : List Event) → Core shape (later ++ run) →
    word shape (later ++ run) (StatusWord (own_attempt shape (local shape run c))) ≡ code

-- A CALL IN A RUN: since some log a caller has made these events, and they are those of a call.
pub record IsCallIn (task : Task) (shape : Shape) (c : ℕ) (generator : Lcg) (events before run : List Event) :
    Type 0 where
  pub core : Core shape run
  pub own : events_of c run ≡ events ++ events_of c before
  pub call : IsCall task shape (local shape before c) generator events

-- the attempt is under way, and no read of it was found stale
pub record IsCurrent (state : LocalState) : Type 0 where
  pub live : state.phase ≢ Outside
  pub agreed : state.stale ≡ false

-- an attempt was begun
pub record Begins (before after : LocalState) : Type 0 where
  pub begun : after.begun ≡ before.begun + 1
  pub phase : after.phase ≡ Running
  pub agreed : after.stale ≡ false

-- none was begun: the caller is spent
pub record BeginsNone (shape : Shape) (before after : LocalState) : Type 0 where
  pub begun : after.begun ≡ before.begun
  pub phase : after.phase ≡ Outside
  pub spent : is_spent shape after ≡ true
