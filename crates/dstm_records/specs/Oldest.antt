-- An attempt under DSTM that began as the oldest, as a record tells of it.
use Rattle.std.specs.Prelude.{◌≡◌, ◌≢◌, ℕ, List, ◌∷◌, ◌++◌}
use Rattle.dstm_core.specs.Events.{Event}
use Rattle.dstm_core.specs.Runs.{local}
use Rattle.dstm_core.specs.declared.event.Kind.TheVariants.{Begin}
use Rattle.dstm_core.specs.declared.shape.Shape.{Shape}
use Rattle.dstm_core.specs.declared.state.Phase.TheVariants.{Outside}
use Rattle.dstm_progress.specs.Oldest.{IsOldest}

-- A caller's attempt began while its transaction was the oldest live one; and a moment of the log at which this attempt is
-- under way.
pub record WasOldest (shape : Shape) (log : List Event) (c : ℕ) : Type 0 where
  pub begin : Event
  pub before : List Event
  pub begins : begin.kind ≡ Begin
  pub caller : begin.caller ≡ c
  pub oldest : IsOldest shape (begin ∷ before) c
  pub since : List Event
  pub later : List Event
  pub log_is : log ≡ later ++ (since ++ begin ∷ before)
  pub same : (local shape (since ++ begin ∷ before) c).begun ≡ (local shape (begin ∷ before) c).begun
  pub under_way : (local shape (since ++ begin ∷ before) c).phase ≢ Outside
