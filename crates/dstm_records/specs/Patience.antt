-- When an attempt under DSTM aborts another one.
use Rattle.std.specs.Prelude.{◌≡◌, ℕ, ◌+◌, true, List, [], ◌∷◌, ◌++◌}
use Rattle.rand_pcg.specs.Lcg.{Lcg}
use Rattle.dstm_core.specs.Events.{Event}
use Rattle.dstm_core.specs.State.{LocalState, first, or_zero, res}
use Rattle.dstm_core.specs.declared.event.Kind.{Kind}
use Rattle.dstm_core.specs.declared.event.Kind.TheVariants.{LookObj, LookStatus}
use Rattle.dstm_core.specs.declared.shape.Manager.{Manager}
use Rattle.dstm_core.specs.declared.shape.Shape.{Shape}
use Rattle.dstm_managers.specs.Choices.{kills}
use Rattle.dstm_managers.specs.declared.decider.Choice.TheVariants as decision
use Rattle.dstm_order.specs.Calls.{Obeys, effort_of, state_after}
use Rattle.dstm_order.specs.Efforts.{chosen, status_of}
use Rattle.dstm_order.specs.Made.{AreMade, Call, events_in, generator_by, state_by}
use Rattle.dstm_order.specs.Retries.{TriesAgain}
use Rattle.dstm_order.specs.Tasks.{Work}
use Rattle.dstm_order.specs.Tasks.Task.{Doing}

-- ---- how often an enemy was looked at

abbrev pub looks_after : Kind → (looks : ℕ) → ℕ
looks_after LookObj looks = 0
looks_after LookStatus looks = looks + 1
looks_after kind looks = looks

-- how often a caller's own events, the newest first, have looked at an enemy's status since they looked at the object
abbrev pub looks_at_enemy : List Event → ℕ
looks_at_enemy [] = 0
looks_at_enemy (event ∷ events) = looks_after event.kind (looks_at_enemy events)

-- after so many rounds of waiting the manager aborts the enemy that was found
abbrev pub WantsKill : Manager → LocalState → (rounds : ℕ) → Type 0
WantsKill manager state rounds =
    kills manager state.rank (or_zero (res state).rank) (status_of (or_zero (res state).status)) rounds ≡ true

-- ---- a Kill

-- Behind these own events a caller's Kill is its manager's choice: asked about the enemy, in a call on the attempt, after
-- the rounds that this call has waited. So the enemy was looked at at least as often.
pub record WasChosen (shape : Shape) (generator : Lcg) (own : List Event) : Type 0 where
  pub earlier : List Call
  pub work : Work
  pub events : List Event
  pub are : own ≡ events ++ events_in earlier
  pub made : AreMade shape first generator TriesAgain earlier
  pub obeys :
      Obeys (Doing work) shape (state_by shape first generator earlier) (generator_by shape first generator earlier) events
  pub chosen :
      chosen shape.manager (state_after shape first own)
      (effort_of shape (state_by shape first generator earlier) (generator_by shape first generator earlier) events)
      ≡ decision.Kill
  pub waited : WantsKill shape.manager (state_after shape first own) (looks_at_enemy own)
