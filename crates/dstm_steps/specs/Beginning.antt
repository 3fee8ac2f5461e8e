-- What a caller needs to begin an attempt.
use Rattle.std.specs.Prelude.{◌≡◌, ℕ, ◌<◌, ◌&&◌, Bool, true, false, not, is_some, List, None}
use Rattle.dstm_core.specs.declared.shape.Manager.TheVariants.{Greedy}
use Rattle.dstm_core.specs.declared.shape.Shape.{Shape}
use Rattle.dstm_core.specs.declared.state.Phase.TheVariants.{Outside}
use Rattle.dstm_core.specs.Rules.{begin}
use Rattle.dstm_core.specs.State.{LocalState, next_attempt}
use Rattle.dstm_model.specs.declared.value.Val.{Val}
use Rattle.dstm_order.specs.Order.{is_spent}
use Rattle.dstm_order.specs.Order.Due.{Done}
use Rattle.dstm_order.specs.Tasks.Task.{Beginning}
use Rattle.dstm_words.specs.Seats.{Home}
use Rattle.dstm_steps.specs.declared.steps.Steps.{Steps}
use Rattle.dstm_steps.specs.Under.{Began, InTask, now}

-- its last attempt has ended, it is not spent, and this is its first unused attempt
pub record CanBegin (shape : Shape) (state : LocalState) (next : ℕ) : Type 0 where
  pub outside : state.phase ≡ Outside
  pub number : is_some state.number ≡ true
  pub unspent : is_spent shape state ≡ false
  pub unused : state.begun < shape.attempts
  pub next_is : next_attempt shape state ≡ next

-- its rank is kept only in a transaction that has not committed, and under Greedy it is a stamp that stands, unless
-- one is still to be drawn
pub record KeepsRank (shape : Shape) (fresh : Bool) (state : LocalState) : Type 0 where
  pub uncommitted : fresh ≡ false → state.committed ≡ false
  pub stands_now : shape.manager ≡ Greedy → (fresh && not state.stamped) ≡ false → state.stands ≡ true

-- its attempt was begun
pub record HasBegun {L : Type 0} (holds : L → List Val → Type 0) (home : Home L) (began : Began) (fresh : Bool)
    (old new : Steps L) (next : ℕ) : Type 0 where
  pub state : now home new ≡ begin (record (now home old) { rank = new.rank; stands = (now home new).stands })
  pub under : InTask holds home (Beginning fresh) began new Done None
  pub own : new.own ≡ next
