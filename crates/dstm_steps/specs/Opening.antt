-- What an open leaves.
use Rattle.std.specs.Prelude.{◌≡◌, ℕ, ◌+◌, min, false, None, if◌then◌else◌}
use Rattle.dstm_core.specs.declared.shape.Manager.{Manager}
use Rattle.dstm_core.specs.declared.shape.Shape.{Shape}
use Rattle.dstm_core.specs.declared.shape.TheConstants.{MAX_RANK}
use Rattle.dstm_core.specs.Rules.{install}
use Rattle.dstm_core.specs.State.{LocalState, res}
use Rattle.dstm_order.specs.Order.{rises}
use Rattle.dstm_steps.specs.declared.resolving.Found.{Found}
use Rattle.dstm_steps.specs.Finding.{IsFound}

-- the state after the rank was raised by one, under a manager where ranks rise
abbrev pub risen : Manager → LocalState → LocalState
risen manager state =
    if rises manager
    then record state {
      rank = min (state.rank + 1) MAX_RANK;
      ranked = false;
      owed = false;
      pass = None;
      checked = 0;
    }
    else state

-- the attempt is as it was, but for what was found out of an object, and for what the next locator holds
abbrev pub HeldApart : (old new : LocalState) → Type 0
HeldApart old new = new ≡ record old {
  resolution = new.resolution;
  pass = new.pass;
  checked = new.checked;
  held_owner = new.held_owner;
  held_old = new.held_old;
}

-- The attempt has installed its next locator in the object, for which this was found: it has joined the writes, and a
-- read of it was dropped.
pub record Acquired (shape : Shape) (object : ℕ) (old new : LocalState) (found : Found) : Type 0 where
  pub before : LocalState
  pub apart : HeldApart old before
  pub object_is : (res before).object ≡ object
  pub found_is : IsFound before found
  pub installed : new ≡ install shape before
