-- A caller as the code keeps it: with the shape of its table.
use Rattle.std.specs.Prelude.{Bool, if◌then◌else◌}
use Rattle.dstm_core.specs.Events.{Event}
use Rattle.dstm_core.specs.declared.event.Kind.{Kind}
use Rattle.dstm_core.specs.declared.shape.Shape.{Shape}
use Rattle.dstm_core.specs.Rules.{after, AllowedAs}
use Rattle.dstm_core.specs.State.{LocalState}

-- a caller of a table of this shape
pub record Tracked : Type 0 where
  pub shape : Shape
  pub state : LocalState

-- the rules allow the caller this event
abbrev pub Allows : Kind → Tracked → Event → Type 0
Allows kind caller event = AllowedAs kind caller.shape caller.state event

-- the caller after the event
abbrev pub caller_after : Kind → Tracked → Event → Tracked
caller_after kind caller event = record {
  shape = caller.shape;
  state = after kind caller.shape caller.state event;
}

-- the caller after the event if it is allowed, and else as it was
abbrev pub next_caller : Bool → Kind → Tracked → Event → Tracked
next_caller allowed kind caller event = if allowed then caller_after kind caller event else caller
