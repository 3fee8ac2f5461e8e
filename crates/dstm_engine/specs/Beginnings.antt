-- Private: the last attempt before the next one begins.
use Rattle.std.specs.Prelude.{Bool, true, false}
use Rattle.dstm_core.specs.Rules.{leave}
use Rattle.dstm_core.specs.State.{LocalState}

-- it was quit, where it was live
abbrev pub ended : (live : Bool) → LocalState → LocalState
ended true state = leave state
ended false state = state
