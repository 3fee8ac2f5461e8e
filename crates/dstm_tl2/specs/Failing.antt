-- Lock words, and the events that find one changed.
use Rattle.std.specs.Prelude.{ℕ, ◌*◌, ◌%◌, ◌==◌, ◌&&◌, nat_le, Bool, false, not}
use Rattle.dstm_tl2.specs.declared.kind.Kind.{Kind}
use Rattle.dstm_tl2.specs.declared.kind.Kind.TheVariants.{LookLock, LookAgain, Lock, Check}
use Rattle.dstm_tl2.specs.Rules.{Event}
use Rattle.dstm_tl2.specs.State.{LocalState, look_of, next_check}

-- the word is of an object that is locked
abbrev pub is_locked : ℕ → Bool
is_locked word = word % 2 == 1

-- it is of an object that is free, and its version is at most the sample
abbrev pub is_readable : ℕ → ℕ → Bool
is_readable sample word = not (is_locked word) && nat_le word (2 * sample)

-- the event ends its attempt by what it found, in the state before it
abbrev pub fails : Kind → LocalState → Event → Bool
fails LookLock state event = not (is_readable state.sample event.found)
fails LookAgain state event = not (event.found == (look_of state).word)
fails (Lock writes) state event = not (event.found == event.expected)
fails Check state event = not (event.found == (next_check state).word)
fails kind state event = false
