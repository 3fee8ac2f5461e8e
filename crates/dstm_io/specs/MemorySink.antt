-- A sink in memory, and what its writes leave.
use Rattle.std.specs.Prelude.{◌≡◌, ◌⊎◌, ℕ, ◌-◌, ◌<◌, max, List, [], ◌++◌, length, take, Contains, IsPermutation}
use Rattle.dstm_io.specs.Count.{next_count}

-- the bytes taken, for how many more there is room, the numbers of the calls that are to fail, how many
-- calls were made, and how many failed
pub record SinkState : Type 0 where
  pub taken : List ℕ
  pub room : ℕ
  pub fail_at : List ℕ
  pub calls : ℕ
  pub faults : ℕ

-- a sink that has taken nothing and has no room. The order of the numbers does not matter.
pub record IsNewSink (numbers : List ℕ) (sink : SinkState) : Type 0 where
  pub taken : sink.taken ≡ []
  pub room : sink.room ≡ 0
  pub fail_at : IsPermutation numbers sink.fail_at
  pub calls : sink.calls ≡ 0
  pub faults : sink.faults ≡ 0

-- room for so many bytes, or for what it had where that was more
abbrev pub with_room : SinkState → ℕ → SinkState
with_room sink bytes = record sink { room = max sink.room bytes }

-- the next call is to fail, or it brings bytes and there is no room
abbrev pub FailsAt : SinkState → List ℕ → Type 0
FailsAt sink piece = Contains sink.fail_at sink.calls ⊎ ((sink.room ≡ 0) × (0 < length piece))

-- a call took this many bytes of its piece
abbrev pub state_after_write : SinkState → List ℕ → ℕ → SinkState
state_after_write sink piece count = record sink {
  taken = sink.taken ++ take count piece;
  room = sink.room - count;
  calls = next_count sink.calls;
}

abbrev pub state_after_failed_write : SinkState → SinkState
state_after_failed_write sink = record sink {
  calls = next_count sink.calls;
  faults = next_count sink.faults;
}
