-- A source in memory, and what its reads leave.
use Rattle.std.specs.Prelude.{◌≡◌, ℕ, List, drop, IsPermutation}
use Rattle.dstm_io.specs.Count.{next_count}

-- the bytes left, the numbers of the calls that are to fail, how many calls were made, and how many of
-- them failed
pub record SourceState : Type 0 where
  pub left : List ℕ
  pub fail_at : List ℕ
  pub calls : ℕ
  pub faults : ℕ

-- a source of these bytes that no call has used. The order of the numbers does not matter.
pub record IsNewSource (bytes numbers : List ℕ) (source : SourceState) : Type 0 where
  pub left : source.left ≡ bytes
  pub fail_at : IsPermutation numbers source.fail_at
  pub calls : source.calls ≡ 0
  pub faults : source.faults ≡ 0

-- a call took this many bytes
abbrev pub state_after_read : SourceState → ℕ → SourceState
state_after_read source count = record source {
  left = drop count source.left;
  calls = next_count source.calls;
}

abbrev pub state_after_failed_read : SourceState → SourceState
state_after_failed_read source = record source {
  calls = next_count source.calls;
  faults = next_count source.faults;
}
