-- Histories, whatever the machine: the entries of the attempts that commit, in the order of the events that tell
-- them, which are their draws.
--
-- Traces, and what is gathered from them, have the newest first. Histories have the oldest entry first.
use Rattle.std.specs.List.{All}
use Rattle.std.specs.Prelude.{ℕ, Bool, List, [], ◌∷◌, if◌then◌else◌, reverse}
use Rattle.dstm_machines.specs.declared.event.Event.{Event}
use Rattle.dstm_model.specs.declared.value.Val.{Val}
use Rattle.dstm_model.specs.Answers.{Committed}
use Rattle.dstm_model.specs.Map.{Entry, IsEntry, IsLegal}

-- tells: the events that tell something, each by what stands before it; told: what they tell
module _ {K A : Type 0} (tells : Event K → List (Event K) → Bool) (told : Event K → List (Event K) → A) where
  -- what the events of a trace tell
  abbrev pub gathered : List (Event K) → List A
  gathered [] = []
  gathered (event ∷ before) =
      if tells event before then told event before ∷ gathered before else gathered before

-- commits: the draws of the attempts that commit; entry: what each of these has read and written
module _ {K : Type 0} (commits : Event K → List (Event K) → Bool) (entry : Event K → List (Event K) → Entry) where
  -- the history of a trace
  abbrev pub history_of : List (Event K) → List Entry
  history_of trace = reverse (gathered commits entry trace)

  -- the attempt that commits by a draw
  abbrev pub attempt_at : Event K → List (Event K) → Committed
  attempt_at draw before = record { caller = draw.caller; number = draw.found; entry = entry draw before }

  -- the attempts that commit, with the caller and the number of each
  abbrev pub committed : List (Event K) → List Committed
  committed trace = gathered commits attempt_at trace

-- A history over n objects is a run of one thread: each entry has read what those before it leave, and names an object
-- at most once among its reads, and at most once among its writes.
pub record IsSerial (n : ℕ) (start : List Val) (history : List Entry) : Type 0 where
  pub legal : IsLegal start history
  pub entries : All (IsEntry n) history
