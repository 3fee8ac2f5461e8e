-- Traces: what an event does to its word, and what the words hold after some events.
--
-- A trace is written with its newest event first, so that what stood before an event is the rest of the list.
use Rattle.std.specs.Prelude.{◌≡◌, ℕ, ◌+◌, ◌==◌, List, [], ◌∷◌, ◌++◌, Option, Some, None, if◌then◌else◌, filter}
use Rattle.dstm_machines.specs.declared.event.Event.{Event}

-- the ways to act on a word
pub data Access : Type 0 where
  Load : Access
  Store : (value : ℕ) → Access
  Exchange : (expected value : ℕ) → Access
  Add : Access

-- K: what events are for
module _ {K : Type 0} where
  -- the event acts on its word in this way
  abbrev pub Acts : Access → Event K → Type 0
  Acts Load event = (event.expected ≡ event.found) × (event.put ≡ event.found)
  Acts (Store value) event = (event.expected ≡ event.found) × (event.put ≡ value)
  Acts (Exchange expected value) event =
      (event.expected ≡ expected) × (event.put ≡ (if event.found == expected then value else event.found))
  Acts Add event = (event.expected ≡ event.found) × (event.put ≡ event.found + 1)

  -- what the word at a place holds: what the last event on it put, or what it held at first
  abbrev pub at : (ℕ → ℕ) → List (Event K) → ℕ → ℕ
  at initial [] p = initial p
  at initial (event ∷ before) p = if event.place == p then event.put else at initial before p

  -- each event of a trace is so, by what stands before it
  abbrev pub Each : (Event K → List (Event K) → Type 0) → List (Event K) → Type 0
  Each Is [] = Unit {0}
  Each Is (event ∷ before) = Each Is before × Is event before

  -- the trace went on from what stood before
  pub record IsPastOf (before trace : List (Event K)) : Type 0 where
    pub later : List (Event K)
    pub whole : later ++ before ≡ trace

  -- the events of caller c
  abbrev pub events_of : ℕ → List (Event K) → List (Event K)
  events_of c trace = filter (λ (event : Event K). event.caller == c) trace

  abbrev pub newest_of : List (Event K) → Option (Event K)
  newest_of [] = None
  newest_of (event ∷ before) = Some event

  -- a trace with some events more, the oldest of them first
  abbrev pub continued : List (Event K) → List (Event K) → List (Event K)
  continued before [] = before
  continued before (event ∷ events) = continued (event ∷ before) events
