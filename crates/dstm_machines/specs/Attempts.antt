-- The last attempt of a caller in a trace: what its last event of a kind that begins attempts has after it.
use Rattle.std.specs.Prelude.{ℕ, ◌==◌, ◌&&◌, Bool, List, [], ◌∷◌, if◌then◌else◌}
use Rattle.dstm_machines.specs.declared.event.Event.{Event}

-- begins: the kinds of event by which an attempt begins
module _ {K : Type 0} (begins : K → Bool) where
  -- the trace as it was after the event by which caller c began its last attempt
  abbrev pub begun_log : ℕ → List (Event K) → List (Event K)
  begun_log c [] = []
  begun_log c (event ∷ before) =
      if (event.caller == c) && begins event.kind then event ∷ before else begun_log c before

  -- the events since, of all callers
  abbrev pub since_begun : ℕ → List (Event K) → List (Event K)
  since_begun c [] = []
  since_begun c (event ∷ before) =
      if (event.caller == c) && begins event.kind then [] else event ∷ since_begun c before
