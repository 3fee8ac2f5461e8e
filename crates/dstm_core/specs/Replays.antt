-- The replay of a trace, which is given with its oldest event first.
use Rattle.std.specs.Prelude.{◌≡◌, ◌↔◌, Bool, IsTrue, ◌∷◌, ℕ, ◌+◌, ◌<◌, List, length, reverse, take, slice_index, slice_index_or}
use Rattle.dstm_core.specs.Events.{Event}
use Rattle.dstm_core.specs.declared.shape.Shape.{Shape}
use Rattle.dstm_core.specs.Runs.{local, Core, Fits}
use Rattle.dstm_core.specs.Local.{Tracked}
use Rattle.dstm_core.specs.Traces.{at}
use Rattle.dstm_core.specs.Words.{word_count}

-- event i is the first that breaks the run: the events before it are a core run, and with it they are none
pub record IsFirstBroken (shape : Shape) (trace : List Event) (i : ℕ) : Type 0 where
  pub within : i < length trace
  pub before : Core shape (reverse (take i trace))
  pub broken : ¬ Core shape (reverse (take (i + 1) trace))

-- the words and the callers' states are those after some events, the newest first
pub record Stands (shape : Shape) (words : List ℕ) (callers : List Tracked) (log : List Event) : Type 0 where
  pub all_words : length words ≡ word_count shape
  pub each_word : (p : ℕ) → p < word_count shape → slice_index words p ≡ at log p
  pub all_callers : length callers ≡ shape.callers
  pub each_caller :
      (c : ℕ) (d : Tracked) → c < shape.callers
      → slice_index_or callers c d ≡ record { shape = shape; state = local shape log c }

-- the answer on an event after a log tells whether it fits; if it does, the table stands after both
abbrev pub Judged : Shape → List Event → Event → Bool → List ℕ → List Tracked → Type 0
Judged shape log event fits words callers =
    (IsTrue fits ↔ Fits shape log event) × (IsTrue fits → Stands shape words callers (event ∷ log))

-- and so it is for every log after which the table stood
abbrev pub Judges : List ℕ → List Tracked → Event → Bool → List ℕ → List Tracked → Type 0
Judges words callers event fits new_words new_callers =
    (shape : Shape) (log : List Event)
    → Stands shape words callers log
    → Judged shape log event fits new_words new_callers
