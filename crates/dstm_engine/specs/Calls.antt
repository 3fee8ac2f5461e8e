-- What a call of the engine does.
use Rattle.std.specs.Prelude.{◌≡◌, ◌⊎◌, ℕ, ◌+◌, ◌<◌, ◌≤◌, true, List, [], ◌∷◌, ◌++◌, length, All, Option, None, IsSome, is_some, ◌||◌, if◌then◌else◌}
use Rattle.rand_pcg.specs.Lcg.{Lcg}
use Rattle.dstm_model.specs.declared.value.Val.{Val}
use Rattle.dstm_core.specs.Events.{Event}
use Rattle.dstm_core.specs.declared.shape.Shape.{Shape}
use Rattle.dstm_core.specs.State.{LocalState}
use Rattle.dstm_core.specs.Runs.{local}
use Rattle.dstm_core.specs.Traces.{IsPastOf, events_of}
use Rattle.dstm_order.specs.declared.again.Again.{Again}
use Rattle.dstm_order.specs.Calls.{IsCall, answer_of, effort_of}
use Rattle.dstm_order.specs.Tasks.{Task, Work}
use Rattle.dstm_order.specs.Tasks.Work.{Reading, Writing}
use Rattle.dstm_progress.specs.Alone.{AreCalls, Made, all_events, count, generator_after, is_open, is_release, last_answer}
use Rattle.dstm_progress.specs.Oldest.{OpensToWrite}
use Rattle.dstm_words.specs.Seats.{IsRunOf}
use Rattle.dstm_engine.specs.Callers.{Called, shape_of, state, is_live, begun_log}

-- what the newest of some calls answered, which were made one after the other
abbrev pub newest_answer : Shape → LocalState → Lcg → List Made → Option Again
newest_answer shape began generator [] = None
newest_answer shape began generator (call ∷ calls) = last_answer shape began generator call calls

-- an open for reading, which is one for writing where all opens are
abbrev pub reading : Shape → ℕ → Work
reading shape o = if shape.all_write then Writing o else Reading o

module _ {L : Type 0} where
  -- the caller as its last attempt began
  abbrev pub begun_state : Called L → LocalState
  begun_state k = local (shape_of k) (begun_log k.number k.log) k.number

  -- the last attempt is live, or was left by a call on it, or has committed: it was not abandoned
  abbrev pub IsMade : Called L → Type 0
  IsMade k = (is_live k ≡ true) ⊎ (IsSome k.left ⊎ ((state k).committed ≡ true))

  -- the last attempt is live, or was left by a call on it
  abbrev pub IsUnderWay : Called L → Type 0
  IsUnderWay k = is_live k || is_some k.left ≡ true

  -- how many reads a live attempt keeps
  abbrev pub kept_reads : Called L → ℕ
  kept_reads k = if is_live k then length (state k).reads else 0

  -- The caller's own events since its last Begin are those of calls made one after the other, the newest of which
  -- answered what the caller was given last. Each has made a step: none was made on an attempt that is over. Where all
  -- opens are for writing none of them opened for reading. A first open records one read at most, and a release lets one
  -- go: so with the reads that are kept the releases are no more than the first opens.
  pub record IsTold (k : Called L) : Type 0 where
    pub calls : List Made
    pub own : events_of k.number k.log ≡ all_events calls ++ events_of k.number (begun_log k.number k.log)
    pub are_calls : AreCalls (shape_of k) (begun_state k) k.began calls
    pub each : All (λ (call : Made). 0 < length call.events) calls
    pub generator : k.generator ≡ generator_after (shape_of k) (begun_state k) k.began calls
    pub left : k.left ≡ newest_answer (shape_of k) (begun_state k) k.began calls
    pub writes : (shape_of k).all_write ≡ true → OpensToWrite calls
    pub releases : count is_release calls + kept_reads k ≤ count is_open calls

  module _ (holds : L → List Val → Type 0) where
    -- A CALL: the caller's own events since are those of the order of steps, and it answers as this says. What the
    -- caller has seen then goes on from what it had seen, and is a core run.
    pub record Acts (task : Task) (k : Called L) (again : Option Again) (log : List Event) (words : Lcg) : Type 0 where
      pub events : List Event
      pub own : events_of k.number log ≡ events ++ events_of k.number k.log
      pub call : IsCall task (shape_of k) (state k) k.generator events
      pub answers : again ≡ answer_of task (shape_of k) (state k) k.generator events
      pub seen : IsPastOf k.log log
      pub run : IsRunOf holds k.home.terms log
      pub generator : words ≡ (effort_of (shape_of k) (state k) k.generator events).generator

    -- That is what a call has made of its caller, in the same table and under the same number.
    pub record Performs (task : Task) (k n : Called L) (again : Option Again) : Type 0 where
      pub acts : Acts task k again n.log n.generator
      pub open acts use *
      pub same : (n.home ≡ k.home) × (n.number ≡ k.number)
