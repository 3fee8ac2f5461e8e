-- What attempts were handed: the values that their opens gave them of objects that they had not set.
use Rattle.std.specs.Prelude.{◌≡◌, ◌≢◌, ℕ, ◌<◌, true, false, List, ◌∷◌, ◌++◌, length, reverse}
use Rattle.dstm_model.specs.declared.value.Val.{Val}
use Rattle.dstm_model.specs.Answers.{Committed}
use Rattle.dstm_model.specs.Map.{Agrees, state_after}
use Rattle.dstm_machines.specs.Traces.{Each, events_of}
use Rattle.dstm_core.specs.Events as core_events
use Rattle.dstm_core.specs.Histories.{seen}
use Rattle.dstm_core.specs.Runs as core
use Rattle.dstm_core.specs.declared.shape.Shape.{Shape}
use Rattle.dstm_core.specs.declared.state.Phase.TheVariants.{Outside}
use Rattle.dstm_opacity.specs.Committed as core_answers
use Rattle.dstm_progress.specs.Lives.{IsOfPass, awaits_sight}
use Rattle.dstm_tl2.specs.Committed as tl2_answers
use Rattle.dstm_tl2.specs.Histories.{read_values}
use Rattle.dstm_tl2.specs.Rules.{Event}
use Rattle.dstm_tl2.specs.Runs as tl2
use Rattle.dstm_tl2.specs.State.{look_of}
use Rattle.dstm_tl2.specs.Words.{Table}
use Rattle.dstm_tl2.specs.declared.kind.Kind.TheVariants.{LookAgain}
use Rattle.dstm_tables.specs.Tells.{entries_of}

-- these values stood together: in the state after the first some of these transactions
pub record StoodTogether (start : List Val) (committed : List Committed) (values : List (ℕ × Val)) : Type 0 where
  pub first : List Committed
  pub rest : List Committed
  pub are : committed ≡ first ++ rest
  pub stood : Agrees (state_after start (entries_of first)) values

-- Under DSTM a value that an open hands out awaits a sight, until a pass that covers it is complete.
pub record DstmHanded (shape : Shape) (start : List Val) (log : List core_events.Event) (c : ℕ) : Type 0 where
  -- it is in a sight before its attempt does anything but that pass, unless it gives up; and in the end none awaits one
  pub validated : Each (λ event before. awaits_sight before ≡ true → IsOfPass event.kind) (events_of c log)
  pub none_left : awaits_sight (events_of c log) ≡ false
  -- where none awaits one, all that the attempt under way has read, and the old values of what it writes, stood together
  pub stood :
      (later before : List core_events.Event) → log ≡ later ++ before
      → (core.local shape before c).phase ≢ Outside → awaits_sight (events_of c before) ≡ false
      → StoodTogether start (reverse (core_answers.committed_in shape start log)) (seen shape start log before c)

-- Under TL2 a value that an open hands out is a read.
pub record Tl2Handed (table : Table) (log : List Event) (c : ℕ) : Type 0 where
  -- it becomes one by a look that finds the word of its lock again
  pub validated :
      (later before : List Event) (event : Event) → log ≡ later ++ event ∷ before
      → length (tl2.local table before c).reads < length (tl2.local table (event ∷ before) c).reads
      → (event.kind ≡ LookAgain) × (event.found ≡ (look_of (tl2.local table before c)).word)
  -- all that the attempt has read stood together
  pub stood :
      (later before : List Event) → log ≡ later ++ before
      → StoodTogether table.start (reverse (tl2_answers.committed_in table log)) (read_values (tl2.local table before c).reads)
