-- What a machine has to have so that threads can run it on shared words.
use Rattle.std.specs.Prelude.{◌≡◌, ◌≢◌, ℕ, ◌+◌, ◌^◌, ◌<◌, Option, Some, List, ◌∷◌}
use Rattle.dstm_machines.specs.declared.event.Event.{Event}
use Rattle.dstm_machines.specs.Machines.{Machine, Fits, Run, local}

-- A machine, with the words of its tables, how its callers enrol, and what counts as a run. A table is told terms T,
-- of which the rules read B.
pub record Shared (K T B S : Type 0) : Type 1 where
  pub machine : Machine K B S
  pub number : S → Option ℕ  -- a caller's number, once it has enrolled
  pub word_count : B → ℕ  -- how many words a table has
  pub callers_place : B → ℕ  -- the place of the word that counts the callers
  pub Adds : K → Type 0  -- the kinds of event that add one to a word
  pub table : T → B  -- what the rules read of the terms
  pub IsRunOf : T → List (Event K) → Type 0  -- the log is a run of a table that was told these terms
  pub Keeps : T → List (Event K) → Event K → Type 0  -- what the next event of such a run has to keep besides

-- how runs go on, how callers enrol, and that words of 64 bits are enough: the laws that sharing stands on
pub record Enrolling {K T B S : Type 0} (shared : Shared K T B S) : Type 0 where
  -- such a run is a run of the machine, and goes on with an event that fits and keeps what it has to
  pub follows :
      (terms : T) (log : List (Event K)) → shared.IsRunOf terms log → Run shared.machine (shared.table terms) log
  pub goes_on :
      (terms : T) (log : List (Event K)) (event : Event K) → shared.IsRunOf terms log →
      Fits shared.machine (shared.table terms) log event → shared.Keeps terms log event →
      shared.IsRunOf terms (event ∷ log)
  -- a caller's first event adds one to the count of callers
  pub first :
      (table : B) (event : Event K) → shared.machine.Allows table shared.machine.first event →
      shared.machine.Enrols event.kind × (event.place ≡ shared.callers_place table) × (event.put ≡ event.found + 1)
  -- no event of a caller that has a number enrols it, or lies on that count
  pub later :
      (table : B) (state : S) (event : Event K) (n : ℕ) → shared.number state ≡ Some n →
      shared.machine.Allows table state event →
      (shared.machine.Enrols event.kind → ⊥) × (event.place ≢ shared.callers_place table)
  -- an event lies on a word of the table
  pub inside :
      (table : B) (state : S) (event : Event K) → shared.machine.Allows table state event →
      event.place < shared.word_count table
  -- after an event of a run its caller has its number
  pub named :
      (table : B) (log : List (Event K)) (event : Event K) → Run shared.machine table (event ∷ log) →
      shared.number (local shared.machine table (event ∷ log) event.caller) ≡ Some event.caller
  -- the count of callers is one of its words
  pub has_count : (table : B) → shared.callers_place table < shared.word_count table
  -- no caller has enrolled at first
  pub none : (table : B) → shared.machine.initial table (shared.callers_place table) ≡ 0
  -- no add wraps
  pub adds :
      (terms : T) (log : List (Event K)) (event : Event K) → shared.IsRunOf terms log →
      Fits shared.machine (shared.table terms) log event →
      shared.Adds event.kind → event.found + 1 < 2 ^ 64
