-- A core run of a law that binds, under Karma: caller 0 writes an object; caller 1 reads another object and lets it
-- go, meets caller 0's attempt, aborts it, and then writes the object and commits.
use Rattle.std.specs.Prelude.{◌≡◌, false, List, [], ◌∷◌, length}
use Rattle.dstm_machines.specs.Examples.{event, events, val}
use Rattle.dstm_machines.specs.Traces.{continued}
use Rattle.dstm_model.specs.declared.value.Val.{Val}
use Rattle.dstm_model.specs.Map.{Entry, value_at}
use Rattle.dstm_core.specs.Events.{Event}
use Rattle.dstm_core.specs.declared.event.Kind.TheVariants.{Enrol, Rank, Begin, LookObj, LookOwner, LookStatus, LookRank, LookOld, PutOwner, PutOld, Install, LookNumber, Check, LookSelf, Release, PutHigh, PutNew, Validating, Draw, Commit, Kill}
use Rattle.dstm_core.specs.declared.shape.Manager.TheVariants.{Karma}
use Rattle.dstm_core.specs.declared.shape.Shape.{Shape}
use Rattle.dstm_core.specs.declared.state.Phase.TheVariants.{Outside}
use Rattle.dstm_core.specs.declared.status.Status.TheVariants as status
use Rattle.dstm_core.specs.Histories.{CoreRun, history_of}
use Rattle.dstm_core.specs.Runs.{local}
use Rattle.dstm_core.specs.Traces.{word}
use Rattle.dstm_core.specs.Words.{IsValid, code_of}
use Rattle.dstm_core.specs.Words.Word.{StatusWord}

abbrev pub shape : Shape
shape = record { objects = 2; callers = 2; attempts = 2; locators = 2; manager = Karma; all_write = false }

-- the law: the high part of the first object is 0
abbrev pub lawful : List Val → Type 0
lawful map = (value_at map 0).high ≡ 0

abbrev pub start : List Val
start = val 5 0 ∷ val 6 1 ∷ []

-- caller 0 opens the first object for writing, and its rank rises
abbrev pub writer_opens : List Event
writer_opens = events 0
    ((Enrol, 26, 0, 0, 1) ∷ (Rank, 6, 0, 0, 0) ∷ (Begin, 2, 0, 0, 1) ∷ (LookObj, 0, 0, 0, 0) ∷
    (PutOwner, 10, 0, 0, 0) ∷ (PutOld, 14, 0, 0, 0) ∷ (Install, 0, 0, 0, 1) ∷ (Rank, 6, 0, 0, 1) ∷ [])

-- caller 1 reads the second object, and checks its read in a pass
abbrev pub rival_reads : List Event
rival_reads = events 1
    ((Enrol, 26, 1, 1, 2) ∷ (Rank, 8, 0, 0, 0) ∷ (Begin, 4, 0, 0, 1) ∷ (LookObj, 1, 0, 0, 0) ∷
    (LookNumber, 27, 0, 0, 0) ∷ (Check, 1, 0, 0, 0) ∷ (LookSelf, 4, 1, 1, 1) ∷ [])

-- it lets the read go
abbrev pub release : Event
release = event 1 (Release, 1, 0, 0, 0)

-- it meets caller 0's attempt in the first object, and aborts it
abbrev pub rival_kills : List Event
rival_kills = events 1
    ((LookObj, 0, 1, 1, 1) ∷ (LookOwner, 10, 0, 0, 0) ∷ (LookStatus, 2, 1, 1, 1) ∷ (LookRank, 6, 1, 1, 1) ∷
    (Kill, 2, 1, 1, 5) ∷ [])

-- caller 0 finds its attempt aborted, and leaves it
abbrev pub writer_leaves : List Event
writer_leaves = events 0
    ((LookNumber, 27, 0, 0, 0) ∷ (LookSelf, 2, 5, 5, 5) ∷ [])

-- caller 1 puts (9, 0) in the first object
abbrev pub rival_commits : List Event
rival_commits = events 1
    ((LookOld, 14, 0, 0, 0) ∷ (PutOwner, 12, 0, 0, 2) ∷ (PutOld, 16, 0, 0, 0) ∷ (Install, 0, 1, 1, 3) ∷
    (PutHigh, 24, 0, 0, 0) ∷ (PutNew, 20, 0, 0, 9) ∷ (Validating, 4, 1, 1, 3) ∷ (Draw, 27, 0, 0, 1) ∷
    (Commit, 4, 3, 3, 4) ∷ [])

abbrev pub before_release : List Event
before_release = continued (continued [] writer_opens) rival_reads

abbrev pub run : List Event
run = continued (continued (continued (release ∷ before_release) rival_kills) writer_leaves) rival_commits

-- the transaction that commits
abbrev pub history : List Entry
history = record { reads = (0, val 5 0) ∷ []; writes = (0, val 9 0) ∷ [] } ∷ []

-- what this run shows: core runs of a law that not every map obeys, with an attempt that another one aborts, a rank
-- that rises, and a read that is let go
pub record SomeContest : Type 0 where
  pub valid : IsValid shape
  pub is_run : CoreRun shape start lawful run
  pub binds : lawful (val 5 1 ∷ val 6 1 ∷ []) → ⊥
  pub has_history : history_of shape start run ≡ history
  pub aborted : word shape run (StatusWord 0) ≡ code_of status.Aborted
  pub left : (local shape run 0).phase ≡ Outside
  pub risen : (local shape run 0).rank ≡ 1
  pub was_read : length (local shape before_release 1).reads ≡ 1
  pub let_go : (local shape (release ∷ before_release) 1).reads ≡ []
