-- A core run: caller 0 writes the object and commits; caller 1 reads what was written, and commits by the
-- number alone, with no Check after its Draw; then it writes the object too.
use Rattle.std.specs.Prelude.{◌≡◌, false, List, [], ◌∷◌, length}
use Rattle.dstm_machines.specs.Examples.{event, events, val}
use Rattle.dstm_machines.specs.Traces.{continued}
use Rattle.dstm_model.specs.declared.value.Val.{Val}
use Rattle.dstm_model.specs.Map.{Entry}
use Rattle.dstm_core.specs.Events.{Event}
use Rattle.dstm_core.specs.declared.event.Kind.TheVariants.{Enrol, Begin, LookObj, LookOwner, LookStatus, LookHigh, LookNew, PutOwner, PutOld, Install, LookNumber, Check, LookSelf, PutHigh, PutNew, Validating, Draw, Commit}
use Rattle.dstm_core.specs.declared.shape.Manager.TheVariants.{Polite}
use Rattle.dstm_core.specs.declared.shape.Shape.{Shape}
use Rattle.dstm_core.specs.Histories.{CoreRun, IsSight, history_of}
use Rattle.dstm_core.specs.Runs.{local}
use Rattle.dstm_core.specs.Words.{IsValid}

abbrev pub shape : Shape
shape = record { objects = 1; callers = 2; attempts = 2; locators = 1; manager = Polite; all_write = false }

abbrev pub start : List Val
start = val 5 0 ∷ []

-- caller 0 puts (9, 0)
abbrev pub writer_commits : List Event
writer_commits = events 0
    ((Enrol, 17, 0, 0, 1) ∷ (Begin, 1, 0, 0, 1) ∷ (LookObj, 0, 0, 0, 0) ∷ (PutOwner, 9, 0, 0, 0) ∷
    (PutOld, 11, 0, 0, 0) ∷ (Install, 0, 0, 0, 1) ∷ (PutHigh, 15, 0, 0, 0) ∷ (PutNew, 13, 0, 0, 9) ∷
    (Validating, 1, 1, 1, 3) ∷ (Draw, 18, 0, 0, 1) ∷ (Commit, 1, 3, 3, 4) ∷ [])

-- caller 1 reads that value, and checks its read in a pass
abbrev pub reader_checks : List Event
reader_checks = events 1
    ((Enrol, 17, 1, 1, 2) ∷ (Begin, 3, 0, 0, 1) ∷ (LookObj, 0, 1, 1, 1) ∷ (LookOwner, 9, 0, 0, 0) ∷
    (LookStatus, 1, 4, 4, 4) ∷ (LookHigh, 15, 0, 0, 0) ∷ (LookNew, 13, 9, 9, 9) ∷ (LookNumber, 18, 1, 1, 1) ∷
    (Check, 0, 1, 1, 1) ∷ [])

-- it completes the pass
abbrev pub sight : Event
sight = event 1 (LookSelf, 3, 1, 1, 1)

-- it draws its number
abbrev pub reader_draws : List Event
reader_draws = events 1
    ((Validating, 3, 1, 1, 3) ∷ (Draw, 18, 1, 1, 2) ∷ [])

-- and commits
abbrev pub reader_commit : Event
reader_commit = event 1 (Commit, 3, 3, 3, 4)

-- caller 1 puts (7, 1) in its second attempt
abbrev pub writer_again : List Event
writer_again = events 1
    ((Begin, 4, 0, 0, 1) ∷ (LookObj, 0, 1, 1, 1) ∷ (LookOwner, 9, 0, 0, 0) ∷ (LookStatus, 1, 4, 4, 4) ∷
    (LookHigh, 15, 0, 0, 0) ∷ (LookNew, 13, 9, 9, 9) ∷ (PutOwner, 10, 0, 0, 3) ∷ (PutOld, 12, 0, 0, 1) ∷
    (Install, 0, 1, 1, 2) ∷ (PutHigh, 16, 0, 0, 1) ∷ (PutNew, 14, 0, 0, 7) ∷ (Validating, 4, 1, 1, 3) ∷
    (Draw, 18, 2, 2, 3) ∷ (Commit, 4, 3, 3, 4) ∷ [])

abbrev pub before_sight : List Event
before_sight = continued (continued [] writer_commits) reader_checks

abbrev pub before_commit : List Event
before_commit = continued (sight ∷ before_sight) reader_draws

abbrev pub run : List Event
run = continued (reader_commit ∷ before_commit) writer_again

-- the three transactions, in the order of their numbers
abbrev pub history : List Entry
history =
    record { reads = (0, val 5 0) ∷ []; writes = (0, val 9 0) ∷ [] } ∷
    record { reads = (0, val 9 0) ∷ []; writes = [] } ∷
    record { reads = (0, val 9 0) ∷ []; writes = (0, val 7 1) ∷ [] } ∷ []

-- what this run shows: there are core runs, with entries and a sight, and with a reader that commits by the
-- number
pub record SomeRun : Type 0 where
  pub valid : IsValid shape
  pub is_run : CoreRun shape start (λ map. Unit {0}) run
  pub has_history : history_of shape start run ≡ history
  pub has_sight : IsSight shape before_sight sight
  pub one_read : length (local shape before_commit 1).reads ≡ 1
  pub none_checked : (local shape before_commit 1).checked ≡ 0
