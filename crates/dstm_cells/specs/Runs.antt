-- What the threads of a run have done, how it ended, and what it has left.
use Rattle.std.specs.Prelude.{◌≡◌, ◌≢◌, ◌⊎◌, ℕ, zero, suc, ◌+◌, ◌<◌, ◌≤◌, All, IfErr, List, Result, Ok, Err, Some, length, map, slice_index_or, sum}
use denote.Ref.{MutBor}
use Rattle.std.specs.Fn.{Shared}
use Rattle.dstm_model.specs.declared.value.Law.{Ghosts}
use Rattle.dstm_model.specs.declared.value.Val.{Val}
use Rattle.dstm_model.specs.Answers.{Committed}
use Rattle.dstm_tables.specs.Callers.{done, draws as draws_of, home_of}
use Rattle.dstm_tables.specs.Engines.{WorksBy}
use Rattle.dstm_tables.specs.Founders.{Enrols, Retires, founded}
use Rattle.dstm_tables.specs.Tables.{callers_there}
use Rattle.dstm_tables.specs.declared.engine.Engine.{Engine}
use Rattle.dstm_tables.specs.declared.founding.Founder.{Founder}
use Rattle.dstm_tables.specs.declared.tables.Caller.{Caller}
use Rattle.dstm_tables.specs.declared.tables.Table.{Table}
use Rattle.dstm_attempts.specs.Attempts.{CommitsUpTo, newest_of}
use Rattle.dstm_cells.specs.declared.error.Failed.{Failed}
use Rattle.dstm_cells.specs.declared.error.Failed.TheVariants as failed
use Rattle.dstm_cells.specs.declared.error.GaveUp.{GaveUp}
use Rattle.dstm_cells.specs.declared.memory.Ended.{Ended}
use Rattle.dstm_cells.specs.declared.memory.Seat.{Seat}
use Rattle.dstm_cells.specs.declared.thread.Part.{Part}
use Rattle.dstm_cells.specs.declared.under_way.Attempt.{Attempt as Tx}
use Rattle.dstm_cells.specs.declared.holds.Holds.{Ghosts as Holding}
use Rattle.dstm_cells.specs.Cells.{LeavesUnread, Starts, Takes}

-- how a thread ended, and with which answer
abbrev pub End : Type 0 → Type 0
End T = Result T GaveUp

-- THE FIRST THREAD THAT DID NOT END WELL ended so, and those before it ended well
pub record FirstEnded {T : Type 0} (ended : ℕ → End T → Type 0) (threads : ℕ) (why : GaveUp) : Type 0 where
  pub number : ℕ
  pub below : number < threads
  pub ends : ended number (Err why)
  pub before : (earlier : ℕ) → earlier < number → (answer : T) × ended earlier (Ok answer)

-- WHY A RUN FAILED: the end of the first thread that did not end well; or it is the memory's own failure: where it is the
-- number of threads, there are none, or more than 63, and where the values were not read, that is so
abbrev pub FailsFor : {T : Type 0} (ended : ℕ → End T → Type 0) (unread : Type 0) (threads : ℕ) → Failed → Type 0
FailsFor ended unread threads failed.Full = ⊥
FailsFor ended unread threads failed.Memory = Unit {0}
FailsFor ended unread threads failed.Threads = (threads ≡ 0) ⊎ (63 < threads)
FailsFor ended unread threads (failed.GaveUp why) = FirstEnded ended threads why
FailsFor ended unread threads failed.Unread = unread
FailsFor ended unread threads failed.Foreign = ⊥

-- what a run leaves: the first, but the second where the failure is the memory's own
abbrev pub LeavesBy : {X : Type 0} (ran same : Type 0) → Result X Failed → Type 0
LeavesBy ran same (Ok x) = ran
LeavesBy ran same (Err failed.Full) = same
LeavesBy ran same (Err failed.Memory) = same
LeavesBy ran same (Err failed.Threads) = same
LeavesBy ran same (Err (failed.GaveUp why)) = ran
LeavesBy ran same (Err failed.Unread) = same
LeavesBy ran same (Err failed.Foreign) = same

module _ {T : Type 0} where
  -- the list tells that the thread of this number has ended so
  abbrev pub EndsSo : List (End T) → ℕ → End T → Type 0
  EndsSo ends number end = (other : End T) → slice_index_or ends number other ≡ end

  -- that is how the first one ended that did not end well, by what the list tells
  pub record IsFirstOf (ends : List (End T)) (failure : Failed) : Type 0 where
    pub why : GaveUp
    pub is : failure ≡ failed.GaveUp why
    pub first : FirstEnded (EndsSo ends) (length ends) why

  -- all have ended well, with these answers
  abbrev pub HaveAnswered : List (End T) → List T → Type 0
  HaveAnswered ends answers = ends ≡ map Ok answers

  -- the threads have ended well, each with the answer that stands at its number
  abbrev pub AnswerEach : (ends : ℕ → End T) (threads : ℕ) → List T → Type 0
  AnswerEach ends threads answers =
      (number : ℕ) (other : T) → number < threads → ends number ≡ Ok (slice_index_or answers number other)

  -- what failed is how the first thread ended that did not end well
  abbrev pub FailsByFirst : {X : Type 0} (ends : ℕ → End T) (threads : ℕ) → Result X Failed → Type 0
  FailsByFirst ends threads answer = IfErr answer (FailsFor (λ number end. ends number ≡ end) ⊥ threads)

module _ {X : Type 0} where
  -- the seat of this number tells that its thread has ended so
  abbrev pub SeatEnded : List (Seat X) → ℕ → End (Unit {0}) → Type 0
  SeatEnded seats number end = (other : Seat X) → (slice_index_or seats number other).ended ≡ end

  -- that is how the first one ended that did not end well, by what the seats tell
  pub record IsFirst (seats : List (Seat X)) (failure : Failed) : Type 0 where
    pub why : GaveUp
    pub is : failure ≡ failed.GaveUp why
    pub first : FirstEnded (SeatEnded seats) (length seats) why

  -- each seat has its number
  abbrev pub AreNumbered : List (Seat X) → Type 0
  AreNumbered seats =
      (number : ℕ) (other : Seat X) → number < length seats → (slice_index_or seats number other).number ≡ number

module _ {L : Type 0} where
  module _ {S : Type 0} {ghosts : Ghosts L} {holding : Holding S L} where
    -- the caller of the seat of this number
    abbrev pub caller_at : List (Seat (Tx L S ghosts holding)) → (other : Seat (Tx L S ghosts holding)) → ℕ → Caller L
    caller_at seats other number = (slice_index_or seats number other).me.tx.attempts.caller

    -- each seat has a part of this table
    abbrev pub AreAt : Table L → List (Seat (Tx L S ghosts holding)) → Type 0
    AreAt table seats =
        (number : ℕ) (other : Seat (Tx L S ghosts holding)) → number < length seats → home_of (caller_at seats other number) ≡ table

    -- the work of this number was done on a seat: this is known of how it has ended and of what it has done, and the part that it has
    -- left is of the same table
    abbrev pub IsWorked : (ends : ℕ → End (Unit {0}) → Type 0) (does : ℕ → Caller L → Caller L → Type 0)
        (number : ℕ) (old new : Seat (Tx L S ghosts holding)) → Type 0
    IsWorked ends does number old new =
        ends number new.ended × does number old.me.tx.attempts.caller new.me.tx.attempts.caller
        × (home_of new.me.tx.attempts.caller ≡ home_of old.me.tx.attempts.caller)

  -- callers of these numbers were given out or taken back, one after the other, from the first founder to the last
  abbrev pub InTurn : (Founder L → Founder L → ℕ → Caller L → Type 0) → (count : ℕ) → Founder L → (ℕ → Caller L) → Founder L → Type 0
  InTurn step zero f callers g = g ≡ f
  InTurn step (suc count) f callers g = (m : Founder L) × InTurn step count f callers m × step m g count (callers count)

  module _ (holds : L → List Val → Type 0) where
    -- so many callers were given out, each with its number as the seed
    abbrev pub GivesOutEach : (count : ℕ) → Founder L → (ℕ → Caller L) → Founder L → Type 0
    GivesOutEach = InTurn (Enrols holds)

    -- so many callers were taken back
    abbrev pub TakesBackEach : (count : ℕ) → Founder L → (ℕ → Caller L) → Founder L → Type 0
    TakesBackEach = InTurn (λ f g number k. Retires holds f g k)

    -- a new caller of the table, with this seed
    pub record IsNew (table : Table L) (seed : ℕ) (k : Caller L) : Type 0 where
      pub home : home_of k ≡ table
      pub enrols : (f g : Founder L) × Enrols holds f g seed k

    module _ {S : Type 0} {ghosts : Ghosts L} {holding : Holding S L} where
      -- these are the callers of the seats, in their order
      abbrev pub GivesOutSeats : Founder L → List (Seat (Tx L S ghosts holding)) → Founder L → Type 0
      GivesOutSeats f seats g = (other : Seat (Tx L S ghosts holding)) → GivesOutEach (length seats) f (caller_at seats other) g

      abbrev pub TakesBackSeats : Founder L → List (Seat (Tx L S ghosts holding)) → Founder L → Type 0
      TakesBackSeats f seats g = (other : Seat (Tx L S ghosts holding)) → TakesBackEach (length seats) f (caller_at seats other) g

      -- each seat has a new part of the table, with its number as the seed
      abbrev pub HaveNew : Table L → List (Seat (Tx L S ghosts holding)) → Type 0
      HaveNew table seats =
          (number : ℕ) (other : Seat (Tx L S ghosts holding)) → number < length seats →
          IsNew table number (slice_index_or seats number other).me.tx.attempts.caller

    -- of a table that was made of these values, and works by this engine, this holds: of its founder, with nobody on it yet,
    -- and of what became of it
    pub record OnItsTable (engine : Engine) (rule : L) (before : List Val) (ended : Founder L → Founder L → Type 0) : Type 0 where
      pub table : Table L
      pub starts : Starts rule before table
      pub works : WorksBy engine table
      pub left : Founder L
      pub ends : ended (founded table) left

    -- A RUN, STEP BY STEP, on one table, which was made of these values and works by this engine: a part was given out for each
    -- number, with it as the seed; the work of each number was done once, by its part; all parts were taken back as the work has
    -- left them; and then this came of the founder
    pub record RanInTurn (engine : Engine) (rule : L) (before : List Val) (threads : ℕ) (does : ℕ → Caller L → Caller L → Type 0)
        (ended : Founder L → Founder L → Type 0) : Type 0 where
      pub table : Table L
      pub starts : Starts rule before table
      pub works : WorksBy engine table
      pub began : ℕ → Caller L
      pub out : Founder L
      pub gives : GivesOutEach threads (founded table) began out
      pub left : ℕ → Caller L
      pub done : (number : ℕ) → number < threads → does number (began number) (left number)
      pub back : Founder L
      pub takes_back : TakesBackEach threads out left back
      pub last : Founder L
      pub ends : ended back last

    -- A RUN WAS UNREAD: a last caller of its table, which was made of the values before, could not read all objects
    abbrev pub WasUnread : Engine → L → (before : List Val) → Type 0
    WasUnread engine rule before = OnItsTable engine rule before (LeavesUnread holds)

module _ {S F R : Type 0} (g : Shared F (MutBor S × (ℕ × Unit {0})) (R × (MutBor S × Unit {0}))) (f : F) where
  -- a call of a closure on a thread's part, with its number, answered this, and left that
  pub record IsCalled (number : ℕ) (began : S) (answer : R) (ended : S) : Type 0 where
    pub shown : MutBor S
    pub shows : shown.now ≡ began
    pub left : MutBor S
    pub met : g.post f (shown, (number, tt)) (answer, (left, tt))
    pub leaves : left.now ≡ ended

-- how these threads have ended
abbrev pub ends_of : {T : Type 0} → List (Ended T) → List (End T)
ends_of calls = map (λ call. call.end) calls

module _ {L S F T : Type 0} {ghosts : Ghosts L} {holding : Holding S L}
    (g : Shared F (MutBor (Part (Tx L S ghosts holding)) × (ℕ × Unit {0}))
    (End T × (MutBor (Part (Tx L S ghosts holding)) × Unit {0}))) (f : F) where
  -- what is told of a thread's part is so: up to which number it has committed, and how many it has drawn
  abbrev pub IsTold : Ended T → Caller L → Type 0
  IsTold ended k = CommitsUpTo ended.newest k × (draws_of k ≡ ended.draws)

  -- the closure was called on this part with its number, and its thread has ended so; what is told of the part that it has left
  -- is so
  abbrev pub WasCalled : (number : ℕ) (began : Part (Tx L S ghosts holding)) (ended : Ended T) → Type 0
  WasCalled number began ended =
      (left : Part (Tx L S ghosts holding)) × IsCalled g f number began ended.end left × IsTold ended left.tx.attempts.caller

module _ {L S F T : Type 0} {ghosts : Ghosts L} {holding : Holding S L} (holds : L → List Val → Type 0)
    (g : Shared F (MutBor (Part (Tx L S ghosts holding)) × (ℕ × Unit {0}))
    (End T × (MutBor (Part (Tx L S ghosts holding)) × Unit {0}))) (f : F) where
  -- the closure was called with this number and answered this, on a new part of this table
  pub record CalledOn (table : Table L) (number : ℕ) (end : End T) : Type 0 where
    pub began : Part (Tx L S ghosts holding)
    pub new : IsNew holds table number began.tx.attempts.caller
    pub ended : Part (Tx L S ghosts holding)
    pub call : IsCalled g f number began end ended

  module _ (engine : Engine) (rule : L) (values : List Val) where
    -- THE CLOSURE WAS CALLED with this number and answered this, on a new part of a table that was made of these values and
    -- works by this engine
    pub record CalledFor (number : ℕ) (end : End T) : Type 0 where
      pub table : Table L
      pub starts : Starts rule values table
      pub works : WorksBy engine table
      pub on : CalledOn table number end

    -- A RUN WAS READ: on one table, which was made of these values, works by this engine and has a caller for each number and one
    -- more, the closure was called with each number on a new part of it, and the values after it are those that the objects of
    -- this table had together at the place of a last transaction
    pub record WasRead (threads : ℕ) (after : List Val) : Type 0 where
      pub table : Table L
      pub starts : Starts rule values table
      pub works : WorksBy engine table
      pub callers : callers_there table ≡ threads + 1
      pub ends : ℕ → End T
      pub called : (number : ℕ) → number < threads → CalledOn table number (ends number)
      pub left : Founder L
      pub takes : Takes holds (founded table) left after

    module _ {threads : ℕ} {after : List Val} (read : WasRead threads after) where
      -- the part of a number, as its call has left it
      abbrev pub left_by : (number : ℕ) → number < threads → Caller L
      left_by number below = (read.called number below).ended.tx.attempts.caller

      -- the number of the last transaction
      abbrev pub last_number : ℕ
      last_number = read.takes.reads.takes.number

      -- the last transaction stands behind all that the parts had committed, as their calls have left them: its number is greater
      abbrev pub StandsBehind : Type 0
      StandsBehind =
          (number : ℕ) (below : number < threads) →
          All (λ (attempt : Committed). attempt.number < last_number) (done (left_by number below))

      -- or it does not
      pub record StandsBefore : Type 0 where
        pub number : ℕ
        pub below : number < threads
        pub newest : ℕ
        pub committed : newest_of (done (left_by number below)) ≡ Some newest
        pub early : last_number ≤ newest

      -- so many numbers the parts had drawn, as their calls have left them
      pub record Draws (counts : List ℕ) : Type 0 where
        pub size : length counts ≡ threads
        pub each : (number : ℕ) (below : number < threads) → draws_of (left_by number below) ≡ slice_index_or counts number 0

      -- NOBODY ELSE HAS DRAWN A NUMBER of the table up to the last one: they had drawn all but those of the caller that has read
      pub record DrawsAll : Type 0 where
        pub counts : List ℕ
        pub draws : Draws counts
        pub all : sum counts + draws_of read.takes.reads.after ≡ last_number + 1

      -- or somebody has
      pub record DrawsNotAll : Type 0 where
        pub counts : List ℕ
        pub draws : Draws counts
        pub missing : sum counts + draws_of read.takes.reads.after ≢ last_number + 1

    -- A RUN ON ONE TABLE was read behind all that its parts had committed in their calls, and nobody else has drawn a number there
    pub record Ran (threads : ℕ) (after : List Val) : Type 0 where
      pub read : WasRead threads after
      pub open read use *
      pub behind : StandsBehind read
      pub all : DrawsAll read

    -- A RUN WAS READ AMISS: too early for one of its parts, or where somebody else had drawn a number
    pub record WasReadAmiss (threads : ℕ) : Type 0 where
      pub after : List Val
      pub read : WasRead threads after
      pub amiss : StandsBefore read ⊎ DrawsNotAll read

    -- and what is told of these calls' ends is so
    pub record RanOn (threads : ℕ) (after : List Val) (told : (ℕ → End T) → Type 0) : Type 0 where
      pub ran : Ran threads after
      pub open ran use *
      pub tells : told ends
