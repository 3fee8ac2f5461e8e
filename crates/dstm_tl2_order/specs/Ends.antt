-- Laws of how attempts of TL2 ended.
use Rattle.std.specs.Prelude.{◌≡◌, ℕ, ◌<◌, true, None, Some, List, ◌++◌}
use Rattle.dstm_machines.specs.Traces.{events_of}
use Rattle.dstm_tl2.specs.Histories.{read_values}
use Rattle.dstm_tl2.specs.Rules.{Event}
use Rattle.dstm_tl2.specs.Runs.{Run, local}
use Rattle.dstm_tl2.specs.State.{is_valid}
use Rattle.dstm_tl2.specs.Words.{Table}
use Rattle.dstm_tl2_order.specs.declared.again.TlAgain.{TlAgain}
use Rattle.dstm_tl2_order.specs.Calls.{answer_of}
use Rattle.dstm_tl2_order.specs.Ended.{Disturbed, HasCommitted, HasNoDraw, reads_of}

-- what became of an attempt stays so in a longer log
abbrev pub EndsStay : Type 0
EndsStay =
    (table : Table) (later before : List Event) (c i : ℕ) →
    (Disturbed table before c i → Disturbed table (later ++ before) c i)
    × (HasCommitted table before c i → HasCommitted table (later ++ before) c i)

-- whether it drew, and what it has read, is told by its caller's own events
abbrev pub OwnEventsTell : Type 0
OwnEventsTell =
    (table : Table) (one other : List Event) (c i : ℕ) → events_of c one ≡ events_of c other →
    (HasNoDraw table one c i → HasNoDraw table other c i) × (reads_of table one c i ≡ reads_of table other c i)

-- a call on an attempt that answers a cause has disturbed it
abbrev pub AnswersDisturb : Type 0
AnswersDisturb =
    (table : Table) (c : ℕ) (log before events : List Event) (again : TlAgain) →
    events_of c log ≡ events ++ events_of c before → (local table log c).begun ≡ (local table before c).begun →
    answer_of table (local table before c) events ≡ Some again → Disturbed table log c (local table log c).begun

-- the attempt under way has committed where it is valid
abbrev pub ValidCommits : Type 0
ValidCommits =
    (table : Table) (log : List Event) (c : ℕ) → Run table log → is_valid (local table log c) ≡ true →
    HasCommitted table log c (local table log c).begun

-- where it has drawn nothing, it has no Draw
abbrev pub UndrawnHasNone : Type 0
UndrawnHasNone =
    (table : Table) (log : List Event) (c : ℕ) → (local table log c).drawn ≡ None →
    HasNoDraw table log c (local table log c).begun

-- what it has read so far is what the log tells
abbrev pub ReadsSoFar : Type 0
ReadsSoFar =
    (table : Table) (log : List Event) (c : ℕ) → 0 < (local table log c).begun →
    reads_of table log c (local table log c).begun ≡ read_values (local table log c).reads
