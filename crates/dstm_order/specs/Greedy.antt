-- Runs of callers that follow the order of steps: meetings under Greedy, and the stamps and ranks of transactions.
use Rattle.std.specs.Prelude.{ℕ, ◌-◌, Bool, true, false, List, [], length, take, None}
use Rattle.dstm_core.specs.Events.{Event}
use Rattle.dstm_core.specs.declared.event.Kind.{Kind}
use Rattle.dstm_core.specs.declared.shape.Manager.{Manager}
use Rattle.dstm_core.specs.declared.shape.Manager.TheVariants.{Greedy}
use Rattle.dstm_core.specs.declared.shape.Shape.{Shape}
use Rattle.dstm_core.specs.Runs.{local}
use Rattle.dstm_core.specs.Traces.{events_of}
use Rattle.dstm_order.specs.Calls.{effort_of, newest_of}
use Rattle.dstm_order.specs.Drive.{calls, goes, kinds_of, nine, small, zeros}
use Rattle.dstm_order.specs.Efforts.{no_effort}
use Rattle.dstm_order.specs.Tasks.{Task}
use Rattle.dstm_order.specs.Tasks.Task.{Enrolling, Beginning, Leaving, Doing}
use Rattle.dstm_order.specs.Tasks.Work.{Writing, Committing}

-- ---- calls between whose events others make theirs

-- caller c makes the first n events of a call
abbrev pub starts : (n : ℕ) → Shape → ℕ → Task → List Event → List Event
starts n shape c task log = goes n shape c task None (local shape log c) (no_effort zeros) log

-- the events of caller c in a log since an earlier one
abbrev pub since : (c : ℕ) → (before log : List Event) → List Event
since c before log = take (length (events_of c log) - length (events_of c before)) (events_of c log)

-- a call that caller c began after an earlier log goes on to its end
abbrev pub ends : Shape → ℕ → Task → (before log : List Event) → List Event
ends shape c task before log =
    goes 400 shape c task (newest_of (since c before log)) (local shape log c)
    (effort_of shape (local shape before c) zeros (since c before log)) log

-- ---- meetings under Greedy

-- two objects, three callers with three attempts and six locators each
abbrev pub of_three : Manager → Shape
of_three manager = record (small manager) { objects = 2; callers = 3; attempts = 3; locators = 6 }

abbrev pub greedy : Shape
greedy = of_three Greedy

-- caller c begins a transaction, or opens an object for writing
abbrev pub begins : (c : ℕ) → List Event → List Event
begins c log = calls greedy c (Beginning true) (calls greedy c Enrolling log)

abbrev pub writes : (c object : ℕ) → List Event → List Event
writes c object log = calls greedy c (Doing (Writing object)) log

-- Caller 0 is older than caller 1, and has opened object 0.
abbrev pub an_older : List Event
an_older = begins 1 (writes 0 0 (begins 0 []))

-- Caller 1 opens it too, and gives way; then caller 0 commits.
abbrev pub gives_way : List Event
gives_way =
    ends greedy 1 (Doing (Writing 0)) an_older
    (calls greedy 0 (Doing (Committing nine)) (starts 8 greedy 1 (Doing (Writing 0)) an_older))

-- Caller 0 is younger than caller 1, and has opened object 0. Caller 1 opens it too.
abbrev pub a_younger : List Event
a_younger = writes 0 0 (begins 0 (begins 1 []))

abbrev pub meets_a_younger : List Event
meets_a_younger = writes 1 0 a_younger

-- Caller 2 is the oldest, and has opened object 1; caller 0 is older than caller 1, and has opened object 0.
abbrev pub two_older : List Event
two_older = begins 1 (writes 0 0 (begins 0 (writes 2 1 (begins 2 []))))

-- Caller 0 opens object 1 too, and gives way. Then caller 1 opens object 0,
abbrev pub meets_one_that_waits : List Event
meets_one_that_waits = writes 1 0 (starts 5 greedy 0 (Doing (Writing 1)) two_older)

-- or it gave way already as caller 0 did.
abbrev pub one_begins_to_wait : List Event
one_begins_to_wait =
    ends greedy 1 (Doing (Writing 0)) two_older
    (starts 5 greedy 0 (Doing (Writing 1)) (starts 6 greedy 1 (Doing (Writing 0)) two_older))

-- the kinds of the events that caller 1 has made since, the newest first
abbrev pub kinds_since : (before log : List Event) → List Kind
kinds_since before log = kinds_of (since 1 before log)

-- ---- transactions one after the other

-- caller 0 begins an attempt and opens object 0 for writing
abbrev pub tries : Manager → (fresh : Bool) → List Event → List Event
tries manager fresh log =
    calls (of_three manager) 0 (Doing (Writing 0)) (calls (of_three manager) 0 (Beginning fresh) log)

-- One transaction commits; the next one is left at first, and made again.
abbrev pub two_transactions : Manager → List Event
two_transactions manager =
    tries manager false (calls (of_three manager) 0 Leaving (tries manager true
    (calls (of_three manager) 0 (Doing (Committing nine)) (tries manager true
    (calls (of_three manager) 0 Enrolling [])))))
