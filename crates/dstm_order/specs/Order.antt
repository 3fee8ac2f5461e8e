-- The order of steps of the engine's calls: after each event of a call, which event is due.
--
-- It is one table over all calls. Each row is a sentence on what comes next, of the caller's state and of the
-- effort of this call; nothing is said of loops and of functions.
use Rattle.std.specs.Prelude.{◌≡◌, ℕ, ◌+◌, ◌==◌, Bool, true, false, length, Option, Some, None, is_some, is_none, not, nat_lt, ◌&&◌, ◌||◌, min, if◌then◌else◌}
pub use Rattle.dstm_core.specs.Counts.{is_begin}
use Rattle.dstm_core.specs.Events.{Event}
use Rattle.dstm_core.specs.declared.event.Kind.{Kind}
use Rattle.dstm_core.specs.declared.event.Kind.TheVariants.{Enrol, Stamp, Rank, Begin, LookObj, LookOwner, LookStatus, LookRank, LookOld, LookHigh, LookNew, PutOwner, PutOld, Install, LookNumber, Check, LookSelf, Release, PutHigh, PutNew, Validating as ToValidating, Draw, Commit, Kill, Quit, Pause, Resume}
use Rattle.dstm_core.specs.declared.shape.Manager.{Manager}
use Rattle.dstm_core.specs.declared.shape.Manager.TheVariants.{Polite, Karma, Polka, Greedy}
use Rattle.dstm_core.specs.declared.shape.Shape.{Shape}
use Rattle.dstm_core.specs.declared.state.Phase.{Phase}
use Rattle.dstm_core.specs.declared.state.Phase.TheVariants.{Paused, Drawn}
use Rattle.dstm_core.specs.declared.status.Status.TheVariants as status
use Rattle.dstm_core.specs.Rules.{is_outside}
use Rattle.dstm_core.specs.State.{LocalState, or_zero, is_live, next_write, res, version, is_resolved}
use Rattle.dstm_core.specs.Words.{code_of}
use Rattle.dstm_managers.specs.declared.decider.Choice.{Choice}
use Rattle.dstm_managers.specs.declared.decider.Choice.TheVariants as decision
use Rattle.dstm_model.specs.declared.value.Val.{Val}
use Rattle.dstm_order.specs.Efforts.{Effort, chosen, most_missed}
use Rattle.dstm_order.specs.Tasks.{Task, Work}
use Rattle.dstm_order.specs.Tasks.Task.{Enrolling, Beginning, Leaving, Doing}
use Rattle.dstm_order.specs.Tasks.Work.{Reading, Writing, Releasing, Rechecking, Committing}

-- ---- what is due

-- An event of a kind is due, or nothing more. The operand is the object of a LookObj or a Release, and the
-- number that a PutHigh, a PutNew or a Rank stores; what else an event is, the local rules say.
pub data Due : Type 0 where
  Step : (kind : Kind) → (operand : ℕ) → Due
  Done : Due

abbrev pub just : Kind → Due
just kind = Step kind 0

-- the event has the operand that its kind wants
abbrev pub HasOperand : Kind → ℕ → Event → Type 0
HasOperand LookObj operand event = event.place ≡ operand
HasOperand Release operand event = event.place ≡ operand
HasOperand PutHigh operand event = event.put ≡ operand
HasOperand PutNew operand event = event.put ≡ operand
HasOperand Rank operand event = event.put ≡ operand
HasOperand kind operand event = Unit {0}

-- the event is the one that is due
abbrev pub IsDue : Due → Event → Type 0
IsDue (Step kind operand) event = (event.kind ≡ kind) × HasOperand kind operand event
IsDue Done event = ⊥

-- ---- managers

-- attempts have ranks: under every manager but Polite
abbrev pub has_ranks : Manager → Bool
has_ranks Polite = false
has_ranks manager = true

-- an attempt's rank rises as it opens objects
abbrev pub rises : Manager → Bool
rises Polite = false
rises Karma = true
rises Polka = true
rises Greedy = false

-- a transaction draws a stamp, which is its rank
abbrev pub has_stamps : Manager → Bool
has_stamps Greedy = true
has_stamps manager = false

-- ---- to resolve an object

abbrev pub is_paused : Phase → Bool
is_paused Paused = true
is_paused phase = false

-- the status of the owner of the word found, as it was found last
abbrev pub enemy_code : LocalState → ℕ
enemy_code state = or_zero (res state).status

-- To abort the enemy is one exchange, a turn of waiting one look at its status, and giving way begins with an
-- exchange of the own status.
abbrev pub on_choice : Choice → Due
on_choice decision.Kill = just Kill
on_choice (decision.Wait turns) = just LookStatus
on_choice decision.GiveWay = just Pause

-- A CONFLICT, where the owner of the word found is live. Its rank is looked at, once for each time that the
-- object is resolved, and under Polite not at all. While turns of a wait are left the status is looked at.
-- Else the manager chooses: at first, after a wait, after a Kill that found another live status, and after an
-- end of giving way that found the enemy waiting.
abbrev pub in_conflict : Manager → LocalState → Effort → Due
in_conflict manager state effort =
    if has_ranks manager && is_none (res state).rank then just LookRank
    else if nat_lt 0 effort.left then just LookStatus
    else on_choice (chosen manager state effort)

-- GIVING WAY. An enemy that was found committed, aborted or waiting ends it, with Resume. After the last turn
-- the attempt quits. Else the next turn looks at the status.
abbrev pub in_giving_way : LocalState → Effort → Due
in_giving_way state effort =
    if not (is_live (enemy_code state)) || enemy_code state == code_of status.Waiting then just Resume
    else if effort.left == 0 then just Quit
    else just LookStatus

-- TO RESOLVE AN OBJECT, after its LookObj. A word 0 is resolved at once. Otherwise the owner and its status are
-- looked at. A live owner is a conflict, which ends with the owner committed or aborted. The version of an
-- aborted owner is what the old word names. Where that is 0 it is resolved; else the high and the low part of
-- the version are looked at, the same for the locator itself where the owner is committed.
abbrev pub in_resolving : Manager → LocalState → Effort → (resolved : Due) → Due
in_resolving manager state effort resolved =
    if is_paused state.phase then in_giving_way state effort
    else if is_resolved (res state) then resolved
    else if is_none (res state).owner then just LookOwner
    else if is_none (res state).status then just LookStatus
    else if is_live (enemy_code state) then in_conflict manager state effort
    else if is_none (version (res state)) then just LookOld
    else if is_none (res state).high then just LookHigh
    else just LookNew

-- ---- a pass, and the checks of a commit

-- both numbers are known, and equal
abbrev pub is_same : Option ℕ → Option ℕ → Bool
is_same (Some a) (Some b) = a == b
is_same a b = false

-- A PASS, after its LookNumber. No read is checked if the number found is the one with which the last complete
-- pass of this attempt began; else each is, in the order in which they were recorded. Then the own status is
-- looked at.
abbrev pub in_pass : LocalState → Due
in_pass state =
    if state.checked == length state.reads || is_same state.last_pass state.pass
    then just LookSelf
    else just Check

-- A COMMIT, after its Draw: the same checks, by the number drawn, and then the Commit.
abbrev pub in_checking : LocalState → Due
in_checking state =
    if state.checked == length state.reads || is_same state.last_pass state.drawn
    then just Commit
    else just Check

abbrev pub in_checks : Phase → LocalState → Due
in_checks Drawn state = in_checking state
in_checks phase state = in_pass state

-- ---- the calls on a live attempt

-- A COMMIT, before its Draw. The new values are put in the order of opening, of each the high part first, and
-- then the low part. Then Validating.
abbrev pub in_putting : (ℕ → Val) → LocalState → Due
in_putting value state =
    if state.written == length state.writes then just ToValidating
    else if state.high_put then Step PutNew (value (next_write state).object).low
    else Step PutHigh (value (next_write state).object).high

-- THE FIRST EVENT. An open begins to resolve its object, a recheck is one pass, and a release one Release.
abbrev pub at_first : Work → LocalState → Due
at_first (Reading object) state = Step LookObj object
at_first (Writing object) state = Step LookObj object
at_first (Releasing object) state = Step Release object
at_first Rechecking state = just LookNumber
at_first (Committing value) state = in_putting value state

-- Once its object is resolved, an open for reading makes a pass, whose LookNumber records the read. An open for
-- writing first puts the owner and the old version into its next locator, and installs this.
abbrev pub when_resolved : Work → Due
when_resolved (Reading object) = just LookNumber
when_resolved (Writing object) = just PutOwner
when_resolved (Releasing object) = Done
when_resolved Rechecking = Done
when_resolved (Committing value) = Done

-- After its pass an open raises the rank by 1 under Karma and Polka; there it ends, as a recheck does.
abbrev pub when_passed : Work → Manager → LocalState → Due
when_passed Rechecking manager state = Done
when_passed work manager state = if rises manager then Step Rank (min (state.rank + 1) 1023) else Done

abbrev pub when_put : Work → LocalState → Due
when_put (Committing value) state = in_putting value state
when_put work state = Done

-- WHAT COMES AFTER EACH EVENT, in the state and with the effort that it has left. That an attempt is left, or
-- has found a read stale, is not looked at here.
abbrev pub next : Kind → Event → Work → Manager → LocalState → Effort → Due
next LookObj event work manager state effort = in_resolving manager state effort (when_resolved work)
next LookOwner event work manager state effort = in_resolving manager state effort (when_resolved work)
next LookStatus event work manager state effort = in_resolving manager state effort (when_resolved work)
next LookRank event work manager state effort = in_resolving manager state effort (when_resolved work)
next LookOld event work manager state effort = in_resolving manager state effort (when_resolved work)
next LookHigh event work manager state effort = in_resolving manager state effort (when_resolved work)
next LookNew event work manager state effort = in_resolving manager state effort (when_resolved work)
next Kill event work manager state effort = in_resolving manager state effort (when_resolved work)
next Pause event work manager state effort = in_resolving manager state effort (when_resolved work)
next Resume event work manager state effort = in_resolving manager state effort (when_resolved work)
next PutOwner event work manager state effort = just PutOld
next PutOld event work manager state effort = just Install
-- an Install that fails: the open resolves its object again
next Install event work manager state effort =
    if event.found == event.expected then just LookNumber else at_first work state
next LookNumber event work manager state effort = in_pass state
next Check event work manager state effort = in_checks state.phase state
next LookSelf event work manager state effort = when_passed work manager state
next PutHigh event work manager state effort = when_put work state
next PutNew event work manager state effort = when_put work state
next ToValidating event work manager state effort = just Draw
next Draw event work manager state effort = in_checking state
-- with these a call ends
next Rank event work manager state effort = Done
next Release event work manager state effort = Done
next Commit event work manager state effort = Done
next Quit event work manager state effort = Done
-- these are of no call on a live attempt
next Enrol event work manager state effort = Done
next Stamp event work manager state effort = Done
next Begin event work manager state effort = Done

abbrev pub next_or_first : Option Event → Work → Manager → LocalState → Effort → Due
next_or_first None work manager state effort = at_first work state
next_or_first (Some event) work manager state effort = next event.kind event work manager state effort

-- ---- the other calls

-- The caller is spent: its attempts are used up, or fewer locators are left than there are objects.
abbrev pub is_spent : Shape → LocalState → Bool
is_spent shape state =
    not (nat_lt state.begun shape.attempts) || nat_lt shape.locators (state.installed + shape.objects)

abbrev pub has_begun : Option Event → Bool
has_begun None = false
has_begun (Some event) = is_begin event.kind

-- TO BEGIN AN ATTEMPT. An attempt that was dropped before its end is quit. Then a caller that is spent does
-- nothing more. Then, under Greedy and in a new transaction, Stamp. Then, under Karma, Polka and Greedy, the
-- first unused attempt gets its rank: the one kept so far, the stamp, or 0 in a new transaction under Karma and
-- Polka. Then Begin.
abbrev pub in_beginning : Shape → (fresh : Bool) → Option Event → LocalState → Due
in_beginning shape fresh newest state =
    if has_begun newest then Done
    else if not (is_outside state.phase) then just Quit
    else if is_spent shape state then Done
    else if has_stamps shape.manager && fresh && not state.stamped then just Stamp
    else if has_ranks shape.manager && not state.ranked
    then Step Rank (if rises shape.manager && fresh then 0 else state.rank)
    else just Begin

-- THE ORDER OF STEPS: what is due, by the newest event of this call. A caller enrols once. A call on a live
-- attempt ends where the attempt is left. It quits where a read was found stale, or where too many exchanges
-- failed.
abbrev pub due : Task → Shape → (newest : Option Event) → LocalState → Effort → Due
due Enrolling shape newest state effort = if is_some state.number then Done else just Enrol
due (Beginning fresh) shape newest state effort = in_beginning shape fresh newest state
due Leaving shape newest state effort = if is_outside state.phase then Done else just Quit
due (Doing work) shape newest state effort =
    if is_outside state.phase then Done
    else if state.stale || effort.missed == most_missed then just Quit
    else next_or_first newest work shape.manager state effort
