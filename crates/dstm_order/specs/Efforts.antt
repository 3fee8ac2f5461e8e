-- What a call has behind it, beside its caller's state: how often it failed and how long it waited.
use Rattle.std.specs.Prelude.{ℕ, ◌+◌, ◌-◌, ◌==◌, Bool, false, is_some, if◌then◌else◌}
use Rattle.dstm_core.specs.Events.{Event}
use Rattle.dstm_core.specs.declared.event.Kind.{Kind}
use Rattle.dstm_core.specs.declared.event.Kind.TheVariants.{LookObj, LookStatus, Install, Kill, Pause, Resume}
use Rattle.dstm_core.specs.declared.shape.Manager.{Manager}
use Rattle.dstm_core.specs.declared.state.Phase.{Phase}
use Rattle.dstm_core.specs.declared.state.Phase.TheVariants.{Paused}
use Rattle.dstm_core.specs.declared.status.Status.{Status}
use Rattle.dstm_core.specs.declared.status.Status.TheVariants as status
use Rattle.dstm_core.specs.State.{LocalState, or_zero, res}
use Rattle.dstm_core.specs.Words.{code_of}
use Rattle.dstm_managers.specs.declared.decider.Choice.{Choice}
use Rattle.dstm_managers.specs.declared.decider.Choice.TheVariants as decision
use Rattle.dstm_managers.specs.Choices.{DeciderState, choice, next_word, decider_after as decided}
use Rattle.rand_pcg.specs.Lcg.{Lcg}

-- an attempt quits once so many exchanges of one call have failed,
abbrev pub most_missed : ℕ
most_missed = 64

-- and after so many turns of giving way
abbrev pub most_patience : ℕ
most_patience = 4096

pub record Effort : Type 0 where
  pub missed : ℕ  -- how many exchanges of this call failed, those on the own status aside
  pub round : ℕ  -- how many rounds it waited in this conflict
  pub left : ℕ  -- how many turns are left in this wait
  pub generator : Lcg  -- the caller's generator, which has the random words not drawn yet

-- as a call begins
abbrev pub no_effort : Lcg → Effort
no_effort generator = record { missed = 0; round = 0; left = 0; generator = generator }

-- ---- what the manager chooses

-- the status that a code names
abbrev pub status_of : ℕ → Status
status_of code =
    if code == code_of status.Active then status.Active
    else if code == code_of status.Waiting then status.Waiting
    else if code == code_of status.Validating then status.Validating
    else if code == code_of status.Committed then status.Committed
    else if code == code_of status.Aborted then status.Aborted
    else status.Idle

-- the manager with the caller's generator
abbrev pub decider_of : Manager → Effort → DeciderState
decider_of manager effort = record { manager = manager; generator = effort.generator }

-- what the manager chooses about the enemy, the live owner of the object that is being resolved: by the own
-- rank, the rank and the status that were found of the enemy, and the rounds waited
abbrev pub chosen : Manager → LocalState → Effort → Choice
chosen manager state effort =
    choice manager state.rank (or_zero (res state).rank) (status_of (or_zero (res state).status)) effort.round
    (next_word (decider_of manager effort))

-- the turns of a wait
abbrev pub turns_of : Choice → ℕ
turns_of (decision.Wait turns) = turns
turns_of decision.Kill = 0
turns_of decision.GiveWay = 0

-- ---- the effort after an event, by the state and the effort before it

-- an exchange counts where it found another word than the expected one
abbrev pub exchanges : Effort → Event → Effort
exchanges effort event =
    if event.found == event.expected then effort else record effort { missed = effort.missed + 1 }

-- a LookStatus is a turn of waiting where the status was looked at before
abbrev pub is_turn : Kind → LocalState → Bool
is_turn LookStatus state = is_some (res state).status
is_turn kind state = false

-- one of some turns that were left; the round ends with the last one
abbrev pub turn : ℕ → Effort → Effort
turn left effort =
    record effort { left = left - 1; round = if left == 1 then effort.round + 1 else effort.round }

-- once the manager was asked: a wait of a random length takes a word of the generator
abbrev pub when_asked : Manager → LocalState → Effort → Effort
when_asked manager state effort =
    record effort { generator = (decided (decider_of manager effort) (chosen manager state effort)).generator }

-- A turn of a conflict. Where no turn is left a wait begins, of as many turns as the manager chooses.
abbrev pub turn_of_conflict : Manager → LocalState → Effort → Effort
turn_of_conflict manager state effort =
    if effort.left == 0
    then turn (turns_of (chosen manager state effort)) (when_asked manager state effort)
    else turn effort.left effort

-- a turn while the attempt gives way is in no round
abbrev pub turn_in : Phase → Manager → LocalState → Effort → Effort
turn_in Paused manager state effort = record effort { left = effort.left - 1 }
turn_in phase manager state effort = turn_of_conflict manager state effort

abbrev pub effort_after : Kind → Manager → LocalState → Effort → Event → Effort
effort_after LookObj manager state effort event = record effort { round = 0; left = 0 }
effort_after LookStatus manager state effort event =
    if is_turn LookStatus state then turn_in state.phase manager state effort else effort
effort_after Install manager state effort event = exchanges effort event
effort_after Kill manager state effort event = exchanges effort event
effort_after Pause manager state effort event = record effort { left = most_patience }
effort_after Resume manager state effort event = record effort { left = 0 }
effort_after kind manager state effort event = effort
