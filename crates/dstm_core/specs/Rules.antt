-- The local rules: for each kind of event the word that it aims at, what it does to that word, where it is
-- allowed, and the caller's state after it. What an event finds is never a reason to refuse it.
use Rattle.std.specs.Prelude.{◌≡◌, ◌≢◌, ◌⊎◌, ℕ, ◌+◌, ◌-◌, ◌<◌, ◌≤◌, ◌==◌, ◌||◌, Bool, true, false, not, min, [], ◌∷◌, ◌++◌, length, Some, None, is_some, if◌then◌else◌}
use Rattle.dstm_core.specs.Events.{Event}
use Rattle.dstm_core.specs.declared.event.Kind.{Kind}
use Rattle.dstm_core.specs.declared.event.Kind.TheVariants.{Enrol, Stamp, Rank, Begin, LookObj, LookOwner, LookStatus, LookRank, LookOld, LookHigh, LookNew, PutOwner, PutOld, Install, LookNumber, Check, LookSelf, Release, PutHigh, PutNew, Validating as ToValidating, Draw, Commit, Kill, Quit, Pause, Resume}
use Rattle.dstm_core.specs.declared.shape.Manager.{Manager}
use Rattle.dstm_core.specs.declared.shape.Manager.TheVariants.{Polite, Karma, Polka, Greedy}
use Rattle.dstm_core.specs.declared.shape.Shape.{Shape}
use Rattle.dstm_core.specs.declared.state.Phase.{Phase}
use Rattle.dstm_core.specs.declared.state.Phase.TheVariants.{Outside, Running, Paused, Putting, Validating, Drawn}
use Rattle.dstm_core.specs.declared.state.Resolution.{Resolution}
use Rattle.dstm_core.specs.declared.status.Status.TheVariants as status
use Rattle.dstm_core.specs.State.{LocalState, first, or_zero, next_attempt, own_attempt, next_locator, given, is_live, read_of, write_of, drop_read, is_other, next_read, next_write, res, version, is_resolved, unresolved, keep_resolved, record_resolved}
use Rattle.dstm_core.specs.Traces.{Access, Acts}
use Rattle.dstm_machines.specs.Traces.Access.{Load, Store, Exchange, Add}
use Rattle.dstm_core.specs.Words.{Word, HasWord, place, code_of}
use Rattle.dstm_core.specs.Words.Word.{ObjectWord, StatusWord, RankWord, OwnerWord, OldWord, LowWord, HighWord, CallersWord, NumbersWord, StampsWord}

-- ---- the word that an event aims at

-- the attempt whose rank a Rank stores: before Begin the first unused one, else the own one
abbrev pub rank_of : Phase → Shape → LocalState → ℕ
rank_of Outside shape state = next_attempt shape state
rank_of phase shape state = own_attempt shape state

abbrev pub target : Kind → Shape → LocalState → Event → Word
target Enrol shape state event = CallersWord
target Stamp shape state event = StampsWord
target Rank shape state event = RankWord (rank_of state.phase shape state)
target Begin shape state event = StatusWord (next_attempt shape state)
target LookObj shape state event = ObjectWord event.place
target LookOwner shape state event = OwnerWord ((res state).word - 1)
target LookStatus shape state event = StatusWord (or_zero (res state).owner)
target LookRank shape state event = RankWord (or_zero (res state).owner)
target LookOld shape state event = OldWord ((res state).word - 1)
target LookHigh shape state event = HighWord (or_zero (version (res state)) - 1)
target LookNew shape state event = LowWord (or_zero (version (res state)) - 1)
target PutOwner shape state event = OwnerWord (next_locator shape state)
target PutOld shape state event = OldWord (next_locator shape state)
target Install shape state event = ObjectWord (res state).object
target LookNumber shape state event = NumbersWord
target Check shape state event = ObjectWord (next_read state).object
target LookSelf shape state event = StatusWord (own_attempt shape state)
target Release shape state event = ObjectWord event.place
target PutHigh shape state event = HighWord (next_write state).locator
target PutNew shape state event = LowWord (next_write state).locator
target ToValidating shape state event = StatusWord (own_attempt shape state)
target Draw shape state event = NumbersWord
target Commit shape state event = StatusWord (own_attempt shape state)
target Kill shape state event = StatusWord (or_zero (res state).owner)
target Quit shape state event = StatusWord (own_attempt shape state)
target Pause shape state event = StatusWord (own_attempt shape state)
target Resume shape state event = StatusWord (own_attempt shape state)

-- ---- what an event does to that word. Rank, PutHigh and PutNew store any number that the rules allow.

abbrev pub access : Kind → Shape → LocalState → Event → Access
access Enrol shape state event = Add
access Stamp shape state event = Add
access Rank shape state event = Store event.put
access Begin shape state event = Store (code_of status.Active)
access LookObj shape state event = Load
access LookOwner shape state event = Load
access LookStatus shape state event = Load
access LookRank shape state event = Load
access LookOld shape state event = Load
access LookHigh shape state event = Load
access LookNew shape state event = Load
access PutOwner shape state event = Store (own_attempt shape state)
access PutOld shape state event = Store (or_zero (version (res state)))
access Install shape state event = Exchange (res state).word (next_locator shape state + 1)
access LookNumber shape state event = Load
access Check shape state event = Load
access LookSelf shape state event = Load
access Release shape state event = Load
access PutHigh shape state event = Store event.put
access PutNew shape state event = Store event.put
access ToValidating shape state event = Exchange (code_of status.Active) (code_of status.Validating)
access Draw shape state event = Add
access Commit shape state event = Exchange (code_of status.Validating) (code_of status.Committed)
access Kill shape state event = Exchange (or_zero (res state).status) (code_of status.Aborted)
access Quit shape state event = Exchange (given state.phase) (code_of status.Aborted)
access Pause shape state event = Exchange (code_of status.Active) (code_of status.Waiting)
access Resume shape state event = Exchange (code_of status.Waiting) (code_of status.Active)

-- ---- where an event is allowed

-- the managers under which an attempt's rank rises as it opens objects
abbrev pub Rises : Manager → Type 0
Rises manager = (manager ≡ Karma) ⊎ (manager ≡ Polka)

-- the number that a Rank may store before Begin
abbrev pub MayRankFirst : Shape → LocalState → ℕ → Type 0
MayRankFirst shape state rank =
    (Rises shape.manager × ((rank ≡ 0) ⊎ ((state.committed ≡ false) × (rank ≡ state.rank))))
    ⊎ ((shape.manager ≡ Greedy) × (rank ≡ state.rank) × (state.stands ≡ true))

-- a Rank is allowed before Begin, and in an attempt that has opened an object since the last one
abbrev pub MayRank : Phase → Shape → LocalState → ℕ → Type 0
MayRank Outside shape state rank =
    (is_some state.number ≡ true) × (state.begun < shape.attempts) × MayRankFirst shape state rank
MayRank Running shape state rank =
    (state.stale ≡ false) × Rises shape.manager × (state.owed ≡ true)
    × (rank ≡ min (state.rank + 1) 1023)
MayRank phase shape state rank = ⊥

-- under Greedy an enemy may be aborted only if it is younger, or waits
abbrev pub MayKill : Manager → LocalState → Resolution → Type 0
MayKill Greedy state enemy =
    (is_some enemy.rank ≡ true)
    × ((state.rank < or_zero enemy.rank) ⊎ (or_zero enemy.status ≡ code_of status.Waiting))
MayKill manager state enemy = Unit {0}

-- a stale attempt may do nothing but Quit
abbrev pub May : Kind → Shape → LocalState → Event → Type 0
May Enrol shape state event = state.number ≡ None
May Stamp shape state event =
    (state.phase ≡ Outside) × (is_some state.number ≡ true)
    × (shape.manager ≡ Greedy) × (state.stamped ≡ false)
May Rank shape state event = MayRank state.phase shape state event.put
May Begin shape state event =
    (state.phase ≡ Outside) × (is_some state.number ≡ true)
    × (state.begun < shape.attempts) × ((shape.manager ≡ Polite) ⊎ (state.ranked ≡ true))
May LookObj shape state event =
    (state.phase ≡ Running) × (state.stale ≡ false)
    × (write_of event.place state.writes ≡ None)
May LookOwner shape state event =
    (state.phase ≡ Running) × (state.stale ≡ false)
    × (0 < (res state).word)
May LookStatus shape state event =
    ((state.phase ≡ Running) ⊎ (state.phase ≡ Paused)) × (state.stale ≡ false)
    × (is_some (res state).owner ≡ true) × (or_zero (res state).status < code_of status.Committed)
May LookRank shape state event =
    (state.phase ≡ Running) × (state.stale ≡ false)
    × (is_some (res state).owner ≡ true) × (shape.manager ≢ Polite)
May LookOld shape state event =
    (state.phase ≡ Running) × (state.stale ≡ false)
    × (or_zero (res state).status ≡ code_of status.Aborted)
May LookHigh shape state event =
    (state.phase ≡ Running) × (state.stale ≡ false)
    × (0 < or_zero (version (res state)))
May LookNew shape state event =
    (state.phase ≡ Running) × (state.stale ≡ false)
    × (is_some (res state).high ≡ true)
May PutOwner shape state event =
    (state.phase ≡ Running) × (state.stale ≡ false)
    × (state.installed < shape.locators)
May PutOld shape state event =
    (state.phase ≡ Running) × (state.stale ≡ false)
    × (is_some state.resolution ≡ true) × (is_resolved (res state) ≡ true)
    × (state.held_owner ≡ Some (own_attempt shape state))
May Install shape state event =
    (state.phase ≡ Running) × (state.stale ≡ false)
    × (is_some state.resolution ≡ true) × (is_resolved (res state) ≡ true)
    × (state.held_owner ≡ Some (own_attempt shape state)) × (state.held_old ≡ version (res state))
May LookNumber shape state event = (state.phase ≡ Running) × (state.stale ≡ false)
May Check shape state event =
    (((state.phase ≡ Running) × (is_some state.pass ≡ true)) ⊎ (state.phase ≡ Drawn)) × (state.stale ≡ false)
    × (state.checked < length state.reads)
May LookSelf shape state event =
    (state.phase ≡ Running) × (state.stale ≡ false)
    × (is_some state.pass ≡ true)
    × ((state.checked ≡ length state.reads) ⊎ (state.last_pass ≡ state.pass))
May Release shape state event =
    (state.phase ≡ Running) × (state.stale ≡ false)
    × (is_some (read_of event.place state.reads) ≡ true)
May PutHigh shape state event =
    ((state.phase ≡ Running) ⊎ (state.phase ≡ Putting)) × (state.stale ≡ false)
    × (state.written < length state.writes) × (state.high_put ≡ false)
May PutNew shape state event =
    (state.phase ≡ Putting) × (state.stale ≡ false)
    × (state.written < length state.writes) × (state.high_put ≡ true)
May ToValidating shape state event =
    (((state.phase ≡ Running) × (state.writes ≡ []))
    ⊎ ((state.phase ≡ Putting) × (state.written ≡ length state.writes)))
    × (state.stale ≡ false)
May Draw shape state event = (state.phase ≡ Validating) × (state.stale ≡ false)
May Commit shape state event =
    (state.phase ≡ Drawn) × (state.stale ≡ false)
    × ((state.checked ≡ length state.reads) ⊎ (state.last_pass ≡ state.drawn))
May Kill shape state event =
    (state.phase ≡ Running) × (state.stale ≡ false)
    × (is_some (res state).owner ≡ true) × (is_live (or_zero (res state).status) ≡ true)
    × MayKill shape.manager state (res state)
May Quit shape state event = state.phase ≢ Outside
May Pause shape state event =
    (state.phase ≡ Running) × (state.stale ≡ false)
    × (shape.manager ≡ Greedy)
    × (is_some (res state).owner ≡ true) × (is_some (res state).rank ≡ true)
    × (or_zero (res state).rank ≤ state.rank)
    × (is_live (or_zero (res state).status) ≡ true) × (or_zero (res state).status ≢ code_of status.Waiting)
May Resume shape state event = (state.phase ≡ Paused) × (state.stale ≡ false)

-- the event is aimed at the right word, which the shape has; it acts on it as it should; and it may come now
abbrev pub AllowedAs : Kind → Shape → LocalState → Event → Type 0
AllowedAs kind shape state event =
    (event.place ≡ place shape (target kind shape state event))
    × Acts (access kind shape state event) event
    × May kind shape state event
    × HasWord shape (target kind shape state event)

-- ---- the state after an event

-- Begin drops what belongs to the attempt before: all but these is as it was at first
abbrev pub begin : LocalState → LocalState
begin state = record first {
  number = state.number;
  begun = state.begun + 1;
  installed = state.installed;
  rank = state.rank;
  stands = state.stands;
  phase = Running;
  held_owner = state.held_owner;
  held_old = state.held_old;
}

-- the attempt is over
abbrev pub leave : LocalState → LocalState
leave state = record state { phase = Outside }

-- something was found out of the object that is being resolved; a pass that was begun is dropped
abbrev pub resolving : LocalState → Resolution → LocalState
resolving state r = record state { resolution = Some r; pass = None; checked = 0 }

-- the first unused locator is used, for the object that was resolved
abbrev pub install : Shape → LocalState → LocalState
install shape state = record state {
  resolution = None;
  installed = state.installed + 1;
  held_owner = None;
  held_old = None;
  writes = state.writes ++ record {
    object = (res state).object;
    locator = next_locator shape state;
    old = or_zero (version (res state));
  } ∷ [];
  reads = drop_read (res state).object state.reads;
  pass = None;
  checked = 0;
  owed = true;
}

abbrev pub is_outside : Phase → Bool
is_outside Outside = true
is_outside phase = false

abbrev pub after : Kind → Shape → LocalState → Event → LocalState
after Enrol shape state event = record state { number = Some event.found }
after Stamp shape state event = record state { rank = event.found; stamped = true; stands = true; ranked = false }
after Rank shape state event =
    record state { rank = event.put; ranked = is_outside state.phase; owed = false; pass = None; checked = 0 }
after Begin shape state event = begin state
after LookObj shape state event = record state {
  resolution = Some (record unresolved { object = event.place; word = event.found });
  stale = is_other event.found (read_of event.place state.reads);
  pass = None;
  checked = 0;
}
after LookOwner shape state event = resolving state (record (res state) { owner = Some event.found })
after LookStatus shape state event = resolving state (record (res state) { status = Some event.found })
after LookRank shape state event = resolving state (record (res state) { rank = Some event.found })
after LookOld shape state event = resolving state (record (res state) { old = Some event.found })
after LookHigh shape state event = resolving state (record (res state) { high = Some event.found })
after LookNew shape state event = resolving state (record (res state) { value = Some event.found })
after PutOwner shape state event = record state { held_owner = Some event.put; pass = None; checked = 0 }
after PutOld shape state event = record state { held_old = Some event.put; pass = None; checked = 0 }
after Install shape state event =
    if event.found == event.expected
    then install shape state
    else record state { resolution = None; pass = None; checked = 0 }
after LookNumber shape state event = record state {
  pass = Some event.found;
  checked = 0;
  resolution = keep_resolved state.resolution;
  reads = record_resolved state.resolution state.reads;
  owed = state.owed || not (length (record_resolved state.resolution state.reads) == length state.reads);
}
after Check shape state event =
    record state { checked = state.checked + 1; stale = not (event.found == (next_read state).word) }
after LookSelf shape state event =
    if event.found == given state.phase
    then record state { last_pass = state.pass; pass = None; checked = 0 }
    else leave state
after Release shape state event =
    record state { reads = drop_read event.place state.reads; resolution = None; pass = None; checked = 0 }
after PutHigh shape state event = record state { phase = Putting; high_put = true; pass = None; checked = 0 }
after PutNew shape state event =
    record state { phase = Putting; written = state.written + 1; high_put = false; pass = None; checked = 0 }
after ToValidating shape state event =
    if event.found == code_of status.Active then record state { phase = Validating } else leave state
after Draw shape state event = record state { phase = Drawn; drawn = Some event.found; checked = 0 }
after Commit shape state event = record state {
  phase = Outside;
  committed = event.found == code_of status.Validating;
  stands = if event.found == code_of status.Validating then false else state.stands;
}
after Kill shape state event = resolving state (record (res state) { status = Some event.put })
after Quit shape state event = leave state
after Pause shape state event =
    if event.found == code_of status.Active
    then record state { phase = Paused; pass = None; checked = 0 }
    else leave state
after Resume shape state event =
    if event.found == code_of status.Waiting
    then record state { phase = Running; pass = None; checked = 0 }
    else leave state
