-- One caller's state, which its own events make.
use Rattle.std.specs.Prelude.{ℕ, ◌+◌, ◌-◌, ◌*◌, ◌==◌, ◌&&◌, Bool, true, false, not, nat_lt, List, [], ◌∷◌, ◌++◌, slice_get, Option, Some, None, is_some, is_none, if◌then◌else◌}
use Rattle.dstm_core.specs.declared.shape.Shape.{Shape}
use Rattle.dstm_core.specs.declared.state.Phase.{Phase}
use Rattle.dstm_core.specs.declared.state.Phase.TheVariants.{Outside, Running, Paused, Putting, Validating, Drawn}
use Rattle.dstm_core.specs.declared.state.Read.{Read}
use Rattle.dstm_core.specs.declared.state.Write.{Write}
use Rattle.dstm_core.specs.declared.state.Resolution.{Resolution}
use Rattle.dstm_core.specs.declared.status.Status.TheVariants as status
use Rattle.dstm_core.specs.Words.{code_of}

pub record LocalState : Type 0 where
  pub number : Option ℕ  -- its number, which its Enrol found
  pub begun : ℕ  -- how many attempts it has begun
  pub installed : ℕ  -- how many locators it has installed
  pub rank : ℕ  -- its rank
  pub stamped : Bool  -- a Stamp came since the last Begin
  pub stands : Bool  -- a Stamp came since the last commit
  pub ranked : Bool  -- a Rank of the first unused attempt came, after the last Stamp
  pub committed : Bool  -- the last attempt committed
  pub owed : Bool  -- in this attempt a read was recorded or an Install succeeded, and no Rank since
  pub phase : Phase
  pub stale : Bool  -- a word was found that is not the recorded one
  pub held_owner : Option ℕ  -- what the owner of the first unused locator holds, once it was put
  pub held_old : Option ℕ  -- what the old word of the first unused locator holds, once it was put
  pub reads : List Read  -- the reads recorded, the oldest first
  pub writes : List Write  -- the objects opened for writing, the oldest first
  pub written : ℕ  -- how many of the writes have their new value put
  pub high_put : Bool  -- the next of them has the high part of its value put
  pub resolution : Option Resolution
  pub pass : Option ℕ  -- the number that LookNumber found, where a pass is begun
  pub checked : ℕ  -- how many reads were checked in this pass, or since the Draw
  pub last_pass : Option ℕ  -- the number with which the last complete pass of this attempt began
  pub drawn : Option ℕ  -- the number that the Draw found

-- the state before any event
abbrev pub first : LocalState
first = record {
  number = None;
  begun = 0;
  installed = 0;
  rank = 0;
  stamped = false;
  stands = false;
  ranked = false;
  committed = false;
  owed = false;
  phase = Outside;
  stale = false;
  held_owner = None;
  held_old = None;
  reads = [];
  writes = [];
  written = 0;
  high_put = false;
  resolution = None;
  pass = None;
  checked = 0;
  last_pass = None;
  drawn = None;
}

-- ---- attempts, locators and statuses

-- a number that may be absent
abbrev pub or_zero : Option ℕ → ℕ
or_zero None = 0
or_zero (Some n) = n

-- the first unused attempt
abbrev pub next_attempt : Shape → LocalState → ℕ
next_attempt shape state = or_zero state.number * shape.attempts + state.begun

-- the attempt that was begun last
abbrev pub own_attempt : Shape → LocalState → ℕ
own_attempt shape state = or_zero state.number * shape.attempts + (state.begun - 1)

-- the first unused locator
abbrev pub next_locator : Shape → LocalState → ℕ
next_locator shape state = or_zero state.number * shape.locators + state.installed

-- the status that the attempt was given last, which the phase tells
abbrev pub given : Phase → ℕ
given Outside = code_of status.Idle
given Running = code_of status.Active
given Paused = code_of status.Waiting
given Putting = code_of status.Active
given Validating = code_of status.Validating
given Drawn = code_of status.Validating

-- the code of a status that is neither idle nor finished
abbrev pub is_live : ℕ → Bool
is_live code = nat_lt (code_of status.Idle) code && nat_lt code (code_of status.Committed)

-- ---- reads and writes

abbrev pub read_of : ℕ → List Read → Option Read
read_of o [] = None
read_of o (r ∷ rs) = if r.object == o then Some r else read_of o rs

abbrev pub write_of : ℕ → List Write → Option Write
write_of o [] = None
write_of o (w ∷ ws) = if w.object == o then Some w else write_of o ws

-- the reads without the one of object o
abbrev pub drop_read : ℕ → List Read → List Read
drop_read o [] = []
drop_read o (r ∷ rs) = if r.object == o then rs else r ∷ drop_read o rs

-- there is a read, of another word
abbrev pub is_other : ℕ → Option Read → Bool
is_other word None = false
is_other word (Some r) = not (r.word == word)

abbrev pub or_read : Option Read → Read
or_read None = record { object = 0; word = 0; version = 0 }
or_read (Some r) = r

abbrev pub or_write : Option Write → Write
or_write None = record { object = 0; locator = 0; old = 0 }
or_write (Some w) = w

-- the read that is checked next, where one is left
abbrev pub next_read : LocalState → Read
next_read state = or_read (slice_get state.reads state.checked)

-- the write whose value is put next, where one is left
abbrev pub next_write : LocalState → Write
next_write state = or_write (slice_get state.writes state.written)

-- ---- resolutions

-- nothing was found out
abbrev pub unresolved : Resolution
unresolved = record {
  object = 0;
  word = 0;
  owner = None;
  status = None;
  rank = None;
  old = None;
  high = None;
  value = None;
}

abbrev pub or_unresolved : Option Resolution → Resolution
or_unresolved None = unresolved
or_unresolved (Some r) = r

-- what was found out of the object that is being resolved
abbrev pub res : LocalState → Resolution
res state = or_unresolved state.resolution

-- the version that a word stands for, by what was found of its owner's status and of its old version
abbrev pub version_by : ℕ → Option ℕ → Option ℕ → Option ℕ
version_by word code old =
    if word == 0 then Some 0
    else if or_zero code == code_of status.Committed then Some word
    else if or_zero code == code_of status.Aborted then old
    else None

-- the version of a resolution, where it is known
abbrev pub version : Resolution → Option ℕ
version r = version_by r.word r.status r.old

-- the version is 0, or its value was found
abbrev pub is_resolved : Resolution → Bool
is_resolved r = if or_zero (version r) == 0 then is_some (version r) else is_some r.value

-- what is resolved stays, and what is not is dropped
abbrev pub keep_resolved : Option Resolution → Option Resolution
keep_resolved None = None
keep_resolved (Some r) = if is_resolved r then Some r else None

-- a resolved object with no read recorded becomes the last read
abbrev pub record_resolved : Option Resolution → List Read → List Read
record_resolved None reads = reads
record_resolved (Some r) reads =
    if is_resolved r && is_none (read_of r.object reads)
    then reads ++ record { object = r.object; word = r.word; version = or_zero (version r) } ∷ []
    else reads

-- ---- steps

-- the state once a locator stands in the object that was resolved
abbrev pub with_locator : LocalState → Resolution → ℕ → LocalState
with_locator state seen locator = record state {
  installed = state.installed + 1;
  held_owner = None;
  held_old = None;
  writes =
      state.writes ++ record { object = seen.object; locator = locator; old = or_zero (version seen) } ∷ [];
  reads = drop_read seen.object state.reads;
  checked = 0;
  owed = true;
}
