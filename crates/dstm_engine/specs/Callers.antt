-- What contracts see of a caller, and of its last attempt.
use Rattle.std.specs.Prelude.{ℕ, ◌&&◌, Bool, true, false, List, Option, is_some, if◌then◌else◌, None, unwrap_or}
use Rattle.std.specs.Option.{option_or}
use Rattle.rand_pcg.specs.Lcg.{Lcg}
use Rattle.dstm_model.specs.declared.value.Val.{Val}
use Rattle.dstm_model.specs.Map.{Entry, no_value}
use Rattle.dstm_machines.specs.Attempts as attempts
use Rattle.dstm_core.specs.Events.{Event}
use Rattle.dstm_core.specs.Counts.{is_begin}
use Rattle.dstm_core.specs.declared.shape.Shape.{Shape}
use Rattle.dstm_core.specs.declared.state.Phase.{Phase}
use Rattle.dstm_core.specs.declared.state.Phase.TheVariants.{Running}
use Rattle.dstm_core.specs.Histories.{entry_of}
use Rattle.dstm_core.specs.Runs.{local}
use Rattle.dstm_core.specs.State.{LocalState, write_of}
use Rattle.dstm_mem.specs.Memory.{value_in}
use Rattle.dstm_order.specs.declared.again.Again.{Again}
use Rattle.dstm_words.specs.Seats.{caller_view}
use Rattle.dstm_words.specs.Seats.{View, Home}

pub record Called (L : Type 0) : Type 0 where
  pub home : Home L  -- its table, and what this was told
  pub log : List Event  -- the events that it has seen, the newest first
  pub number : ℕ
  pub generator : Lcg  -- its generator, which has the random words not drawn yet
  pub began : Lcg  -- the same as its last attempt began
  pub fresh : Bool  -- its next attempt is the first of a new transaction
  pub set : List (ℕ × Val)  -- the values set in its last attempt
  pub left : Option Again  -- why its last attempt was left

abbrev pub is_running : Phase → Bool
is_running Running = true
is_running phase = false

module _ {L : Type 0} where
  abbrev pub shape_of : Called L → Shape
  shape_of k = k.home.terms.shape

  abbrev pub start_of : Called L → List Val
  start_of k = k.home.terms.start.value.items

  abbrev pub law_of : Called L → L
  law_of k = k.home.terms.law.value

  -- its state, which its own events make
  abbrev pub state : Called L → LocalState
  state k = local (shape_of k) k.log k.number

  -- what its seat knows
  abbrev pub seat_view : Called L → View L
  seat_view k = caller_view k.home.terms k.number k.log

  -- ---- its last attempt

  -- the attempt is live: no call on it was given an `Again`, and it has not committed
  abbrev pub is_live : Called L → Bool
  is_live k = is_running (state k).phase

  -- what it has read and written so far, with the values that the log tells
  abbrev pub entry : Called L → Entry
  entry k = entry_of (shape_of k) (start_of k) k.log (state k)

  -- the value that its reads hold for an object: the one that was read, or the old one of an object opened for
  -- writing
  abbrev pub held : Called L → ℕ → Option Val
  held k = value_in (entry k).reads

  -- the value that was last set for an object
  abbrev pub written : Called L → ℕ → Option Val
  written k = value_in k.set

  abbrev pub is_opened : Called L → ℕ → Bool
  is_opened k o = is_some (write_of o (state k).writes)

  -- the value that an open hands out
  abbrev pub handed : Called L → ℕ → Option Val
  handed k o = option_or (written k o) (held k o)

  -- the value that a commit puts into an object opened for writing
  abbrev pub new_value : Called L → ℕ → Val
  new_value k o = unwrap_or (handed k o) no_value

  -- what it holds and has opened while it is live; an attempt that was left holds nothing
  abbrev pub live_held : Called L → ℕ → Option Val
  live_held k o = if is_live k then held k o else None

  abbrev pub live_opened : Called L → ℕ → Bool
  live_opened k o = is_live k && is_opened k o

-- ---- the last attempt in a log

-- the log as it was after the last Begin of caller c
abbrev pub begun_log : ℕ → List Event → List Event
begun_log c log = attempts.begun_log is_begin c log

-- the events after the last Begin of caller c, of all callers
abbrev pub since_begin : ℕ → List Event → List Event
since_begin c log = attempts.since_begun is_begin c log
