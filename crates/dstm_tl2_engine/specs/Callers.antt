-- What contracts see of a caller, and of its last attempt.
use Rattle.std.specs.Prelude.{ℕ, ◌==◌, ◌&&◌, Bool, not, nat_lt, List, length, Option, is_some, is_none}
use Rattle.std.specs.Option.{option_or}
use Rattle.dstm_model.specs.declared.value.Val.{Val}
use Rattle.dstm_mem.specs.Memory.{value_in}
use Rattle.dstm_machines.specs.Attempts as attempts
use Rattle.dstm_tl2.specs.Histories.{is_sample, read_values}
use Rattle.dstm_tl2.specs.Rules.{Event}
use Rattle.dstm_tl2.specs.Runs.{local}
use Rattle.dstm_tl2.specs.Sharing.{table_of}
use Rattle.dstm_tl2.specs.State.{LocalState}
use Rattle.dstm_tl2.specs.Words.{Table, objects}
use Rattle.dstm_tl2_words.specs.Seats.{View, Home}
use Rattle.dstm_tl2_words.specs.Seats.{caller_view}
use Rattle.dstm_tl2_order.specs.declared.again.TlAgain.{TlAgain}

pub record TlCalled (L : Type 0) : Type 0 where
  pub home : Home L  -- its table, and what this was told
  pub log : List Event  -- the events that it has seen, the newest first
  pub number : ℕ
  pub writes : List (ℕ × Val)  -- the objects that its last attempt has opened for writing, each with its new value
  pub set : List (ℕ × Val)  -- those of them that were set
  pub left : Option TlAgain  -- why its last attempt was left

module _ {L : Type 0} where
  abbrev pub table_of_caller : TlCalled L → Table
  table_of_caller k = table_of k.home.terms

  abbrev pub objects_of : TlCalled L → ℕ
  objects_of k = objects (table_of_caller k)

  abbrev pub start_of : TlCalled L → List Val
  start_of k = k.home.terms.start.value.items

  abbrev pub law_of : TlCalled L → L
  law_of k = k.home.terms.law.value

  -- its state, which its own events make
  abbrev pub state : TlCalled L → LocalState
  state k = local (table_of_caller k) k.log k.number

  abbrev pub seat_view : TlCalled L → View L
  seat_view k = caller_view k.home.terms k.number k.log

  -- ---- its last attempt, while no call on it has locked

  -- no call on it was given a `TlAgain`
  abbrev pub is_live : TlCalled L → Bool
  is_live k = is_none k.left

  -- the value that was read of an object
  abbrev pub held : TlCalled L → ℕ → Option Val
  held k = value_in (read_values (state k).reads)

  -- the value that was last set for an object
  abbrev pub written : TlCalled L → ℕ → Option Val
  written k = value_in k.set

  abbrev pub is_opened : TlCalled L → ℕ → Bool
  is_opened k o = is_some (value_in k.writes o)

  -- the value that an open hands out
  abbrev pub handed : TlCalled L → ℕ → Option Val
  handed k o = option_or (written k o) (held k o)

-- the attempt has begun, and nothing of it is under way, told or drawn
abbrev pub is_resting : LocalState → Bool
is_resting state =
    nat_lt 0 state.begun && (is_none state.look && (is_none state.writes && ((state.locked == 0)
    && ((length state.holds == 0) && (is_none state.drawn && (not state.failed && not state.gave_back))))))

-- ---- the last attempt in a log

-- the log as it was after the last Sample of caller c
abbrev pub begun_log : ℕ → List Event → List Event
begun_log c log = attempts.begun_log is_sample c log

-- the events after the last Sample of caller c, of all callers
abbrev pub since_sample : ℕ → List Event → List Event
since_sample c log = attempts.since_begun is_sample c log
