-- What the calls of an attempt say.
use Rattle.std.specs.Prelude.{◌≡◌, ◌≢◌, ◌<◌, ℕ, Bool, true, false, List, [], ◌∷◌, ◌++◌, length, map, Option, None, Some, Result, Ok, Err}
use base.Fml.{GName}
use Rattle.dstm_model.specs.declared.value.Val.{Val}
use Rattle.dstm_mem.specs.Memory.{with_set}
use Rattle.dstm_tl2.specs.Rules.{Event, begin, new_hold}
use Rattle.dstm_tl2_words.specs.Seats.{Home}
use Rattle.dstm_tl2_order.specs.declared.again.TlAgain.{TlAgain}
use Rattle.dstm_tl2_engine.specs.Attempts.{Admits, Committed, Seen, done}
use Rattle.dstm_tl2_engine.specs.Callers.{TlCalled, state, table_of_caller, law_of, is_live, held, written, begun_log}
use Rattle.dstm_tl2_order.specs.Calls.{Causes}
use Rattle.dstm_tl2_engine.specs.Calls.{Performs}
use Rattle.dstm_tl2_order.specs.Order.{is_spent}
use Rattle.dstm_tl2_engine.specs.Outcomes.{IsLeft}
use Rattle.dstm_tl2_order.specs.Tasks.{Work}
use Rattle.dstm_tl2_order.specs.Tasks.Task.{Beginning, Doing}

-- which attempt it is: the reference that it borrows, the table, the caller, and the log as it began
pub record TxPlace (L : Type 0) : Type 0 where
  pub reference : GName
  pub table : Home L
  pub home : Home L
  pub number : ℕ
  pub began : List Event
  pub done : List Committed

-- the `TlAgain` of an answer
abbrev pub given_back : {T : Type 0} → Result T TlAgain → Option TlAgain
given_back (Ok x) = None
given_back (Err again) = Some again

abbrev pub is_ok : {T E : Type 0} → Result T E → Bool
is_ok (Ok x) = true
is_ok (Err e) = false

module _ {L : Type 0} where
  abbrev pub tx_place : GName → Home L → TlCalled L → TxPlace L
  tx_place name table k = record {
    reference = name;
    table = table;
    home = k.home;
    number = k.number;
    began = begun_log k.number k.log;
    done = done k;
  }

  -- An object was newly opened for writing: it has the value that was read.
  pub record Marks (o : ℕ) (k n : TlCalled L) (value : Val) : Type 0 where
    pub writes : n.writes ≡ k.writes ++ (o, value) ∷ []
    pub set : n.set ≡ k.set
    pub read : Some value ≡ held n o

  -- All objects written are locked, in the order of opening, with the words that were recorded; no number is drawn. So
  -- what is left to do needs nothing else.
  pub record HasLocked (n : TlCalled L) : Type 0 where
    pub begun : 0 < (state n).begun
    pub locked : (state n).locked ≡ length n.writes
    pub told : (state n).writes ≢ None → (state n).writes ≡ Some n.writes
    pub all : (state n).holds ≡ map (new_hold (state n)) n.writes
    pub undrawn : (state n).drawn ≡ None
    pub sound : ((state n).failed ≡ false) × ((state n).gave_back ≡ false)
    pub live : is_live n ≡ true

  module _ (holds : L → List Val → Type 0) where
    -- An attempt has begun: nothing was read, set or opened, and a map is admitted.
    pub record BeginsAnew (k n : TlCalled L) : Type 0 where
      pub steps : Performs holds Beginning k n None
      pub caller : n ≡ record k { log = n.log; writes = []; set = []; left = None }
      pub untouched : (map : List Val) → with_set map (written n) ≡ map
      pub begun : (sample : ℕ) × (state n ≡ begin (state k) sample)
      pub at_begin : n.log ≡ begun_log n.number n.log
      pub same_done : done n ≡ done k
      pub enough : is_spent (table_of_caller k) (state k) ≡ false
      pub admits : (map : List Val) × Admits holds n map

    -- No attempt has begun. What a dropped one had locked was given back.
    pub record SpentFrom (k n : TlCalled L) : Type 0 where
      pub steps : Performs holds Beginning k n None
      pub caller : n ≡ record k { log = n.log }
      pub free : (state n).holds ≡ []
      pub begun : (state n).begun ≡ (state k).begun
      pub same_done : done n ≡ done k
      pub spent : is_spent (table_of_caller k) (state k) ≡ true

    -- A call has left its attempt, for this cause.
    pub record Leaves (work : Work) (k n : TlCalled L) (again : TlAgain) : Type 0 where
      pub steps : Performs holds (Doing work) k n (Some again)
      pub cause : Causes again (table_of_caller k) (state k) steps.events
      pub left : IsLeft n
      pub attempt : begun_log n.number n.log ≡ begun_log k.number k.log
      pub done : done n ≡ done k

    -- the same of an answer that may be a success
    abbrev pub LeavesFrom : {T : Type 0} → Work → TlCalled L → Result T TlAgain → TlCalled L → Type 0
    LeavesFrom work k (Ok x) n = Unit {0}
    LeavesFrom work k (Err again) n =
        Leaves work k n again × (n ≡ record k { log = n.log; left = Some again }) × Seen holds n

    -- A call has not left its attempt.
    pub record Stays (work : Work) (k n : TlCalled L) : Type 0 where
      pub steps : Performs holds (Doing work) k n None
      pub attempt : begun_log n.number n.log ≡ begun_log k.number k.log

    -- THE CONDITION OF A COMMIT: every map that the attempt admits is lawful with what it has set.
    abbrev pub IsLawful : TlCalled L → Type 0
    IsLawful k = (map : List Val) → Admits holds k map → holds (law_of k) (with_set map (written k))
