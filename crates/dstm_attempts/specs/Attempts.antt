-- What an attempt under way has read and set, what a call on it leaves, and how it ends, by either engine.
use Rattle.std.specs.Prelude.{◌≡◌, ◌≢◌, ◌⊎◌, ℕ, ◌+◌, ◌<◌, ◌≤◌, All, Bool, true, false, List, [], ◌∷◌, Option, None, Some, Result, Err, IsTrue, slice_set}
use Rattle.dstm_model.specs.Answers.{Committed}
use Rattle.dstm_model.specs.declared.value.Val.{Val}
use Rattle.dstm_model.specs.Map.{value_at}
use Rattle.dstm_mem.specs.Memory.{with_set}
use Rattle.dstm_order.specs.Tasks.Work.{Rechecking}
use Rattle.dstm_engine.specs.Attempts as dstm
use Rattle.dstm_engine.specs.Callers as dstm_callers
use Rattle.dstm_engine.specs.Transactions as dstm_calls
use Rattle.dstm_tl2.specs.Rules.{Event}
use Rattle.dstm_tl2_order.specs.Tasks.Work.{Opening}
use Rattle.dstm_tl2_engine.specs.Attempts as tl2
use Rattle.dstm_tl2_engine.specs.Callers as tl2_callers
use Rattle.dstm_tl2_engine.specs.Transactions as tl2_calls
use Rattle.dstm_tables.specs.Callers.{done, home_of, law_of, number_of}
pub use Rattle.dstm_tables.specs.Callers.{begun}
use Rattle.dstm_tables.specs.Tables.{attempts_there, objects_there}
use Rattle.dstm_tables.specs.declared.tables.Caller.{Caller}
use Rattle.dstm_tables.specs.declared.tables.Caller.TheVariants.{Dstm, Tl2}
use Rattle.dstm_tables.specs.declared.tables.Table.{Table}
use Rattle.dstm_attempts.specs.Dstm.{Beginning, beginning, opening}
use Rattle.dstm_attempts.specs.Dstm as by_dstm
use Rattle.dstm_attempts.specs.Tl2 as by_tl2
use Rattle.dstm_attempts.specs.declared.error.NotOpened.{NotOpened}
use Rattle.dstm_attempts.specs.declared.error.NotOpened.TheVariants.{Over, Foreign}

-- the number of the newest of these attempts
abbrev pub newest_of : List Committed → Option ℕ
newest_of [] = None
newest_of (attempt ∷ attempts) = Some attempt.number

-- the first number that is above this one, where it is told
abbrev pub above : Option ℕ → ℕ
above None = 0
above (Some number) = number + 1

-- how an attempt began: by TL2 the log tells it
pub data Began : Type 0 where
  ByDstm : Beginning → Began
  ByTl2 : List Event → Began

-- which attempt it is, of which caller of which table; and what this caller has committed before
pub record Attempt (L : Type 0) : Type 0 where
  pub home : Table L
  pub number : ℕ
  pub began : Began
  pub done : List Committed

module _ {L : Type 0} where
  abbrev pub began : Caller L → Began
  began (Dstm k) = ByDstm (beginning k)
  began (Tl2 k) = ByTl2 (tl2_callers.begun_log k.number k.log)

  abbrev pub attempt : Caller L → Attempt L
  attempt k = record { home = home_of k; number = number_of k; began = began k; done = done k }

  -- how many objects its table has, and how many attempts it may begin there
  abbrev pub objects_of : Caller L → ℕ
  objects_of k = objects_there (home_of k)

  abbrev pub attempts_of : Caller L → ℕ
  attempts_of k = attempts_there (home_of k)

  -- under TL2 how many numbers had been drawn as its last attempt began
  abbrev pub clock : Caller L → ℕ
  clock (Dstm k) = 0
  clock (Tl2 k) = (tl2_callers.state k).sample

  -- the same, where its next attempt is the first of a new transaction; TL2 does not ask
  abbrev pub renewed : Caller L → Caller L
  renewed (Dstm k) = Dstm (record k { fresh = true })
  renewed (Tl2 k) = Tl2 k

  -- AN ATTEMPT IS UNDER WAY
  abbrev pub is_under_way : Caller L → Bool
  is_under_way (Dstm k) = dstm_callers.is_live k
  is_under_way (Tl2 k) = by_tl2.is_under_way k

  -- a call on the attempt is made: one is under way, and by TL2 the caller has one left
  abbrev pub goes_on : Caller L → Bool
  goes_on (Dstm k) = dstm_callers.is_live k
  goes_on (Tl2 k) = by_tl2.goes_on k

  -- no call on an attempt is made
  abbrev pub IsClosed : Caller L → Type 0
  IsClosed k = goes_on k ≡ false

  -- the newest that it has committed has this number, and none has a greater one; where none is told, it has committed none
  pub record CommitsUpTo (newest : Option ℕ) (k : Caller L) : Type 0 where
    pub is : newest ≡ newest_of (done k)
    pub up_to : All (λ (attempt : Committed). attempt.number < above newest) (done k)

  -- what a flag tells
  abbrev pub Flags : Bool → Caller L → Type 0
  Flags going k = (going ≡ true → is_under_way k ≡ true) × (going ≡ false → IsClosed k)

  -- the caller has no attempt left, or by DSTM no locator
  abbrev pub IsSpent : Caller L → Type 0
  IsSpent (Dstm k) = by_dstm.IsSpent k
  IsSpent (Tl2 k) = by_tl2.IsSpent k

  -- it stays the same attempt
  abbrev pub Keeps : Caller L → Caller L → Type 0
  Keeps old new = attempt new ≡ attempt old

  -- the caller has committed nothing more
  pub record AddsNothing (old new : Caller L) : Type 0 where
    pub home : home_of new ≡ home_of old
    pub number : number_of new ≡ number_of old
    pub done : done new ≡ done old

  -- no step was made
  abbrev pub IsStill : Caller L → Caller L → Type 0
  IsStill (Dstm old) (Dstm new) = by_dstm.IsStill old new
  IsStill (Tl2 old) (Tl2 new) = by_tl2.IsStill old new
  IsStill old new = ⊥

  -- its attempt is no other's enemy: by DSTM it is not live; by TL2 none ever is
  abbrev pub IsQuit : Caller L → Type 0
  IsQuit (Dstm k) = by_dstm.IsQuit k
  IsQuit (Tl2 k) = Unit {0}

  -- the value that was last set for an object
  abbrev pub written : Caller L → ℕ → Option Val
  written (Dstm k) = dstm_callers.written k
  written (Tl2 k) = tl2_callers.written k

  -- these values with those that it has set
  abbrev pub seen : Caller L → List Val → List Val
  seen k map = with_set map (written k)

  -- it has set nothing yet
  abbrev pub IsUntouched : Caller L → Type 0
  IsUntouched k = (map : List Val) → seen k map ≡ map

  -- an object is open for writing
  abbrev pub is_opened : Caller L → ℕ → Bool
  is_opened (Dstm k) = dstm_callers.is_opened k
  is_opened (Tl2 k) = tl2_callers.is_opened k

  abbrev pub IsOpened : Caller L → ℕ → Type 0
  IsOpened k o = IsTrue (is_opened k o)

  -- Where a call on an object does nothing, and answers why: no call on the attempt is made, or there is no such object.
  pub record Refuses {T : Type 0} (k : Caller L) (o : ℕ) (answer : Result T NotOpened) : Type 0 where
    pub over : is_under_way k ≡ false → answer ≡ Err Over
    pub foreign : goes_on k ≡ true → objects_of k ≤ o → answer ≡ Err Foreign

  -- A LOOK WHETHER SOMETHING HAS CHANGED HAS FOUND NOTHING. By DSTM all that the attempt has read was seen to be current. By
  -- TL2 an attempt was begun, and no number had been drawn since this one.
  abbrev pub LooksSame : (since : ℕ) → Caller L → Caller L → Type 0
  LooksSame since (Dstm old) (Dstm new) =
      Keeps (Dstm old) (Dstm new) × (dstm.sights new ≡ dstm.sights old + 1)
  LooksSame since (Tl2 old) (Tl2 new) =
      AddsNothing (Tl2 old) (Tl2 new) × ((tl2_callers.state new).begun ≡ (tl2_callers.state old).begun + 1)
      × ((tl2_callers.state new).sample ≡ since)
  LooksSame since old new = ⊥

  -- no attempt was left to look by
  abbrev pub LooksSpent : Caller L → Caller L → Type 0
  LooksSpent (Dstm old) (Dstm new) = ⊥
  LooksSpent (Tl2 old) (Tl2 new) =
      AddsNothing (Tl2 old) (Tl2 new) × ((tl2_callers.state new).begun ≡ (tl2_callers.state old).begun) × by_tl2.IsSpent new
  LooksSpent old new = ⊥

  module _ (holds : L → List Val → Type 0) where
    -- the objects may have had these values as it began, for all that it has read: they are lawful
    abbrev pub MayBegin : Caller L → List Val → Type 0
    MayBegin (Dstm k) map = dstm.Admits holds k map
    MayBegin (Tl2 k) map = tl2.Admits holds k map

    -- lawful values, with those that it has set, are lawful
    abbrev pub LeavesLawful : Caller L → Type 0
    LeavesLawful k = (map : List Val) → MayBegin k map → holds (law_of k) (seen k map)

    -- WHAT THE ATTEMPT HAS READ STOOD TOGETHER AT ONE MOMENT
    abbrev pub StoodTogether : Caller L → Type 0
    StoodTogether (Dstm k) = dstm.Sighted k
    StoodTogether (Tl2 k) = by_tl2.StoodTogether holds k

    -- an attempt has begun, in the engine's words
    abbrev pub BeginsAnew : Caller L → Caller L → Type 0
    BeginsAnew (Dstm k) (Dstm n) = dstm_calls.BeginsAnew holds k n
    BeginsAnew (Tl2 k) (Tl2 n) = tl2_calls.BeginsAnew holds k n
    BeginsAnew k n = ⊥

    -- NO ATTEMPT HAS BEGUN, since none was left, in the engine's words
    abbrev pub BeginsNone : Caller L → Caller L → Type 0
    BeginsNone (Dstm k) (Dstm n) = dstm_calls.SpentFrom holds k n
    BeginsNone (Tl2 k) (Tl2 n) = tl2_calls.SpentFrom holds k n
    BeginsNone k n = ⊥

    -- AN ATTEMPT HAS BEGUN: it has set nothing, and there are values that the objects may have
    pub record Begins (k n : Caller L) : Type 0 where
      pub by_engine : BeginsAnew k n
      pub untouched : IsUntouched n
      pub begun : begun n ≡ begun k + 1
      pub may : (map : List Val) × MayBegin n map
      pub nothing : AddsNothing k n

    -- AN OBJECT IS OPEN, for writing or for reading: it was before, and no step was made; or it was opened, once, and nothing
    -- else was done
    abbrev pub Opens : (writes : Bool) → ℕ → Caller L → Caller L → Type 0
    Opens writes o (Dstm old) (Dstm new) = by_dstm.Opens holds (opening (dstm_callers.shape_of old) writes o) old new
    Opens writes o (Tl2 old) (Tl2 new) = by_tl2.Opens holds writes o old new
    Opens writes o old new = ⊥

    -- an object was found to have this value, and nothing was set
    pub record Finds (old new : Caller L) (o : ℕ) (v : Val) : Type 0 where
      pub value : (map : List Val) → MayBegin new map → value_at (seen new map) o ≡ v
      pub narrows : (map : List Val) → MayBegin new map → MayBegin old map
      pub same : (map : List Val) → seen new map ≡ seen old map

    -- an object was set to this value
    pub record Puts (old new : Caller L) (o : ℕ) (v : Val) : Type 0 where
      pub narrows : (map : List Val) → MayBegin new map → MayBegin old map
      pub puts : (map : List Val) → seen new map ≡ slice_set (seen old map) o v

    -- an object was found to have the first value, and set to the second one
    pub record Exchanges (old new : Caller L) (o : ℕ) (had v : Val) : Type 0 where
      pub value : (map : List Val) → MayBegin new map → value_at (seen old map) o ≡ had
      pub puts : Puts old new o v

    -- nothing was set
    pub record SetsNothing (old new : Caller L) : Type 0 where
      pub narrows : (map : List Val) → MayBegin new map → MayBegin old map
      pub same : (map : List Val) → seen new map ≡ seen old map

    -- THE ATTEMPT IS OVER: it was before, and nothing was done; or opening this object, for writing or for reading, has left it,
    -- for a cause of the engine
    abbrev pub IsOver : (writes : Bool) → ℕ → Caller L → Caller L → Type 0
    IsOver writes o (Dstm old) (Dstm new) = by_dstm.IsOver holds (opening (dstm_callers.shape_of old) writes o) old new
    IsOver writes o (Tl2 old) (Tl2 new) = by_tl2.IsOver holds (Opening o) old new
    IsOver writes o old new = ⊥

    -- an attempt is over; or there is no such object, and nothing was done
    abbrev pub NotOpenedFor : (writes : Bool) → ℕ → Caller L → Caller L → NotOpened → Type 0
    NotOpenedFor writes o old new Over = IsClosed new × IsOver writes o old new
    NotOpenedFor writes o old new Foreign = (objects_of old ≤ o) × (new ≡ old)

    -- WHY AN OBJECT WAS NOT OPENED, and what this leaves
    pub record IsNotOpened (writes : Bool) (o : ℕ) (old new : Caller L) (answer : NotOpened) : Type 0 where
      pub why : NotOpenedFor writes o old new answer
      pub unset : SetsNothing old new

    -- THE ATTEMPT WAS LEFT, and nothing else was done: by DSTM in its steps for that, if it was not over; by TL2 in none
    abbrev pub IsAbandoned : Caller L → Caller L → Type 0
    IsAbandoned (Dstm old) (Dstm new) = by_dstm.IsAbandoned holds old new
    IsAbandoned (Tl2 old) (Tl2 new) = new ≡ old
    IsAbandoned old new = ⊥

    -- a commit that did not take effect
    abbrev pub IsLost : Caller L → Caller L → Type 0
    IsLost (Dstm old) (Dstm new) = by_dstm.IsLost holds old new
    IsLost (Tl2 old) (Tl2 new) = by_tl2.IsLost holds old new
    IsLost old new = ⊥

    -- an attempt has taken effect under this number
    abbrev pub TakesUnder : Caller L → Caller L → ℕ → Type 0
    TakesUnder (Dstm old) (Dstm new) number = by_dstm.TakesEffect holds old new number
    TakesUnder (Tl2 old) (Tl2 new) number = by_tl2.TakesEffect holds old new number
    TakesUnder old new number = ⊥

    -- AN ATTEMPT HAS TAKEN EFFECT
    pub record TakesEffect (old new : Caller L) : Type 0 where
      pub number : ℕ
      pub takes : TakesUnder old new number

    -- A LOOK HAS FOUND A CHANGE. By DSTM something that the attempt had read was seen to have changed, or the attempt to be
    -- over. By TL2 an attempt was begun, and a number had been drawn since this one.
    abbrev pub LooksChanged : (since : ℕ) → Caller L → Caller L → Type 0
    LooksChanged since (Dstm old) (Dstm new) =
        Keeps (Dstm old) (Dstm new) × by_dstm.IsOver holds Rechecking old new
    LooksChanged since (Tl2 old) (Tl2 new) =
        AddsNothing (Tl2 old) (Tl2 new) × ((tl2_callers.state new).begun ≡ (tl2_callers.state old).begun + 1)
        × ((tl2_callers.state new).sample ≢ since)
    LooksChanged since old new = ⊥

    -- A LOOK IS ONE, whether it has found a change or not, and nothing else is done. By DSTM the attempt has made sure of what
    -- it has read once, unless it was over. By TL2 an attempt was begun.
    abbrev pub LooksOnce : Caller L → Caller L → Type 0
    LooksOnce (Dstm old) (Dstm new) =
        dstm_calls.Stays holds Rechecking old new ⊎ by_dstm.IsOver holds Rechecking old new
    LooksOnce (Tl2 old) (Tl2 new) = tl2_calls.BeginsAnew holds old new
    LooksOnce old new = ⊥

    -- the caller has committed an attempt more, and this is right for the values before and after it, in every run
    abbrev pub Settles : (is_right : List Val → List Val → Type 0) → Caller L → Caller L → ℕ → Type 0
    Settles is_right (Dstm k) (Dstm n) number = dstm.Settles holds is_right k n number
    Settles is_right (Tl2 k) (Tl2 n) number = tl2.Settles holds is_right k n number
    Settles is_right k n number = ⊥
