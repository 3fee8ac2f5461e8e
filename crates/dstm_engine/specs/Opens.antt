-- What an open of an object leaves.
use Rattle.std.specs.Prelude.{◌≡◌, ℕ, false, List, [], ◌∷◌, ◌++◌, true, None, Some}
use Rattle.dstm_steps.specs.Under.{now}
use Rattle.dstm_steps.specs.declared.steps.Steps.{Steps}
use Rattle.dstm_core.specs.Histories.{version_value}
use Rattle.dstm_core.specs.State.{LocalState, drop_read}
use Rattle.dstm_core.specs.declared.state.Phase.TheVariants.{Running}
use Rattle.dstm_mem.specs.Memory.{HoldsAlso, MarksAtMost}
use Rattle.dstm_model.specs.declared.value.Val.{Val}
use Rattle.dstm_words.specs.Seats.{Home, view_of}
use Rattle.dstm_engine.specs.Attempts.{Admits, Sighted, done}
use Rattle.dstm_engine.specs.Callers.{Called, begun_log, handed, held, is_live, is_opened}
use Rattle.dstm_engine.specs.Mirror.{AtRest}
use Rattle.dstm_engine.specs.Opened.{OpenedAs, without_read}
use Rattle.dstm_engine.specs.Transactions.{Leaves, Stays}
use Rattle.dstm_order.specs.Tasks.{Work}
use Rattle.dstm_order.specs.declared.again.Again.{Again}

-- the attempt goes on, and nothing is under way
pub record GoesOn (old new : LocalState) : Type 0 where
  pub phase : new.phase ≡ Running
  pub committed : new.committed ≡ old.committed
  pub rest : AtRest new

-- it has one read more
pub record AddsRead (object word version : ℕ) (old new : LocalState) : Type 0 where
  pub goes_on : GoesOn old new
  pub reads : new.reads ≡ old.reads ++ record { object = object; word = word; version = version } ∷ []
  pub writes : new.writes ≡ old.writes

-- it has one object more open for writing, and no read of that
pub record AddsWrite (object version : ℕ) (old new : LocalState) : Type 0 where
  pub goes_on : GoesOn old new
  pub locator : ℕ
  pub reads : new.reads ≡ drop_read object old.reads
  pub writes : new.writes ≡ old.writes ++ record { object = object; locator = locator; old = version } ∷ []

module _ {L : Type 0} where
  -- the version has this value, as the seat's log tells
  abbrev pub HasVersion : Home L → Steps L → (object version : ℕ) → Val → Type 0
  HasVersion home steps object version value =
      version_value home.terms.shape home.terms.start.value.items (view_of steps.seat).log object version ≡ value

  -- the object was opened for reading: there is one read more of it, and its slot in the lists
  pub record OpensToRead (home : Home L) (old new : Steps L) (list later : OpenedAs) (object : ℕ) (value : Val) :
      Type 0 where
    pub word : ℕ
    pub version : ℕ
    pub adds : AddsRead object word version (now home old) (now home new)
    pub listed : later ≡ record list {
      reads = list.reads ++ record { object = object; word = word; value = value; kept = true } ∷ [];
    }
    pub valued : HasVersion home new object version value

  -- the object was opened for writing: a read of it was dropped, and the lists have its slot
  pub record OpensToWrite (home : Home L) (old new : Steps L) (list later : OpenedAs) (object : ℕ) (value : Val) :
      Type 0 where
    pub version : ℕ
    pub adds : AddsWrite object version (now home old) (now home new)
    pub listed : later ≡ record list {
      reads = without_read object list.reads;
      writes = list.writes ++ record { object = object; old = value; new = None } ∷ [];
    }
    pub valued : HasVersion home new object version value

  module _ (holds : L → List Val → Type 0) where
    -- the attempt goes on, and object o is open in it
    pub record Continues (o : ℕ) (k n : Called L) : Type 0 where
      pub live : is_live n ≡ true
      pub sight : Sighted n
      pub held : HoldsAlso o (held k) (held n)
      pub opened : MarksAtMost o (is_opened k) (is_opened n)
      pub attempt : begun_log n.number n.log ≡ begun_log k.number k.log
      pub done : done n ≡ done k
      pub narrows : (map : List Val) → Admits holds n map → Admits holds k map
      pub admits : (map : List Val) × Admits holds n map

    -- the attempt was left
    pub record IsOver (k n : Called L) : Type 0 where
      pub live : is_live n ≡ false
      pub attempt : begun_log n.number n.log ≡ begun_log k.number k.log
      pub done : done n ≡ done k
      pub narrows : (map : List Val) → Admits holds n map → Admits holds k map

    -- a call has opened object o, and hands out this value
    pub record Opens (work : Work) (o : ℕ) (k n : Called L) (value : Val) : Type 0 where
      pub stays : Stays holds work k n
      pub kept : n ≡ record k { log = n.log; generator = n.generator; left = None }
      pub continues : Continues o k n
      pub hands : Some value ≡ handed n o

    -- a call has left its attempt, for this cause
    pub record Stops (work : Work) (k n : Called L) (again : Again) : Type 0 where
      pub leaves : Leaves holds work k n again
      pub kept : n ≡ record k { log = n.log; generator = n.generator; left = Some again }
      pub over : IsOver k n
