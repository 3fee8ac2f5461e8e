-- What a call on a structure does in an attempt, and why it stops.
use Rattle.std.proofs.Common.{◌∙◌, refl}
use Rattle.std.specs.Prelude.{◌≡◌, ℕ, ◌<◌, ◌≤◌, Bool, true, List, [], ◌∷◌}
use Rattle.dstm_model.specs.declared.value.Law.{Ghosts}
use Rattle.dstm_model.specs.declared.value.Val.{Val}
use Rattle.dstm_tables.specs.declared.tables.Caller.{Caller}
use Rattle.dstm_attempts.specs.Attempts.{IsClosed, Opens, StoodTogether, objects_of}
use Rattle.dstm_cells.specs.Alternatives.{Notes, noting}
use Rattle.dstm_cells.specs.UnderWay.{Keeps, MayBegin, seen}
use Rattle.dstm_cells.specs.declared.error.Why.{Why}
use Rattle.dstm_cells.specs.declared.error.Why.TheVariants.{Again, Retry, Foreign, Memory}
use Rattle.dstm_cells.specs.declared.holds.Holds.{Ghosts as Holding}
use Rattle.dstm_cells.specs.declared.under_way.Attempt.{Attempt as Tx}

module _ {L S : Type 0} {ghosts : Ghosts L} {holding : Holding S L} where
  -- why a call on a structure within so many objects stops: it is made again only where no call on the attempt is made any
  -- more, it never retries, no object is foreign where the run's memory has them, and it wants memory only where it is to note
  -- what it sets
  abbrev pub Stops : (objects : ℕ) (notes : Bool) (old new : Tx L S ghosts holding) → Why → Type 0
  Stops objects notes old new Again = IsClosed new.attempts.caller
  Stops objects notes old new Retry = ⊥
  Stops objects notes old new Foreign = objects_of old.attempts.caller < objects
  Stops objects notes old new Memory = notes ≡ true

  module _ (holds : L → List Val → Type 0) where
    -- EACH CALL GOES ON with the same attempt, whatever it answers, and notes what it sets where it is in an alternative
    pub record GoesOn (old new : Tx L S ghosts holding) : Type 0 where
      pub keeps : Keeps old.attempts.caller new.attempts.caller
      pub notes : Notes holds (noting old) (noting new)

  module _ {holds : L → List Val → Type 0} where
    pub goes-still : {k : Tx L S ghosts holding} → GoesOn holds k k
    goes-still = record { keeps = refl; notes = λ first noted. noted }

    pub goes-again : {k m n : Tx L S ghosts holding} → GoesOn holds k m → GoesOn holds m n → GoesOn holds k n
    goes-again one two = record {
      keeps = two.keeps ∙ one.keeps;
      notes = λ first noted. two.notes first (one.notes first noted);
    }

module _ {L : Type 0} (holds : L → List Val → Type 0) where
  -- THIS WAS DONE, whatever values the attempt stands at, where the run's memory has so many objects
  pub record Does (objects : ℕ) (effect : List Val → List Val → Type 0) (old new : Caller L) : Type 0 where
    pub narrows : (map : List Val) → MayBegin holds new map → MayBegin holds old map
    pub does : objects ≤ objects_of old → (map : List Val) → MayBegin holds new map → effect (seen old map) (seen new map)

  -- THESE OBJECTS WERE OPENED, for writing or for reading, one after the other, and no other one: an object that was open before
  -- took no step
  abbrev pub OpensEach : List (Bool × ℕ) → Caller L → Caller L → Type 0
  OpensEach [] old new = new ≡ old
  OpensEach (next ∷ later) old new = (mid : Caller L) × Opens holds next.0 next.1 old mid × OpensEach later mid new

  -- where there were values at which the attempt may have begun, there are still
  abbrev pub StillMay : Caller L → Caller L → Type 0
  StillMay old new = ((map : List Val) × MayBegin holds old map) → (map : List Val) × MayBegin holds new map

  -- where what the attempt had read stood together at one moment, what it has read now does
  abbrev pub StillTogether : Caller L → Caller L → Type 0
  StillTogether old new = StoodTogether holds old → StoodTogether holds new
