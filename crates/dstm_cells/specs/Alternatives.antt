-- What an alternative of a transaction has set, how it is undone, and what becomes of two alternatives.
use Rattle.std.specs.Prelude.{◌≡◌, ◌≢◌, ◌⊎◌, ℕ, Bool, true, false, ◌<◌, List, [], ◌∷◌, ◌++◌, length, Contains, Result, Err, slice_set}
use denote.Ref.{MutBor}
use Rattle.std.specs.Fn.{FnOnceReturnsAtMut, Once}
use Rattle.dstm_model.specs.declared.value.Law.{Ghosts}
use Rattle.dstm_model.specs.declared.value.Val.{Val}
use Rattle.dstm_tables.specs.declared.tables.Caller.{Caller}
use Rattle.dstm_cells.specs.declared.error.Stop.{Stop}
use Rattle.dstm_cells.specs.declared.error.Why.TheVariants.{Retry}
use Rattle.dstm_cells.specs.declared.under_way.Attempt.{Attempt as Tx}
use Rattle.dstm_cells.specs.declared.holds.Holds.{Ghosts as Holding}
use Rattle.dstm_cells.specs.declared.under_way.Undo.{Undo}
use Rattle.dstm_attempts.specs.Attempts.{IsStill, Opens}
use Rattle.dstm_cells.specs.UnderWay.{Keeps, MayBegin, StopsChange, seen, stop_by}

-- these values, with each of these objects set back, the last one first
abbrev pub set_back : List Undo → List Val → List Val
set_back [] map = map
set_back (undo ∷ later) map = slice_set (set_back later map) undo.object undo.value

-- an attempt, whether it notes what it sets, and what it has noted; and how often it looks where it retries
pub record Noting (L : Type 0) : Type 0 where
  pub caller : Caller L
  pub notes : Bool
  pub undos : List Undo
  pub looks : ℕ

module _ {L : Type 0} where
  abbrev pub noting : {S : Type 0} {ghosts : Ghosts L} {holding : Holding S L} → Tx L S ghosts holding → Noting L
  noting tx = record { caller = tx.attempts.caller; notes = tx.notes; undos = tx.undos.items; looks = tx.looks }

  -- whether it notes what it sets, and how often it looks
  abbrev pub settings : Noting L → Bool × ℕ
  settings k = (k.notes, k.looks)

  -- it is in an alternative, which may yet be undone
  abbrev pub in_alternative : Noting L → Noting L
  in_alternative k = record k { notes = true }

  module _ (holds : L → List Val → Type 0) where
    -- what was set since is noted, so that it can be undone
    pub record IsNoted (old new : Noting L) : Type 0 where
      pub added : List Undo
      pub is : new.undos ≡ old.undos ++ added
      pub narrows : (map : List Val) → MayBegin holds new.caller map → MayBegin holds old.caller map
      pub back : (map : List Val) → MayBegin holds new.caller map →
          set_back added (seen new.caller map) ≡ seen old.caller map

    -- it is still the same attempt, and has noted what it has set since where it was in an alternative
    pub record HasNoted (old new : Noting L) : Type 0 where
      pub keeps : Keeps old.caller new.caller
      pub same : settings new ≡ settings old
      pub noted : old.notes ≡ true → IsNoted old new

    -- a call goes on with the same attempt, and notes what it sets where it is in an alternative: so whatever was noted from a
    -- first state up to it, is noted up to its end
    abbrev pub Notes : Noting L → Noting L → Type 0
    Notes old new = (first : Noting L) → HasNoted first old → HasNoted first new

    -- of what was noted behind the first ones, these are left, and what they set is still to be set back
    pub record Undoes (first added left : List Undo) (old new : Noting L) : Type 0 where
      pub is : new.undos ≡ first ++ left
      pub narrows : (map : List Val) → MayBegin holds new.caller map → MayBegin holds old.caller map
      pub back : (map : List Val) → MayBegin holds new.caller map →
          set_back left (seen new.caller map) ≡ set_back added (seen old.caller map)

    -- IT IS UNDONE: all is set as it was, by the same attempt
    pub record IsUndone (old new : Noting L) : Type 0 where
      pub keeps : Keeps old.caller new.caller
      pub settings : settings new ≡ settings old
      pub undos : new.undos ≡ old.undos
      pub narrows : (map : List Val) → MayBegin holds new.caller map → MayBegin holds old.caller map
      pub same : (map : List Val) → MayBegin holds new.caller map → seen new.caller map ≡ seen old.caller map

    -- an object was opened for writing, where it was not open, and set; and nothing else was done
    pub record OpensAndSets (object : ℕ) (old new : Caller L) : Type 0 where
      pub opened : Caller L
      pub once : Opens holds true object old opened
      pub still : IsStill opened new

    -- that was done of each of these, the last one first
    abbrev pub SetsBackEach : List Undo → Caller L → Caller L → Type 0
    SetsBackEach [] old new = new ≡ old
    SetsBackEach (undo ∷ later) old new =
        (between : Caller L) × SetsBackEach later old between × OpensAndSets undo.object between new

    -- so far, those behind the ones that are left were set back
    pub record HasSetBack (undos left : List Undo) (old new : Caller L) : Type 0 where
      pub back : List Undo
      pub are : undos ≡ left ++ back
      pub each : SetsBackEach back old new

    -- why undoing stops: a call that sets an object back does, the last of those that are left
    pub record StopsUndoing (undos : List Undo) (old new : Caller L) (stop : Stop) : Type 0 where
      pub undo : Undo
      pub noted : Contains undos undo
      pub last : Caller L
      pub keeps : Keeps old last
      pub before : List Undo
      pub so_far : HasSetBack undos (before ++ undo ∷ []) old last
      pub stops : StopsChange holds false undo.object last new stop.why

module _ {X L F R : Type 0} (noting : X → Noting L)
    (g : Once F (MutBor X × Unit {0}) (Result R Stop × (MutBor X × Unit {0}))) (f : F) where
  -- an alternative notes what it sets, and leaves the transaction that it was given, and no other one in its place
  abbrev pub NotesOnce : (holds : L → List Val → Type 0) → Type 0
  NotesOnce holds =
      (old new : X) (answer : Result R Stop) → FnOnceReturnsAtMut g f old answer new → Notes holds (noting old) (noting new)

  -- an alternative was called here, answered this and left that
  pub record CalledOn (k : Noting L) (answer : Result R Stop) (n : Noting L) : Type 0 where
    pub began : X
    pub at : noting began ≡ k
    pub ended : X
    pub returns : FnOnceReturnsAtMut g f began answer ended
    pub leaves : noting ended ≡ n

module _ {X L F G R : Type 0} (noting : X → Noting L) (holds : L → List Val → Type 0)
    (g : Once F (MutBor X × Unit {0}) (Result R Stop × (MutBor X × Unit {0}))) (first : F)
    (h : Once G (MutBor X × Unit {0}) (Result R Stop × (MutBor X × Unit {0}))) (second : G)
    (k n : Noting L) (answer : Result R Stop) where
  -- the first alternative did not retry
  pub record GoesByFirst : Type 0 where
    pub left : Noting L
    pub called : CalledOn noting g first (in_alternative k) answer left
    pub goes_on : answer ≢ Err (stop_by Retry)
    pub leaves : n ≡ record left { notes = k.notes }

  -- The first alternative retried, what it had set was undone, and the second one was called. What the first had read
  -- stays read.
  pub record GoesBySecond : Type 0 where
    pub left : Noting L
    pub retries : CalledOn noting g first (in_alternative k) (Err (stop_by Retry)) left
    pub between : Noting L
    pub undone : IsUndone holds k between
    pub back : HasSetBack holds left.undos k.undos left.caller between.caller
    pub stays : (map : List Val) → MayBegin holds between.caller map → MayBegin holds left.caller map
    pub called : CalledOn noting h second between answer n

  -- the first alternative retried, and what it had set, which was noted, could not be undone
  pub record StopsBetween : Type 0 where
    pub left : Noting L
    pub retries : CalledOn noting g first (in_alternative k) (Err (stop_by Retry)) left
    pub noted : length k.undos < length left.undos
    pub stop : Stop
    pub is : answer ≡ Err stop
    pub stops : StopsUndoing holds left.undos left.caller n.caller stop

  -- WHAT TWO ALTERNATIVES DO
  abbrev pub OrElse : Type 0
  OrElse = GoesByFirst ⊎ (GoesBySecond ⊎ StopsBetween)
