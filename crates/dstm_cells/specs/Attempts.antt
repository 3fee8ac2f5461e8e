-- How the attempts of a transaction follow one another, and why there is no further one.
use Rattle.std.specs.Prelude.{◌≡◌, ◌⊎◌, ℕ, zero, suc, ◌+◌, ◌<◌, ◌≤◌, Bool, true, false, List, Result, Ok, Err}
use Rattle.dstm_model.specs.declared.value.Val.{Val}
use Rattle.dstm_engine.specs.Attempts.{sights}
use Rattle.dstm_tables.specs.declared.tables.Caller.{Caller}
use Rattle.dstm_tables.specs.declared.tables.Caller.TheVariants.{Dstm, Tl2}
use Rattle.dstm_attempts.specs.Attempts.{AddsNothing, Begins, BeginsNone, IsAbandoned, IsClosed, IsLost, IsNotOpened, IsQuit, IsSpent, Keeps, LooksChanged, LooksOnce, LooksSpent, Opens, begun, clock, is_under_way, objects_of}
use Rattle.dstm_attempts.specs.Waiting.{FindsChange, HasNoRoom, IsSpentLettingGo, LetsGo, RenewsNothing}
use Rattle.dstm_attempts.specs.declared.error.NotOpened.TheVariants.{Over}
use Rattle.dstm_cells.specs.declared.error.GaveUp.{GaveUp}
use Rattle.dstm_cells.specs.declared.error.GaveUp.TheVariants.{Idle, Spent}
use Rattle.dstm_cells.specs.declared.error.GaveUp.TheVariants as gave_up
use Rattle.dstm_cells.specs.declared.error.Why.{Why}
use Rattle.dstm_cells.specs.declared.error.Why.TheVariants.{Again, Retry, Foreign, Memory}

-- What is said of a wait of so many looks at most holds of one wait: of as many as its thread was told; or, where its rest may
-- end it, of a number of them, which is not zero where the thread was told any.
pub record WithinLooks (tires : Bool) (told : ℕ) (says : ℕ → Type 0) : Type 0 where
  pub looks : ℕ
  pub most : looks ≤ told
  pub some : looks ≡ 0 → told ≡ 0
  pub all : tires ≡ false → looks ≡ told
  pub said : says looks

module _ {L : Type 0} where
  -- how often a caller has looked: of its last attempt under DSTM how often all that it had read was seen to be current,
  -- under TL2 how many attempts it has begun, since each look is one
  abbrev pub looked : Caller L → ℕ
  looked (Dstm k) = sights k
  looked (Tl2 k) = begun (Tl2 k)

  -- what looking leaves: under DSTM the same attempt; under TL2 attempts were begun, and nothing more was committed
  abbrev pub StaysLooking : Caller L → Caller L → Type 0
  StaysLooking (Dstm old) (Dstm new) = Keeps (Dstm old) (Dstm new)
  StaysLooking (Tl2 old) (Tl2 new) = AddsNothing (Tl2 old) (Tl2 new) × (begun (Tl2 old) ≤ begun (Tl2 new))
  StaysLooking old new = ⊥

  -- what waiting leaves: attempts of the same transaction were begun, and nothing more was committed
  pub record StaysWaiting (old new : Caller L) : Type 0 where
    pub nothing : AddsNothing old new
    pub begun : begun old ≤ begun new
    pub renews : RenewsNothing old new

  -- what a stop leaves: the same attempt, but for a retry
  abbrev pub StaysFor : Why → Caller L → Caller L → Type 0
  StaysFor Again old new = Keeps old new
  StaysFor Retry old new = StaysWaiting old new
  StaysFor Foreign old new = Keeps old new
  StaysFor Memory old new = Keeps old new

  -- What follows where a closure was told that an attempt is over: a further one where it is its own; where its own is under way,
  -- it was told so of another transaction, and none.
  abbrev pub FollowsOver : Caller L → Result (Unit {0}) GaveUp → Type 0
  FollowsOver k (Ok x) = IsClosed k
  FollowsOver k (Err Spent) = ⊥
  FollowsOver k (Err Idle) = ⊥
  FollowsOver k (Err gave_up.Foreign) = ⊥
  FollowsOver k (Err gave_up.Memory) = ⊥
  FollowsOver k (Err gave_up.Elsewhere) = is_under_way k ≡ true

  module _ (holds : L → List Val → Type 0) where
    -- An attempt was left, so that nothing of it has taken effect. It was under way until then, where that is told; else it was
    -- over, and nothing was done.
    pub record IsLeft (was_live : Bool) (old new : Caller L) : Type 0 where
      pub live : was_live ≡ true → is_under_way old ≡ true
      pub leaves : was_live ≡ true → IsAbandoned holds old new
      pub still : was_live ≡ false → new ≡ old
      pub keeps : Keeps old new
      pub quit : IsQuit new

    -- the objects below this one were opened for reading, one after the other, and nothing else was done
    abbrev pub ReadsInTurn : (object : ℕ) → Caller L → Caller L → Type 0
    ReadsInTurn zero k n = n ≡ k
    ReadsInTurn (suc object) k n = (m : Caller L) × ReadsInTurn object k m × Opens holds false object m n

    -- an attempt that was to read the objects in turn is over: opening this one has left it, for a cause of the engine
    pub record IsOverReading (k n : Caller L) : Type 0 where
      pub object : ℕ
      pub last : Caller L
      pub before : ReadsInTurn object k last
      pub over : IsNotOpened holds false object last n Over

    -- an attempt has read all objects in turn, and its commit did not take effect
    pub record IsLostReading (k n : Caller L) : Type 0 where
      pub last : Caller L
      pub reads : ReadsInTurn (objects_of k) k last
      pub keeps : Keeps last n
      pub lost : IsLost holds last n

    -- why reading all objects stops: the attempt is over, or memory is wanting
    abbrev pub StopsReading : Caller L → Caller L → Why → Type 0
    StopsReading k n Again = IsOverReading k n
    StopsReading k n Retry = ⊥
    StopsReading k n Foreign = ⊥
    StopsReading k n Memory = Unit {0}

    -- AN ATTEMPT TO READ ALL OBJECTS WAS DISTURBED: it began, and was over as it read them, or lost as it was to commit
    pub record WasDisturbed (k n : Caller L) : Type 0 where
      pub began : Caller L
      pub begins : Begins holds k began
      pub ends : IsOverReading began n ⊎ IsLostReading began n

    -- so many of them, one after the other, and nothing else was done
    abbrev pub WereDisturbed : (attempts : ℕ) → Caller L → Caller L → Type 0
    WereDisturbed zero k n = n ≡ k
    WereDisturbed (suc attempts) k n = (m : Caller L) × WereDisturbed attempts k m × WasDisturbed m n

    -- WHY A CALLER COULD NOT READ ALL OBJECTS TOGETHER: it has no attempt left, or no locator; or it has begun so many attempts
    -- more, and none of them has committed. Each that it has begun was disturbed.
    pub record CouldNotRead (attempts : ℕ) (old new : Caller L) : Type 0 where
      pub nothing : AddsNothing old new
      pub why : IsSpent new ⊎ (begun new ≡ begun old + attempts)
      pub count : ℕ
      pub last : Caller L
      pub disturbed : WereDisturbed count old last
      pub ends : ((count ≡ attempts) × (new ≡ last)) ⊎ (BeginsNone holds last new × IsSpent new × (begun new ≡ begun last))

    -- so many looks, one after the other, and nothing else was done
    abbrev pub LooksInTurn : (looks : ℕ) → Caller L → Caller L → Type 0
    LooksInTurn zero k n = n ≡ k
    LooksInTurn (suc looks) k n = (m : Caller L) × LooksInTurn looks k m × LooksOnce holds m n

    -- nothing had changed at any of so many looks, as they have left the caller: under DSTM all that the attempt had read was
    -- current; under TL2 no transaction had drawn a number since the attempt began
    pub record WaitedInVain (most : ℕ) (old new : Caller L) : Type 0 where
      pub in_turn : LooksInTurn most old new
      pub stays : StaysLooking old new
      pub looks : looked new ≡ looked old + most
      pub still : clock new ≡ clock old

    -- A look found a change, behind fewer than so many that did not, and left the caller so: under DSTM that something which the
    -- attempt had read has changed; under TL2 that a transaction has drawn a number since the attempt began. The attempt was under
    -- way then, unless it was over before the first look.
    pub record WasWoken (most : ℕ) (old new : Caller L) : Type 0 where
      pub last : Caller L
      pub count : ℕ
      pub fewer : count < most
      pub in_turn : LooksInTurn count old last
      pub stays : StaysLooking old last
      pub live : (is_under_way last ≡ true) ⊎ (last ≡ old)
      pub once : LooksOnce holds last new
      pub changed : LooksChanged holds (clock old) last new

    -- no attempt was left to look, which only TL2 needs
    pub record IsSpentWaiting (most : ℕ) (old new : Caller L) : Type 0 where
      pub last : Caller L
      pub count : ℕ
      pub fewer : count < most
      pub in_turn : LooksInTurn count old last
      pub stays : StaysLooking old last
      pub spent : LooksSpent last new
      pub unbegun : BeginsNone holds last new

    -- what follows looks, so many at most, and how they leave the caller
    abbrev pub FollowsLooks : (looks : ℕ) → Caller L → Caller L → Result (Unit {0}) GaveUp → Type 0
    FollowsLooks looks k n (Ok x) = WasWoken looks k n
    FollowsLooks looks k n (Err Spent) = IsSpentWaiting looks k n
    FollowsLooks looks k n (Err Idle) = WaitedInVain looks k n
    FollowsLooks looks k n (Err gave_up.Foreign) = ⊥
    FollowsLooks looks k n (Err gave_up.Memory) = ⊥
    FollowsLooks looks k n (Err gave_up.Elsewhere) = ⊥

    -- where an attempt has not let go of what it had set: something had changed; or no attempt, or no memory, was left for that
    abbrev pub DoesNotLetGo : Caller L → Caller L → Result (Unit {0}) GaveUp → Type 0
    DoesNotLetGo k n (Ok x) = FindsChange holds k n
    DoesNotLetGo k n (Err Spent) = IsSpentLettingGo k n × BeginsNone holds k n
    DoesNotLetGo k n (Err Idle) = ⊥
    DoesNotLetGo k n (Err gave_up.Foreign) = ⊥
    DoesNotLetGo k n (Err gave_up.Memory) = HasNoRoom k n
    DoesNotLetGo k n (Err gave_up.Elsewhere) = ⊥

    -- an attempt has let go of what it had set, and then it was looked
    pub record LooksWithoutHolding (looks : ℕ) (k n : Caller L) (next : Result (Unit {0}) GaveUp) : Type 0 where
      pub first : Caller L
      pub lets_go : LetsGo holds k first
      pub follows : FollowsLooks looks first n next

    -- WHAT FOLLOWS A RETRY: the attempt let go of what it had set, and it was waited
    abbrev pub FollowsRetry : (looks : ℕ) → Caller L → Caller L → Result (Unit {0}) GaveUp → Type 0
    FollowsRetry looks k n next = LooksWithoutHolding looks k n next ⊎ DoesNotLetGo k n next

    -- WHAT FOLLOWS WHERE A CLOSURE STOPS ITS ATTEMPT: a further attempt, or none, and why; and how that leaves the caller
    abbrev pub Follows : (looks : ℕ) → Caller L → Why → Caller L → Result (Unit {0}) GaveUp → Type 0
    Follows looks k Again n next = FollowsOver k next
    Follows looks k Retry n next = FollowsRetry looks k n next
    Follows looks k Foreign n next = next ≡ Err gave_up.Foreign
    Follows looks k Memory n next = next ≡ Err gave_up.Memory

    -- the same, and then the attempt was left
    pub record FollowsAndLeaves (looks : ℕ) (k : Caller L) (why : Why) (n : Caller L) (next : Result (Unit {0}) GaveUp) : Type 0 where
      pub last : Caller L
      pub follows : Follows looks k why last next
      pub leaves : IsAbandoned holds last n
      pub keeps : Keeps last n
