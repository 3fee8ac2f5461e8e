-- How an attempt that is to wait lets go of what it has set, by either engine.
use Rattle.std.specs.Prelude.{◌≡◌, ◌≢◌, ◌⊎◌, ℕ, zero, suc, ◌+◌, ◌<◌, false, true, All, Contains, List, length, slice_index_or}
use Rattle.dstm_model.specs.declared.value.Val.{Val}
use Rattle.dstm_model.specs.Map.{no_value, value_at}
use Rattle.dstm_engine.specs.Callers.{Called, entry, is_live, is_opened, shape_of}
use Rattle.dstm_engine.specs.Transactions.{BeginsAnew}
use Rattle.dstm_tables.specs.declared.tables.Caller.{Caller}
use Rattle.dstm_tables.specs.declared.tables.Caller.TheVariants.{Dstm, Tl2}
use Rattle.dstm_attempts.specs.Attempts.{AddsNothing, IsAbandoned, IsNotOpened, IsQuit, IsSpent, IsUntouched, Keeps, MayBegin, Opens, begun}
use Rattle.dstm_attempts.specs.declared.error.NotOpened.{NotOpened}

-- the object of this pair
abbrev pub object_at : List (ℕ × Val) → ℕ → ℕ
object_at pairs number = (slice_index_or pairs number (0, no_value)).0

module _ {L : Type 0} where
  -- the next attempt is no first one of a new transaction, unless it was before; TL2 does not ask
  abbrev pub RenewsNothing : Caller L → Caller L → Type 0
  RenewsNothing (Dstm old) (Dstm new) = old.fresh ≡ false → new.fresh ≡ false
  RenewsNothing (Tl2 old) (Tl2 new) = Unit {0}
  RenewsNothing old new = ⊥

  -- an attempt by DSTM that was to let go has none behind it: it is over, and none was begun
  pub record IsSpentBehind (old new : Called L) : Type 0 where
    pub spent : IsSpent (Dstm new)
    pub quit : IsQuit (Dstm new)
    pub none : begun (Dstm new) ≡ begun (Dstm old)

  -- AN ATTEMPT COULD NOT LET GO, since none was left, or since there was no memory for what it holds. One by TL2 always can.
  abbrev pub IsSpentLettingGo : Caller L → Caller L → Type 0
  IsSpentLettingGo (Dstm old) (Dstm new) = IsSpentBehind old new
  IsSpentLettingGo old new = ⊥

  abbrev pub HasNoRoom : Caller L → Caller L → Type 0
  HasNoRoom (Dstm old) (Dstm new) = new ≡ old
  HasNoRoom old new = ⊥

  -- nothing more is open for writing, unless all opens are for writing
  pub record OpensNoMore (old new : Called L) : Type 0 where
    pub unmarked : (shape_of old).all_write ≡ false → (o : ℕ) → is_opened new o ≡ is_opened old o

  -- the same by either engine; by TL2 `Opens` tells it
  abbrev pub MarksNoMore : Caller L → Caller L → Type 0
  MarksNoMore (Dstm old) (Dstm new) = OpensNoMore old new
  MarksNoMore (Tl2 old) (Tl2 new) = Unit {0}
  MarksNoMore old new = ⊥

  module _ (holds : L → List Val → Type 0) where
    -- an attempt that has set nothing found each of these values
    pub record FindsAll (k : Called L) (pairs : List (ℕ × Val)) : Type 0 where
      pub live : is_live k ≡ true
      pub untouched : IsUntouched (Dstm k)
      pub may : (map : List Val) × MayBegin holds (Dstm k) map
      pub found : (map : List Val) → MayBegin holds (Dstm k) map → All (λ (p : ℕ × Val). value_at map p.0 ≡ p.1) pairs

    -- an object has another value than this
    pub record HasOther (k : Called L) (object : ℕ) (had : Val) : Type 0 where
      pub value : Val
      pub found : (map : List Val) → MayBegin holds (Dstm k) map → value_at map object ≡ value
      pub may : (map : List Val) × MayBegin holds (Dstm k) map
      pub differs : value ≢ had

    -- the objects of the first so many pairs were opened for reading, one after the other, and nothing else was done
    abbrev pub OpensFirst : (count : ℕ) → List (ℕ × Val) → Called L → Called L → Type 0
    OpensFirst zero pairs k n = n ≡ k
    OpensFirst (suc count) pairs k n =
        (m : Called L) × OpensFirst count pairs k m × Opens holds false (object_at pairs count) (Dstm m) (Dstm n)

    -- The attempt did not find one of these values, and those before it: it opened the object and found another one, or it did
    -- not open it.
    pub record FindsOther (began found : Called L) (pairs : List (ℕ × Val)) : Type 0 where
      pub number : ℕ
      pub below : number < length pairs
      pub object : ℕ
      pub object_is : object ≡ object_at pairs number
      pub had : Val
      pub one : Contains pairs (object, had)
      pub last : Called L
      pub before : OpensFirst number pairs began last
      pub keeps : Keeps (Dstm began) (Dstm last)
      pub live : is_live last ≡ true
      pub why : (HasOther found object had × Opens holds false object (Dstm last) (Dstm found))
          ⊎ ((answer : NotOpened) × IsNotOpened holds false object (Dstm last) (Dstm found) answer)

    -- AN ATTEMPT BY DSTM HAS LET GO OF WHAT IT HAD SET: one was begun after it, which has set nothing, has opened nothing for
    -- writing, and has read what this one had read, and no other object, and found the same. Where this one may have begun the
    -- other one may have begun too.
    pub record LetsGoOf (old new : Called L) : Type 0 where
      pub began : Called L
      pub begins : BeginsAnew holds old began
      pub reads : OpensFirst (length (entry old).reads) (entry old).reads began new
      pub nothing : AddsNothing (Dstm old) (Dstm new)
      pub begun : begun (Dstm new) ≡ begun (Dstm old) + 1
      pub live : is_live new ≡ true
      pub untouched : IsUntouched (Dstm new)
      pub unopened : (shape_of new).all_write ≡ false → (o : ℕ) → is_opened new o ≡ false
      pub may : (map : List Val) × MayBegin holds (Dstm new) map
      pub narrows : (map : List Val) → MayBegin holds (Dstm new) map → MayBegin holds (Dstm old) map

    -- AND ONE BY TL2: it held nothing that others meet
    abbrev pub LetsGo : Caller L → Caller L → Type 0
    LetsGo (Dstm old) (Dstm new) = LetsGoOf old new
    LetsGo (Tl2 old) (Tl2 new) = new ≡ old
    LetsGo old new = ⊥

    -- an attempt by DSTM that was begun after this one did not find what this one had read, and was left
    pub record FindsAnother (old new : Called L) : Type 0 where
      pub began : Called L
      pub begins : BeginsAnew holds old began
      pub found : Called L
      pub keeps : Keeps (Dstm began) (Dstm found)
      pub other : FindsOther began found (entry old).reads
      pub left : Keeps (Dstm found) (Dstm new)
      pub quit : IsQuit (Dstm new)
      pub leaves : IsAbandoned holds (Dstm found) (Dstm new)

    -- SOMETHING HAS CHANGED BEFORE AN ATTEMPT LET GO, or it was over. By TL2 nothing is read for that.
    abbrev pub FindsChange : Caller L → Caller L → Type 0
    FindsChange (Dstm old) (Dstm new) = ((is_live old ≡ false) × (new ≡ old)) ⊎ FindsAnother old new
    FindsChange old new = ⊥
