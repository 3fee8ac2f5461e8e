-- What attempts leave, as their caller's log tells.
use Rattle.std.specs.Prelude.{◌≡◌, ◌⊎◌, ℕ, ◌+◌, ◌<◌, Bool, false, List, ◌∷◌, length, Option, None}
use Rattle.dstm_model.specs.declared.value.Val.{Val}
use Rattle.dstm_model.specs.Map.{Agrees, Entry, with_writes}
use Rattle.dstm_engine.specs.Makes.{Makes}
use Rattle.dstm_progress.specs.Lives.{TriesByShape}
use Rattle.dstm_mem.specs.Memory.{value_in}
use Rattle.dstm_tl2_engine.specs.Makes as tl2
use Rattle.dstm_tl2_order.specs.Made.{LocksItsWrites}
use Rattle.dstm_tables.specs.declared.attempting.Ended.{Ended}
use Rattle.dstm_tables.specs.declared.attempting.Ended.TheVariants as ended
use Rattle.dstm_tables.specs.declared.tables.Caller.{Caller}
use Rattle.dstm_tables.specs.declared.tables.Caller.TheVariants.{Dstm, Tl2}
use Rattle.dstm_tables.specs.Callers.{AtRest, begun, done, home_of, law_of, number_of, round_of}
use Rattle.dstm_tables.specs.Tells.{CannotBegin, HasCommitted, HasFewSights, IsPast, IsSpent, WasAborted, WasDisturbed, callers_of, start_of}

-- What a run has left is what was committed: it had read what is read, and nothing is written that it had not opened.
pub record IsLeftBy (leaves : (ℕ → Option Val) → (ℕ → Bool) → Type 0) (entry : Entry) : Type 0 where
  pub held : ℕ → Option Val
  pub opened : ℕ → Bool
  pub left : leaves held opened
  pub reads : (o : ℕ) → value_in entry.reads o ≡ held o
  pub writes : (o : ℕ) → opened o ≡ false → value_in entry.writes o ≡ None

module _ {L : Type 0} where
  -- It went on by calls: under DSTM each transaction again until it committed, as its table wants opens; under TL2 each locks no
  -- more than is written.
  abbrev pub WentByCalls : (k n : Caller L) → Type 0
  WentByCalls (Dstm k) (Dstm n) = Makes (TriesByShape k.home.terms.shape) k n
  WentByCalls (Tl2 k) (Tl2 n) = tl2.Makes LocksItsWrites k n
  WentByCalls k n = ⊥

  -- attempt i of the caller committed, made sure of by its opens and its commit alone; or others kept it from that, so that it
  -- was aborted, and it was made sure of so many times more at most
  abbrev pub WasNotWasted : (rechecks : ℕ) → Caller L → ℕ → Type 0
  WasNotWasted rechecks k i =
      (HasCommitted (round_of k) (number_of k) i × HasFewSights 0 (round_of k) (number_of k) i)
      ⊎ (WasDisturbed (round_of k) (number_of k) i × WasAborted (round_of k) (number_of k) i
      × HasFewSights rechecks (round_of k) (number_of k) i)

  module _ (holds : L → List Val → Type 0) where
    -- it is the same caller of the same table, and its log went on
    pub record GoesOn (k n : Caller L) : Type 0 where
      pub home : home_of n ≡ home_of k
      pub number : number_of n ≡ number_of k
      pub seen : IsPast (round_of k) (round_of n)
      pub calls : WentByCalls k n
      pub rest : AtRest holds n

    pub record OneMore (k n : Caller L) : Type 0 where
      pub on : GoesOn k n
      pub begun : begun n ≡ begun k + 1

    -- It has committed: its transaction is the newest one of its caller, and is what the body's run has left; and the body was right
    -- on every lawful map of the objects that agrees with its reads. It was made sure of by its opens and its commit alone.
    pub record Did (is_right : List Val → List Val → Type 0) (leaves : (ℕ → Option Val) → (ℕ → Bool) → Type 0)
        (k n : Caller L) (number : ℕ) : Type 0 where
      pub made : OneMore k n
      pub committed : HasCommitted (round_of n) (number_of n) (begun n)
      pub entry : Entry
      pub newest : done n ≡ record { caller = number_of k; number = number; entry = entry } ∷ done k
      pub right : (map : List Val) → length map ≡ length (start_of (round_of k)) → holds (law_of k) map →
          Agrees map entry.reads → is_right map (with_writes map entry.writes)
      pub left : IsLeftBy leaves entry
      pub sighted : HasFewSights 0 (round_of n) (number_of n) (begun n)

    -- others kept it from that, which are there; it was made sure of so many times more at most
    pub record WasKept (rechecks : ℕ) (k n : Caller L) : Type 0 where
      pub made : OneMore k n
      pub disturbed : WasDisturbed (round_of n) (number_of n) (begun n)
      pub aborted : WasAborted (round_of n) (number_of n) (begun n)
      pub others : 1 < callers_of (round_of n)
      pub same_done : done n ≡ done k
      pub sighted : HasFewSights rechecks (round_of n) (number_of n) (begun n)

    -- none was made: the caller has no attempt left, or too few locators
    pub record IsSpentFrom (k n : Caller L) : Type 0 where
      pub on : GoesOn k n
      pub begun : begun n ≡ begun k
      pub was : CannotBegin (round_of k) (number_of k)
      pub spent : IsSpent (round_of n) (number_of n)
      pub same_done : done n ≡ done k

    -- how an attempt ended that did not commit
    abbrev pub EndsBy : (k n : Caller L) → Ended → Type 0
    EndsBy k n ended.Again = WasKept 0 k n
    EndsBy k n ended.Spent = IsSpentFrom k n
