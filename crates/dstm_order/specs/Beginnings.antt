-- What a call that begins an attempt draws and stores.
use Rattle.std.specs.Prelude.{◌≡◌, ℕ, true, false, List, [], ◌∷◌}
use Rattle.dstm_core.specs.Events.{Event}
use Rattle.dstm_core.specs.declared.event.Kind.{Kind}
use Rattle.dstm_core.specs.declared.event.Kind.TheVariants.{Stamp, Rank}
use Rattle.dstm_core.specs.declared.shape.Manager.{Manager}
use Rattle.dstm_core.specs.declared.shape.Manager.TheVariants.{Polite, Karma, Polka, Greedy}
use Rattle.dstm_core.specs.declared.shape.Shape.{Shape}
use Rattle.dstm_core.specs.State.{LocalState}
use Rattle.rand_pcg.specs.Lcg.{Lcg}
use Rattle.dstm_order.specs.Calls.{Obeys, newest_of, state_after}
use Rattle.dstm_order.specs.Order.{has_begun}
use Rattle.dstm_order.specs.Tasks.Task.{Beginning}

-- ---- stamps and ranks

abbrev pub with_stamp : Kind → (found : ℕ) → List ℕ → List ℕ
with_stamp Stamp found stamps = found ∷ stamps
with_stamp kind found stamps = stamps

abbrev pub with_rank : Kind → (put : ℕ) → List ℕ → List ℕ
with_rank Rank put ranks = put ∷ ranks
with_rank kind put ranks = ranks

-- the stamps that some events drew, the newest first
abbrev pub stamps_of : List Event → List ℕ
stamps_of [] = []
stamps_of (event ∷ events) = with_stamp event.kind event.found (stamps_of events)

-- the ranks that they stored, the newest first
abbrev pub ranks_of : List Event → List ℕ
ranks_of [] = []
ranks_of (event ∷ events) = with_rank event.kind event.put (ranks_of events)

-- no stamp was drawn, and no rank stored, for an attempt that is still to begin
pub record IsClear (state : LocalState) : Type 0 where
  pub no_stamp : state.stamped ≡ false
  pub no_rank : state.ranked ≡ false

-- ---- what an attempt begins with

-- An attempt at THE SAME transaction draws no stamp, and it gets the rank that its caller had. Under Polite there are
-- no ranks.
abbrev pub BeginsAgain : Manager → (rank : ℕ) → (stamps ranks : List ℕ) → Type 0
BeginsAgain Polite rank stamps ranks = (stamps ≡ []) × (ranks ≡ [])
BeginsAgain Karma rank stamps ranks = (stamps ≡ []) × (ranks ≡ rank ∷ [])
BeginsAgain Polka rank stamps ranks = (stamps ≡ []) × (ranks ≡ rank ∷ [])
BeginsAgain Greedy rank stamps ranks = (stamps ≡ []) × (ranks ≡ rank ∷ [])

-- The first attempt at a NEW transaction gets the rank 0 under Karma and Polka. Under Greedy it draws one stamp, and
-- this is its rank. So its caller has this rank from then on.
abbrev pub BeginsNew : Manager → (rank : ℕ) → (stamps ranks : List ℕ) → Type 0
BeginsNew Polite rank stamps ranks = (stamps ≡ []) × (ranks ≡ [])
BeginsNew Karma rank stamps ranks = (stamps ≡ []) × (ranks ≡ 0 ∷ []) × (rank ≡ 0)
BeginsNew Polka rank stamps ranks = (stamps ≡ []) × (ranks ≡ 0 ∷ []) × (rank ≡ 0)
BeginsNew Greedy rank stamps ranks = (stamps ≡ rank ∷ []) × (ranks ≡ rank ∷ [])

-- EVERY RETRY KEEPS ITS RANK: a call that is to begin the same transaction again draws no stamp and leaves its caller
-- the rank that it had; and where it begins, the attempt has this rank.
abbrev pub EveryRetryKeepsItsRank : Type 0
EveryRetryKeepsItsRank =
    (shape : Shape) (state : LocalState) (generator : Lcg) (events : List Event) → IsClear state →
    Obeys (Beginning false) shape state generator events →
    (stamps_of events ≡ []) × ((state_after shape state events).rank ≡ state.rank)
    × (has_begun (newest_of events) ≡ true →
    BeginsAgain shape.manager state.rank (stamps_of events) (ranks_of events))

-- EVERY NEW TRANSACTION BEGINS ANEW: a call that begins a new one does so with a stamp of its own, or with the rank 0.
abbrev pub EveryNewTransactionBeginsAnew : Type 0
EveryNewTransactionBeginsAnew =
    (shape : Shape) (state : LocalState) (generator : Lcg) (events : List Event) → IsClear state →
    Obeys (Beginning true) shape state generator events → has_begun (newest_of events) ≡ true →
    BeginsNew shape.manager (state_after shape state events).rank (stamps_of events) (ranks_of events)
