-- The ranks of enemies.
use Rattle.std.proofs.Common.{◌≡◌, List, inl, inr, refl, sym, ℕ}
use Rattle.dstm_core.proofs.Base.{Core, Event, local, or_zero, res}
use Rattle.dstm_core.proofs.SmallRanks.{found_small_rank}
use Rattle.dstm_order.proofs.Base.{Greedy, IsRank, Karma, Manager, Polite, Polka, Shape}

-- a rank that was found is one that an attempt can have
pub found_is_rank : (s : Shape) (es : List Event) → Core s es → (c : ℕ) →
    IsRank s.manager (or_zero (res (local s es c)).rank)
found_is_rank s es core c = go s.manager refl
  where
    go : (m : Manager) → m ≡ s.manager → IsRank m (or_zero (res (local s es c)).rank)
    go Polite q = tt
    go Greedy q = tt
    go Karma q = found_small_rank s es (inl (sym q)) core c
    go Polka q = found_small_rank s es (inr (sym q)) core c
