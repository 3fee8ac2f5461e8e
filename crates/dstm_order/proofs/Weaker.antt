-- Calls of tasks that may come are calls of tasks of which less is said.
use Rattle.std.proofs.Common.{List, [], ◌∷◌, ℕ}
use Rattle.dstm_order.proofs.Base.{AreMade, ByCalls, Call, Lcg, Shape, Task, state_by}
use Rattle.dstm_core.proofs.Base.{Event, LocalState, first}

module _ (May Will : LocalState → Task → Type 0) (implies : (l : LocalState) (t : Task) → May l t → Will l t) where
  pub made_weaker : (s : Shape) (l : LocalState) (g : Lcg) (cs : List Call) → AreMade s l g May cs →
      AreMade s l g Will cs
  made_weaker s l g [] m = tt
  made_weaker s l g (c ∷ cs) m = (made_weaker s l g cs m.0, implies (state_by s l g cs) c.task m.1, m.2)

  pub by_weaker : (s : Shape) (g : Lcg) (log : List Event) (c : ℕ) → ByCalls May s g log c → ByCalls Will s g log c
  by_weaker s g log c by = record {
    calls = by.calls;
    own = by.own;
    made = made_weaker s first g by.calls by.made;
  }
