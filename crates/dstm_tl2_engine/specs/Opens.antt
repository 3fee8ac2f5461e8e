-- Private: what an open of an object leaves.
use Rattle.std.specs.Prelude.{◌≡◌, ℕ, List}
use Rattle.dstm_mem.specs.Memory.{HoldsAlso}
use Rattle.dstm_model.specs.declared.value.Val.{Val}
use Rattle.dstm_tl2_engine.specs.Attempts.{Admits, done}
use Rattle.dstm_tl2_engine.specs.Callers.{TlCalled, begun_log, held}

module _ {L : Type 0} (holds : L → List Val → Type 0) where
  -- The attempt is the same one, and admits no map that it did not admit. Whatever the call answers, nothing was
  -- committed.
  pub record Continues (k n : TlCalled L) : Type 0 where
    pub attempt : begun_log n.number n.log ≡ begun_log k.number k.log
    pub done : done n ≡ done k
    pub narrows : (map : List Val) → Admits holds n map → Admits holds k map

  -- object o is open in it
  pub record HasOpened (o : ℕ) (k n : TlCalled L) : Type 0 where
    pub held : HoldsAlso o (held k) (held n)
    pub admits : (map : List Val) × Admits holds n map
