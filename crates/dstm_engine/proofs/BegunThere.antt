-- The attempt that a caller is in, as the last Begin in its log tells.
use Rattle.std.proofs.Common.{◌≡◌, ℕ, List, true, false, inl, inr}
use Rattle.dstm_engine.proofs.Base.{Event, LocalState, Shape, after, core, is_begin, local}
use Rattle.dstm_machines.proofs.Attempts.{kept_since}
use Rattle.dstm_core.proofs.Begun.{begun_how}
pub use Rattle.dstm_progress.proofs.Disturbing.{count_later}
use Rattle.dstm_engine.specs.Callers.{begun_log}

-- only a Begin changes how many attempts a caller has begun
same_begun : (s : Shape) (l : LocalState) (e : Event) → is_begin e.kind ≡ false →
    (after e.kind s l e).begun ≡ l.begun
same_begun s l e q = elim (begun_how s l e e.kind) [
  | inl x ↦ absurd (let z : true ≡ false = rw x.0 at q in cc)
  | inr x ↦ x.1
]

-- so it is as it was at its last one
pub begun_there : (s : Shape) (c : ℕ) (log : List Event) →
    (local s log c).begun ≡ (local s (begun_log c log) c).begun
begun_there s = kept_since is_begin core s (λ (l : LocalState). l.begun) (same_begun s)
