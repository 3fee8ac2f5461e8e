-- How many attempts a caller has begun.
use Rattle.dstm_tl2_steps.proofs.Stepping.{sample_kept}
use Rattle.std.proofs.Common.{◌≡◌, ℕ, List}
use Rattle.dstm_tl2_engine.proofs.Base.{Event, LocalState, Table, is_sample, local, tl2}
use Rattle.dstm_machines.proofs.Attempts.{kept_since}
use Rattle.dstm_tl2_engine.specs.Callers.{begun_log}

-- it does not change within an attempt
pub begun_count : (t : Table) (c : ℕ) (es : List Event) →
    (local t es c).begun ≡ (local t (begun_log c es) c).begun
begun_count t = kept_since is_sample tl2 t (λ (l : LocalState). l.begun) (λ l e q. (sample_kept e.kind t l e q).1)
