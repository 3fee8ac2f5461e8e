-- An attempt that began as the oldest is left alone.
use Rattle.std.proofs.Common.{◌≡◌, ◌≢◌, ◌∷◌, ◌++◌, List, ℕ, subst, sym}
use Rattle.dstm_core.specs.Events.{Event}
use Rattle.dstm_records.proofs.Base.{Core, Greedy, Outside, Shape}
use Rattle.dstm_core.specs.Runs.{local}
use Rattle.dstm_core.proofs.Pasts.{core_past}
use Rattle.dstm_progress.specs.Oldest.{IsOldest, IsUntouched}
use Rattle.dstm_progress.proofs.Oldest.{oldest_is_safe}
use Rattle.dstm_records.specs.Oldest.{WasOldest}

pub safe_when_oldest : {s : Shape} {log : List Event} {c : ℕ} → Core s log → s.manager ≡ Greedy → (was : WasOldest s log c) →
    IsUntouched s (was.since ++ was.begin ∷ was.before) c
safe_when_oldest {s = s} core greedy was =
    let es = was.begin ∷ was.before in
    let now = was.since ++ es in
    let here = sym was.caller in
    subst (IsUntouched s now) was.caller
    (oldest_is_safe s was.since was.begin was.before (core_past s was.later now (subst (Core s) was.log_is core)) greedy
    was.begins (subst (IsOldest s es) here was.oldest)
    (subst (λ (d : ℕ). (local s now d).begun ≡ (local s es d).begun) here was.same)
    (subst (λ (d : ℕ). (local s now d).phase ≢ Outside) here was.under_way))
