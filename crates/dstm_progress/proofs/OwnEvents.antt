-- A caller's own events since some log.
use Rattle.std.proofs.Common.{◌++◌, ◌≡◌, List, [], append-nil, subst, sym, ℕ}
use Rattle.dstm_machines.proofs.Own as runs
use Rattle.dstm_core.proofs.Base.{Core, Event, core, events_of, first, local}
use Rattle.dstm_order.proofs.Base.{Shape, state_after}
use Rattle.dstm_progress.proofs.Own.{AreAllowed, allowed_split, own_allowed}

-- its state is that after all its own events
pub whole_state : (s : Shape) (c : ℕ) (run : List Event) → local s run c ≡ state_after s first (events_of c run)
whole_state s c run = runs.whole_state core s c run

pub whole_allowed : (s : Shape) (c : ℕ) (run : List Event) → Core s run → AreAllowed s first (events_of c run)
whole_allowed s c run core = own_allowed s c run [] (subst (Core s) (sym (append-nil run)) core)

pub after_own : (s : Shape) (c : ℕ) (run before events : List Event) → events_of c run ≡ events ++ events_of c before →
    local s run c ≡ state_after s (local s before c) events
after_own s = runs.after_own core s

pub allowed_own : (s : Shape) (c : ℕ) (run before events : List Event) → Core s run →
    events_of c run ≡ events ++ events_of c before → AreAllowed s (local s before c) events
allowed_own s c run before events core own =
    subst (λ l. AreAllowed s l events) (sym (whole_state s c before))
    (allowed_split s first events (events_of c before)
    (subst (AreAllowed s first) own (whole_allowed s c run core))).0

pub allowed_before : (s : Shape) (c : ℕ) (run before events : List Event) → Core s run →
    events_of c run ≡ events ++ events_of c before → AreAllowed s first (events_of c before)
allowed_before s c run before events core own =
    (allowed_split s first events (events_of c before)
    (subst (AreAllowed s first) own (whole_allowed s c run core))).1
