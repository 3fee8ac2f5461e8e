-- The entries of what callers have committed are the history, in the order of the numbers, and what a caller has
-- committed stands there.
use Rattle.std.proofs.Common.{◌<◌, ◌++◌, ◌∷◌, ◌≡◌, List, arith, inl, inr, map, refl, reverse, subst, sym, true, ℕ}
use Rattle.dstm_tl2.proofs.Base.{Committed, Event, LawfulRun, Run, Table, Val, and_parts, attempt_of, commits, commits_at, committed_in, done_by, entry_at, history_of, is_draw, local, objects, will_of}
use Rattle.dstm_machines.proofs.Callers as histories
use Rattle.dstm_machines.proofs.Callers.{falls, part_stands, stands_later}
use Rattle.dstm_tl2.proofs.Clock.{clock, clock_step, clock_up}
use Rattle.dstm_tl2.proofs.Legal.{committed_legal}
use Rattle.dstm_tl2.proofs.Orders.{prefix_is_lawful}
use Rattle.dstm_tl2.specs.Telling.{NumbersFall, Stands, StandsIn}
use Rattle.dstm_tl2.proofs.Told.{each_is_told}

-- the entries are the history
pub entries_are_history : (t : Table) (run : List Event) →
    history_of t run ≡ reverse (map (λ (x : Committed). x.entry) (committed_in t run))
entries_are_history t run = histories.entries_are_history (commits_at (will_of t run)) (entry_at t) run

-- the numbers fall from the newest on
pub in_order : (t : Table) (run : List Event) → Run t run → NumbersFall (committed_in t run)
in_order t run r =
    (falls (commits_at (will_of t run)) (entry_at t) (Run t) (λ e es run. run.0) (clock t)
    (λ e es run. clock_up t es e run.1) draws run r).1
  where
    draws : (e : Event) (es : List Event) → Run t (e ∷ es) → commits_at (will_of t run) e es ≡ true →
        (e.found ≡ clock t es) × (e.found < clock t (e ∷ es))
    draws e es now h = elim (clock_step t es e now.1) [
      | inl x ↦ let found = x.found in let up = x.rises in (x.found, omega arith)
      | inr x ↦ absurd (let no = x.kind in let yes = (and_parts (is_draw e.kind) (will_of t run e.found) h).0 in cc)
    ]

-- what a caller has committed stands in the history
pub done_stands : (t : Table) (holds : List Val → Type 0) (later before : List Event) (c : ℕ) (x : Committed) →
    LawfulRun t holds (later ++ before) → Stands x (done_by t before c) →
    StandsIn t holds (history_of t (later ++ before)) x.entry
done_stands t holds later before c x run h =
    part_stands (commits_at (will_of t (later ++ before))) (entry_at t) (objects t) t.start holds (later ++ before) refl
    (committed_legal t (later ++ before) run.run)
    (λ prefix rest is ok. prefix_is_lawful t holds (later ++ before) prefix rest run is ok) c x
    (subst (Stands x) (sym (each_is_told t (later ++ before) run.run c))
    (stands_later (commits t c) (λ e es. attempt_of c (local t (e ∷ es) c)) later before x h))
