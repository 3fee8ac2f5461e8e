-- How an example is shown to be a run: event by event.
use Rattle.std.proofs.Common.{◌≡◌, ◌<◌, ◌∷◌, List, []}
use Rattle.dstm_machines.specs.declared.event.Event.{Event}
use Rattle.dstm_machines.specs.Machines.{Fits, Machine, Run, local}
use Rattle.dstm_machines.specs.Traces.{at, continued}

module _ {K T S : Type 0} (machine : Machine K T S) (table : T) where
  -- each of some events, the oldest first, fits the run before it
  abbrev pub AllFit : List (Event K) → List (Event K) → Type 0
  AllFit before [] = Unit {0}
  AllFit before (e ∷ events) = Fits machine table before e × AllFit (e ∷ before) events

  pub run_then : (before events : List (Event K)) → Run machine table before → AllFit before events →
      Run machine table (continued before events)
  run_then before [] run h = run
  run_then before (e ∷ events) run h = run_then (e ∷ before) events (run, h.0) h.1

-- an event by which no caller enrols
pub fit : {K T S : Type 0} {machine : Machine K T S} {table : T} {before : List (Event K)} {e : Event K} →
    e.found ≡ at (machine.initial table) before e.place → e.caller < machine.callers table →
    (machine.Enrols e.kind → ⊥) → machine.Allows table (local machine table before e.caller) e →
    Fits machine table before e
fit linked caller other allowed = record {
  linked = linked;
  caller = caller;
  enrolled = λ q. absurd (other q);
  allowed = allowed;
}
