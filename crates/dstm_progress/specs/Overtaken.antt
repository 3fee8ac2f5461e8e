-- A call that answers Again.
use Rattle.std.specs.Prelude.{◌≡◌, List, [], ◌∷◌, ◌++◌, Some}
use Rattle.dstm_machines.specs.Examples.{event, events}
use Rattle.dstm_machines.specs.Traces.{continued}
use Rattle.dstm_core.specs.Events.{Event}
use Rattle.dstm_core.specs.Runs.{local}
use Rattle.dstm_core.specs.declared.event.Kind.TheVariants.{Begin, Enrol, Install, LookNumber, LookObj, PutOld, PutOwner, Quit}
use Rattle.dstm_order.specs.Calls.{answer_of}
use Rattle.dstm_order.specs.Drive.{two, zeros}
use Rattle.dstm_order.specs.Tasks.Task.{Doing}
use Rattle.dstm_order.specs.Tasks.Work.{Writing}
use Rattle.dstm_order.specs.declared.again.Again.TheVariants.{Stale}
use Rattle.dstm_progress.specs.Ends.{IsCallIn, IsCurrent}

-- caller 0 reads object 0, and caller 1 installs a locator there; the oldest event first
abbrev pub installs : List Event
installs =
    event 0 (Enrol, 22, 0, 0, 1) ∷ event 1 (Enrol, 22, 1, 1, 2)
    ∷ events 0 ((Begin, 2, 0, 0, 1) ∷ (LookObj, 0, 0, 0, 0) ∷ (LookNumber, 23, 0, 0, 0) ∷ [])
    ++ events 1
    ((Begin, 3, 0, 0, 1) ∷ (LookObj, 0, 0, 0, 0) ∷ (PutOwner, 8, 0, 0, 1) ∷ (PutOld, 12, 0, 0, 0) ∷
    (Install, 0, 0, 0, 3) ∷ [])

abbrev pub installed : List Event
installed = continued [] installs

-- then caller 0 opens the object for writing, finds its read stale and quits
abbrev pub opens : List Event
opens = events 0 ((LookObj, 0, 3, 3, 3) ∷ (Quit, 2, 1, 1, 5) ∷ [])

-- and is told so
pub record SomeAgain : Type 0 where
  pub call : IsCallIn (Doing (Writing 0)) two 0 zeros (continued [] opens) installed (continued installed opens)
  pub current : IsCurrent (local two installed 0)
  pub answers : answer_of (Doing (Writing 0)) two (local two installed 0) zeros (continued [] opens) ≡ Some (Stale 0)
