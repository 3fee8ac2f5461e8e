-- The callers of a table that are given out and taken back together.
use Rattle.std.specs.Prelude.{◌≡◌, ℕ, ◌+◌, ◌<◌, false, List, None, length, slice_index_or}
use Rattle.dstm_model.specs.declared.value.Val.{Val}
use Rattle.dstm_core.specs.Events.{Event}
use Rattle.dstm_core.specs.Traces.{IsPastOf, events_of}
use Rattle.dstm_opacity.specs.Committed.{done_by}
use Rattle.dstm_order.specs.Tasks.Task.{Leaving}
use Rattle.dstm_words.specs.Seats.{Home}
use Rattle.dstm_engine.specs.Attempts.{done}
use Rattle.dstm_engine.specs.Callers.{Called, is_live, shape_of, start_of}
use Rattle.dstm_engine.specs.Calls.{Performs}
use Rattle.dstm_engine.specs.Tables.{Enrols, Founding}

module _ {L : Type 0} where
  -- a caller of the table
  abbrev pub IsOfTable : Home L → Called L → Type 0
  IsOfTable table k = k.home ≡ table

  -- all that the caller has seen is in the log
  abbrev pub IsSeenIn : List Event → Called L → Type 0
  IsSeenIn log k = IsPastOf k.log log

  -- so many callers more were made, and are out
  pub record AreOut (count : ℕ) (f g : Founding L) : Type 0 where
    pub home : g.home ≡ f.home
    pub guests : g.guests ≡ f.guests
    pub made : g.made ≡ f.made + count
    pub out : g.view.out ≡ f.view.out + count

  -- A caller was retired, and the log went on: it quit an attempt that it had dropped before its end, and did no more.
  -- What it has committed is told by the log.
  pub record IsRetiredIn (holds : L → List Val → Type 0) (log : List Event) (k : Called L) : Type 0 where
    pub quit : Called L
    pub steps : Performs holds Leaving k quit None
    pub rest : is_live k ≡ false → quit ≡ k
    pub past : IsPastOf quit.log log
    pub own : events_of k.number log ≡ events_of k.number quit.log
    pub done : done_by (shape_of k) (start_of k) log log k.number ≡ done k

  module _ (holds : L → List Val → Type 0) (table : Home L) where
    -- a new caller of the table, with this seed
    pub record IsNew (seed : ℕ) (k : Called L) : Type 0 where
      pub home : k.home ≡ table
      pub enrols : (f g : Founding L) × Enrols holds f g seed k

    -- they are new, and the place of each is its seed
    abbrev pub AreNew : List (Called L) → Type 0
    AreNew callers = (seed : ℕ) (other : Called L) → seed < length callers → IsNew seed (slice_index_or callers seed other)
