-- The objects that a caller has opened for writing, and the values that it puts.
use Rattle.std.specs.Prelude.{◌≡◌, ◌⊎◌, ℕ, ◌+◌, ◌-◌, ◌*◌, ◌<◌, false, List, [], ◌∷◌, ◌++◌, length, slice_index_or, Option, Some, None}
use Rattle.dstm_core.specs.Events.{Event}
use Rattle.dstm_core.specs.declared.state.Write.{Write}
use Rattle.dstm_core.specs.declared.state.Phase.TheVariants.{Running, Putting}
use Rattle.dstm_core.specs.State.{LocalState}
use Rattle.dstm_core.specs.Histories.{seen}
use Rattle.dstm_core.specs.Runs.{Core}
use Rattle.dstm_core.specs.Traces.{IsPastOf, word}
use Rattle.dstm_core.specs.Words.{Word}
use Rattle.dstm_core.specs.Words.Word.{LowWord, HighWord}
use Rattle.dstm_model.specs.declared.value.Val.{Val}
use Rattle.dstm_model.specs.Map.{Agrees, with_writes, no_value}
use Rattle.dstm_words.specs.Seats.{Home, view_of}
use Rattle.dstm_order.specs.Order.{in_putting}
use Rattle.dstm_order.specs.declared.TheConstants.{MAX_MISSED}
use Rattle.dstm_order.specs.Tasks.{Work}
use Rattle.dstm_order.specs.Tasks.Work.{Committing}
use Rattle.dstm_steps.specs.declared.slots.WriteSlot.{WriteSlot}
use Rattle.dstm_steps.specs.declared.steps.Steps.{Steps}
use Rattle.dstm_steps.specs.Under.{Began, IsRunning, Under, now, work_of}

-- the value last set, or else the old one
abbrev pub or_old : Option Val → Val → Val
or_old (Some value) old = value
or_old None old = old

abbrev pub to_put : WriteSlot → Val
to_put slot = or_old slot.new slot.old

-- the objects and the values that a commit puts
abbrev pub puts_of : List WriteSlot → List (ℕ × Val)
puts_of [] = []
puts_of (slot ∷ slots) = (slot.object, to_put slot) ∷ puts_of slots

-- the slots are those of the writes
abbrev pub AreWrites : List WriteSlot → List Write → Type 0
AreWrites [] [] = Unit {0}
AreWrites (slot ∷ slots) (write ∷ writes) = (write.object ≡ slot.object) × AreWrites slots writes
AreWrites [] (write ∷ writes) = ⊥
AreWrites (slot ∷ slots) [] = ⊥

-- the values that a commit is to put
abbrev pub value_in : Work → ℕ → Val
value_in (Committing value) object = value object
value_in work object = no_value

-- every new value is put, or there is none
abbrev pub IsReady : LocalState → Type 0
IsReady state =
    ((state.phase ≡ Running) × (state.writes ≡ []))
    ⊎ ((state.phase ≡ Putting) × (state.written ≡ length state.writes))

abbrev pub no_slot : WriteSlot
no_slot = record { object = 0; old = no_value; new = None }

module _ {L : Type 0} where
  -- a word holds a number in every core run that goes on from what the seat has seen
  abbrev pub Holds : Home L → Steps L → Word → ℕ → Type 0
  Holds home steps w n =
      (more : List Event) → Core home.terms.shape (more ++ (view_of steps.seat).log) →
      word home.terms.shape (more ++ (view_of steps.seat).log) w ≡ n

  -- the number was put in the word, and stays
  pub record Puts (home : Home L) (old new : Steps L) (w : Word) (n : ℕ) : Type 0 where
    pub past : IsPastOf (view_of old.seat).log (view_of new.seat).log
    pub put : Holds home new w n
    pub tries : new.missed < MAX_MISSED

  -- the values of the first n slots are put, in locators one after the other, and stay
  abbrev pub ArePut : Home L → Steps L → (first : ℕ) → List WriteSlot → (n : ℕ) → Type 0
  ArePut home steps first slots n =
      (j : ℕ) → j < n → Holds home steps (LowWord (first + j)) (to_put (slice_index_or slots j no_slot)).low
      × Holds home steps (HighWord (first + j)) (to_put (slice_index_or slots j no_slot)).high

  -- every lawful map that agrees with what the attempt has read is lawful with the values that it puts
  abbrev pub IsLawful : (L → List Val → Type 0) → Home L → Steps L → (number : ℕ) → List WriteSlot → Type 0
  IsLawful holds home steps number slots =
      (map : List Val) → length map ≡ home.terms.shape.objects → holds home.terms.law.value map →
      Agrees map (seen home.terms.shape home.terms.start.value.items (view_of steps.seat).log
      (view_of steps.seat).log number) →
      holds home.terms.law.value (with_writes map (puts_of slots))

  -- the attempt runs, and is to put its new values, the first of them in this locator
  pub record CanPut (holds : L → List Val → Type 0) (home : Home L) (began : Began) (steps : Steps L) (first : ℕ) :
      Type 0 where
    pub under : Under holds home began steps (in_putting (value_in (work_of began.task)) (now home steps)) None
    pub work : work_of began.task ≡ Committing (value_in (work_of began.task))
    pub running : IsRunning (now home steps)
    pub none : ((now home steps).written ≡ 0) × ((now home steps).high_put ≡ false)
    pub first_is : first ≡ began.number * home.terms.shape.locators +
        ((now home steps).installed - length (now home steps).writes)
