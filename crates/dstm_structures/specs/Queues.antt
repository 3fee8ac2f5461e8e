-- What a queue's cells hold, and what the calls on it do.
use Rattle.std.specs.Prelude.{◌≡◌, ◌⊎◌, ℕ, ◌+◌, ◌%◌, ◌^◌, ◌<◌, Bool, true, false, if◌then◌else◌, nat_lt, List, [], ◌∷◌, ◌++◌, length, Option, None, Some}
use Rattle.dstm_model.specs.declared.value.Val.{Val}
use Rattle.dstm_model.specs.Map.{value_at}
use Rattle.dstm_tables.specs.declared.tables.Caller.{Caller}
use Rattle.dstm_structures.specs.Added.{AddsCells}
use Rattle.dstm_structures.specs.Circles.{held_from}
use Rattle.dstm_structures.specs.Effects.{OpensEach}
use Rattle.dstm_structures.specs.declared.queue.Queue.{Queue}

-- the two numbers that a value tells
abbrev pub pair_of : Val → ℕ × ℕ
pair_of val = (val.low % 2 ^ 32, val.high % 2 ^ 32)

-- a place of n, and how many of them are taken: these numbers, where that can be
abbrev pub within : ℕ → ℕ × ℕ → ℕ × ℕ
within n ends = (if nat_lt ends.0 n then ends.0 else 0, if nat_lt ends.1 n then ends.1 else n)

abbrev pub ends_in : (first n : ℕ) → List Val → ℕ × ℕ
ends_in first n map = within n (pair_of (value_at map first))

-- what the places behind an object hold, by what a value stands for
abbrev pub held_in : {T : Type 0} → (Val → T) → (first : ℕ) → List Val → ℕ → T
held_in found first map at = found (value_at map (first + 1 + at))

-- the values of a queue of n places whose first object this is, the first one first
abbrev pub items_in : {T : Type 0} → (Val → T) → (first n : ℕ) → List Val → List T
items_in found first n map =
    held_from n (held_in found first map) (ends_in first n map).0 (ends_in first n map).1

-- every object but those of the queue keeps its value
abbrev pub KeepsOthers : (first n : ℕ) → List Val → List Val → Type 0
KeepsOthers first n before after =
    (o : ℕ) → (o < first) ⊎ (first + n < o) → value_at after o ≡ value_at before o

-- the objects of a queue are among so many
abbrev pub end_of : {T : Type 0} → Queue T → ℕ
end_of queue = queue.cells.first + 1 + queue.cells.capacity

module _ {T : Type 0} (found : Val → T) (queue : Queue T) where
  -- WHAT A QUEUE HOLDS, the first one first
  abbrev pub items_of : List Val → List T
  items_of map = items_in found queue.cells.first queue.cells.capacity map

  -- so many values are in the queue, and nothing was set
  pub record Counts (count : ℕ) (before after : List Val) : Type 0 where
    pub is : count ≡ length (items_of before)
    pub same : after ≡ before

  -- A VALUE WAS PUT AT THE END, where there was room for it; else nothing was set
  pub record PutsLast (value : T) (before after : List Val) : Type 0 where
    pub room : length (items_of before) < queue.cells.capacity
    pub last : items_of after ≡ items_of before ++ (value ∷ [])
    pub others : KeepsOthers queue.cells.first queue.cells.capacity before after

  abbrev pub Pushes : T → Bool → List Val → List Val → Type 0
  Pushes value true before after = PutsLast value before after
  Pushes value false before after = Counts queue.cells.capacity before after

  -- THE FIRST VALUE WAS TAKEN, where there was one; else nothing was set
  pub record TakesFirst (value : T) (before after : List Val) : Type 0 where
    pub first : items_of before ≡ value ∷ items_of after
    pub others : KeepsOthers queue.cells.first queue.cells.capacity before after

  abbrev pub Pops : Option T → List Val → List Val → Type 0
  Pops None before after = Counts 0 before after
  Pops (Some value) before after = TakesFirst value before after

  -- the first value was found, and nothing was set
  pub record Leads (value : T) (before after : List Val) : Type 0 where
    pub rest : List T
    pub first : items_of before ≡ value ∷ rest
    pub same : after ≡ before

  abbrev pub Fronts : Option T → List Val → List Val → Type 0
  Fronts None before after = Counts 0 before after
  Fronts (Some value) before after = Leads value before after

  -- ---- what the calls open

  -- the cell of the ends
  abbrev pub ends_at : ℕ
  ends_at = queue.cells.first

  module _ {L : Type 0} (holds : L → List Val → Type 0) where
    -- the cell of the ends is read, and no other one is opened
    abbrev pub OpensEnds : Caller L → Caller L → Type 0
    OpensEnds old new = OpensEach holds ((false, ends_at) ∷ []) old new

    -- the cell of the ends is read, a place is opened, and the ends are set
    abbrev pub OpensPlace : (writes : Bool) → Caller L → Caller L → Type 0
    OpensPlace writes old new =
        (at : ℕ) × (at < queue.cells.capacity)
        × OpensEach holds ((false, ends_at) ∷ (writes, ends_at + 1 + at) ∷ (true, ends_at) ∷ []) old new

    -- WHAT PUTTING A VALUE OPENS, by whether there was room
    abbrev pub OpensToPush : Bool → Caller L → Caller L → Type 0
    OpensToPush true old new = OpensPlace true old new
    OpensToPush false old new = OpensEnds old new

    -- WHAT TAKING THE FIRST VALUE OPENS, by whether there was one
    abbrev pub OpensToPop : Option T → Caller L → Caller L → Type 0
    OpensToPop None old new = OpensEnds old new
    OpensToPop (Some value) old new = OpensPlace false old new

    -- what a look at the first value opens
    abbrev pub OpensToFront : Option T → Caller L → Caller L → Type 0
    OpensToFront None old new = OpensEnds old new
    OpensToFront (Some value) old new =
        (at : ℕ) × (at < queue.cells.capacity)
        × OpensEach holds ((false, ends_at) ∷ (false, ends_at + 1 + at) ∷ []) old new

  -- an empty queue has got the objects behind those before
  pub record Adds (before after : List Val) : Type 0 where
    pub cells : AddsCells queue.cells.first (queue.cells.capacity + 1) before after
    pub open cells use *
    pub empty : items_of after ≡ []
