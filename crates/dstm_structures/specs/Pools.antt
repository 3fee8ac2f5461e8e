-- What a pool's cells hold, and what the calls on it do.
use Rattle.std.specs.Prelude.{◌≡◌, ◌≢◌, ℕ, ◌+◌, ◌*◌, ◌<◌, ◌==◌, Bool, true, false, List, [], ◌∷◌, ◌++◌, Option, None, Some}
use Rattle.dstm_cells.specs.declared.cell.Cell.{Cell}
use Rattle.dstm_model.specs.declared.value.Val.{Val}
use Rattle.dstm_model.specs.Map.{value_at}
use Rattle.dstm_tables.specs.declared.tables.Caller.{Caller}
use Rattle.dstm_structures.specs.Added.{AddsCells}
use Rattle.dstm_structures.specs.Circles.{behind, held_from}
use Rattle.dstm_structures.specs.Effects.{OpensEach}
use Rattle.dstm_structures.specs.declared.pool.Pool.{Pool}

-- whether a value marks a cell as taken
abbrev pub is_mark : Val → Bool
is_mark val = val.low == 1

module _ {T : Type 0} (pool : Pool T) where
  -- the objects of a pool are among so many
  abbrev pub end_of : ℕ
  end_of = pool.cells.first + 2 * pool.cells.capacity

  -- the cell of a place, and its mark
  abbrev pub cell_at : ℕ → ℕ
  cell_at at = pool.cells.first + at

  abbrev pub mark_at : ℕ → ℕ
  mark_at at = pool.cells.first + pool.cells.capacity + at

  -- WHETHER THE CELL OF A PLACE IS TAKEN, by the values of all objects: whatever they are, so that no pool is out of order
  abbrev pub is_taken : List Val → ℕ → Bool
  is_taken values at = is_mark (value_at values (mark_at at))

  -- ---- the search for a cell

  -- this is the first place from another one on, in a circle, whose cell is not taken
  pub record IsFirstFree (start at : ℕ) (values : List Val) : Type 0 where
    pub passed : ℕ
    pub few : passed < pool.cells.capacity
    pub is : at ≡ behind pool.cells.capacity start passed
    pub free : is_taken values at ≡ false
    pub taken : (j : ℕ) → j < passed → is_taken values (behind pool.cells.capacity start j) ≡ true

  -- it was looked for, and found; nothing was set
  pub record FindsFree (start at : ℕ) (before after : List Val) : Type 0 where
    pub first : IsFirstFree start at before
    pub same : after ≡ before

  -- all cells are taken, and nothing was set
  pub record HasNone (before after : List Val) : Type 0 where
    pub all : (at : ℕ) → at < pool.cells.capacity → is_taken before at ≡ true
    pub same : after ≡ before

  abbrev pub Seeks : (start : ℕ) → Option ℕ → List Val → List Val → Type 0
  Seeks start None before after = HasNone before after
  Seeks start (Some at) before after = FindsFree start at before after

  -- ---- what the calls do

  -- A CELL WAS TAKEN: the first one from a place on that was not; it is now, and holds this; no other object was set
  pub record TakesCell (found : Val → T) (start : ℕ) (value : T) (cell : Cell T) (before after : List Val) : Type 0 where
    pub at : ℕ
    pub within : at < pool.cells.capacity
    pub cell_is : cell.object ≡ cell_at at
    pub first : IsFirstFree start at before
    pub is : is_taken after at ≡ true
    pub holds : found (value_at after (cell_at at)) ≡ value
    pub others : (o : ℕ) → o ≢ mark_at at → o ≢ cell_at at → value_at after o ≡ value_at before o

  -- WHAT TAKING A CELL DOES, by the answer
  abbrev pub Takes : (Val → T) → (start : ℕ) → T → Option (Cell T) → List Val → List Val → Type 0
  Takes found start value None before after = HasNone before after
  Takes found start value (Some cell) before after = TakesCell found start value cell before after

  -- A CELL WAS GIVEN BACK: it was taken, and is not now; no other object was set, nor what it holds
  pub record GivesCell (object : ℕ) (before after : List Val) : Type 0 where
    pub at : ℕ
    pub within : at < pool.cells.capacity
    pub cell_is : object ≡ cell_at at
    pub was : is_taken before at ≡ true
    pub is : is_taken after at ≡ false
    pub others : (o : ℕ) → o ≢ mark_at at → value_at after o ≡ value_at before o

  -- it is no cell of the pool, or was not taken, and nothing was set
  pub record GivesNone (object : ℕ) (before after : List Val) : Type 0 where
    pub free : (at : ℕ) → at < pool.cells.capacity → object ≡ cell_at at → is_taken before at ≡ false
    pub same : after ≡ before

  -- WHAT GIVING A CELL BACK DOES, by the answer
  abbrev pub Gives : (object : ℕ) → Bool → List Val → List Val → Type 0
  Gives object false before after = GivesNone object before after
  Gives object true before after = GivesCell object before after

  -- ---- what the calls open

  -- the marks of so many places from one on
  abbrev pub marks_from : (start count : ℕ) → List (Bool × ℕ)
  marks_from start count = held_from pool.cells.capacity (λ at. (false, mark_at at)) start count

  module _ {L : Type 0} (holds : L → List Val → Type 0) where
    -- the marks from a place on are read, up to the first one whose cell is not taken, or all
    abbrev pub OpensToSeek : (start : ℕ) → Option ℕ → Caller L → Caller L → Type 0
    OpensToSeek start None old new = OpensEach holds (marks_from start pool.cells.capacity) old new
    OpensToSeek start (Some at) old new =
        (passed : ℕ) × (passed < pool.cells.capacity) × (at ≡ behind pool.cells.capacity start passed)
        × OpensEach holds (marks_from start (passed + 1)) old new

    -- WHAT TAKING A CELL OPENS: those marks, and the cell that is taken and its mark
    abbrev pub OpensToTake : (start : ℕ) → Option (Cell T) → Caller L → Caller L → Type 0
    OpensToTake start None old new = OpensEach holds (marks_from start pool.cells.capacity) old new
    OpensToTake start (Some cell) old new =
        (passed : ℕ) × (passed < pool.cells.capacity)
        × (cell.object ≡ cell_at (behind pool.cells.capacity start passed))
        × OpensEach holds
        (marks_from start (passed + 1) ++ (true, mark_at (behind pool.cells.capacity start passed)) ∷ (true, cell.object) ∷ [])
        old new

    -- WHAT GIVING A CELL BACK OPENS: a mark, which is set where the cell was taken
    abbrev pub OpensToGive : Bool → Caller L → Caller L → Type 0
    OpensToGive false old new = (at : ℕ) × (at < pool.cells.capacity) × OpensEach holds ((false, mark_at at) ∷ []) old new
    OpensToGive true old new =
        (at : ℕ) × (at < pool.cells.capacity) × OpensEach holds ((false, mark_at at) ∷ (true, mark_at at) ∷ []) old new

  -- a pool of which nothing is taken has got the objects behind those before
  pub record Adds (before after : List Val) : Type 0 where
    pub cells : AddsCells pool.cells.first (2 * pool.cells.capacity) before after
    pub open cells use *
    pub free : (at : ℕ) → at < pool.cells.capacity → is_taken after at ≡ false
