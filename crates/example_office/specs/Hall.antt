-- A hall whose seats have numbers: the first cell tells how many of them were offered, and behind it stand two maps of 128
-- places, of the seats that are free and of those that are sold.
use Rattle.std.specs.Prelude.{◌≡◌, ◌⊎◌, ℕ, ◌+◌, if◌then◌else◌, nat_lt, List, length}
use Rattle.dstm_model.specs.declared.value.Val.{Val}
use Rattle.dstm_structures.specs.Laws.{times}
use Rattle.dstm_structures.specs.Maps.{item_in}
use Rattle.dstm_structures.specs.declared.map.HashMap.{HashMap}
use Rattle.example_office.specs.Tickets.{count_at}

abbrev pub number : Val → ℕ
number val = val.low

-- in how many of the two maps a seat stands
abbrev pub stands : List Val → ℕ → ℕ
stands values seat = times (item_in number 1 128 values seat) + times (item_in number 257 128 values seat)

-- EACH SEAT THAT WAS OFFERED IS FREE OR SOLD, and not both, and no other seat is either
pub record EachOnce (values : List Val) : Type 0 where
  pub cells : length values ≡ 513
  pub once : (seat : ℕ) → stands values seat ≡ (if nat_lt seat (count_at values 0) then 1 else 0)

-- the maps of the seats that are free and of those that are sold
abbrev pub AreMaps : (free sold : HashMap ℕ) → Type 0
AreMaps free sold =
    (free.cells.first ≡ 1) × (free.cells.capacity ≡ 128) × (sold.cells.first ≡ 257) × (sold.cells.capacity ≡ 128)

-- the same two, in either order
abbrev pub AreBoth : (one other : HashMap ℕ) → Type 0
AreBoth one other = AreMaps one other ⊎ AreMaps other one
