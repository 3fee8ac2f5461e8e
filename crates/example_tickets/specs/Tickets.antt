-- A ticket office with two desks: object 0 counts the tickets that are left, and one object for each desk those that it
-- has sold.
use Rattle.std.specs.Prelude.{◌≡◌, ℕ, ◌+◌, ◌<◌, ◌^◌, Bool, true, false, List, length}
use Rattle.dstm_model.specs.declared.value.Val.{Val}
use Rattle.dstm_model.specs.Map.{value_at}
use Rattle.example_tickets.specs.declared.sale.Desk.{Desk}
use Rattle.example_tickets.specs.declared.sale.Desk.TheVariants.{East, West}

abbrev pub count_at : List Val → ℕ → ℕ
count_at map o = (value_at map o).low

abbrev pub place_of : Desk → ℕ
place_of East = 1
place_of West = 2

-- none is lost, and none is sold twice
pub record AddUp (all : ℕ) (map : List Val) : Type 0 where
  pub objects : length map ≡ 3
  pub within : all < 2 ^ 64
  pub sum : count_at map 0 + count_at map 1 + count_at map 2 ≡ all

-- one ticket less is left, and the desk has sold one more
pub record SellsOne (desk : Desk) (before after : List Val) : Type 0 where
  pub left : count_at after 0 + 1 ≡ count_at before 0
  pub sold : count_at after (place_of desk) ≡ count_at before (place_of desk) + 1

-- nothing changes, and no ticket was left
pub record SellsNone (before after : List Val) : Type 0 where
  pub left : count_at before 0 ≡ 0
  pub same : after ≡ before

abbrev pub Sells : Desk → Bool → List Val → List Val → Type 0
Sells desk true before after = SellsOne desk before after
Sells desk false before after = SellsNone before after
