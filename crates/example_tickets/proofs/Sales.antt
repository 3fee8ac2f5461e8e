-- One ticket more is sold, and none is lost.
use Rattle.std.proofs.Common.{◌≡◌, ℕ, ◌+◌, ◌-◌, ◌<◌, ◌≤◌, ◌^◌, List, [], ◌∷◌, ap, arith, refl, slice_set, sym}
use Rattle.dstm_model.specs.declared.value.Val.{Val}
use Rattle.dstm_model.specs.Map.{value_at}
use Rattle.example_tickets.specs.declared.sale.Desk.{Desk}
use Rattle.example_tickets.specs.declared.sale.Desk.TheVariants.{East, West}
use Rattle.example_tickets.specs.Tickets.{AddUp, SellsOne, place_of}

abbrev pub fewer : Val → Val
fewer count = record count { low = count.low - 1 }

abbrev pub more : Val → Val
more count = record count { low = count.low + 1 }

abbrev pub after_sale : Desk → List Val → (left sold : Val) → List Val
after_sale desk map left sold = slice_set (slice_set map 0 (fewer left)) (place_of desk) (more sold)

-- what a sale finds in a map: the tickets that are left, of which there is one, and those that the desk has sold
pub record Finds (all : ℕ) (desk : Desk) (map : List Val) (left sold : Val) : Type 0 where
  pub lawful : AddUp all map
  pub left_is : value_at map 0 ≡ left
  pub sold_is : value_at map (place_of desk) ≡ sold
  pub some : 1 ≤ left.low

-- the map after a sale
pub adds_up : (all : ℕ) (desk : Desk) (map : List Val) (left sold : Val) → Finds all desk map left sold →
    AddUp all (after_sale desk map left sold)
adds_up all East (x ∷ y ∷ z ∷ []) left sold f = record {
  objects = refl;
  within = f.lawful.within;
  sum = let q = ap (λ (v : Val). v.low) f.left_is in let r = ap (λ (v : Val). v.low) f.sold_is in
      let sum = f.lawful.sum in let some = f.some in omega arith;
}
adds_up all West (x ∷ y ∷ z ∷ []) left sold f = record {
  objects = refl;
  within = f.lawful.within;
  sum = let q = ap (λ (v : Val). v.low) f.left_is in let r = ap (λ (v : Val). v.low) f.sold_is in
      let sum = f.lawful.sum in let some = f.some in omega arith;
}
adds_up all desk map left sold f = let objects = f.lawful.objects in absurd (omega arith)

pub sells_one : (all : ℕ) (desk : Desk) (map : List Val) (left sold : Val) → Finds all desk map left sold →
    SellsOne desk map (after_sale desk map left sold)
sells_one all East (x ∷ y ∷ z ∷ []) left sold f = record {
  left = let q = ap (λ (v : Val). v.low) f.left_is in let some = f.some in omega arith;
  sold = ap (λ (v : Val). v.low + 1) (sym f.sold_is);
}
sells_one all West (x ∷ y ∷ z ∷ []) left sold f = record {
  left = let q = ap (λ (v : Val). v.low) f.left_is in let some = f.some in omega arith;
  sold = ap (λ (v : Val). v.low + 1) (sym f.sold_is);
}
sells_one all desk map left sold f = let objects = f.lawful.objects in absurd (omega arith)

-- one more ticket has room in the count of a desk
pub has_room : (all : ℕ) (desk : Desk) (map : List Val) (left sold : Val) → Finds all desk map left sold →
    sold.low + 1 < 2 ^ 64
has_room all East (x ∷ y ∷ z ∷ []) left sold f =
    let q = ap (λ (v : Val). v.low) f.left_is in let r = ap (λ (v : Val). v.low) f.sold_is in
    let sum = f.lawful.sum in let within = f.lawful.within in let some = f.some in omega arith
has_room all West (x ∷ y ∷ z ∷ []) left sold f =
    let q = ap (λ (v : Val). v.low) f.left_is in let r = ap (λ (v : Val). v.low) f.sold_is in
    let sum = f.lawful.sum in let within = f.lawful.within in let some = f.some in omega arith
has_room all desk map left sold f = let objects = f.lawful.objects in absurd (omega arith)
