-- One ticket more is sold, and none is lost.
use Rattle.std.proofs.Common.{◌≡◌, ℕ, zero, suc, ◌+◌, ◌-◌, ◌≤◌, ◌%◌, ◌^◌, ◌∙◌, List, [], ◌∷◌, ap, arith, refl, slice_set, subst, sym}
use Rattle.std.specs.Prelude.{true}
use Rattle.dstm_model.specs.declared.value.Val.{Val}
use Rattle.dstm_tables.specs.Callers.{law_of}
use Rattle.dstm_tables.specs.declared.tables.Caller.{Caller}
use Rattle.dstm_cells.specs.UnderWay.{Changes, Gets, IsUntouched, MayBegin, seen}
use Rattle.dstm_cells.proofs.Found.{found_at, lawful_at, put_at}
use Rattle.example_office.specs.declared.sale.NoneLost.{NoneLost}
use Rattle.example_office.specs.Tickets.{AddUp, AreCells, Sells, count_at}

abbrev pub holds : NoneLost → List Val → Type 0
holds law map = AddUp law.all map

abbrev pub count : Val → ℕ
count val = val.low

-- the values after a sale
sale : (all left desk : ℕ) (map : List Val) (less more : Val) → AddUp all map → AreCells left desk →
    1 ≤ count_at map left → less.low ≡ count_at map left - 1 → more.low ≡ (count_at map desk + 1) % 2 ^ 64 →
    let after = slice_set (slice_set map left less) desk more in AddUp all after × Sells desk true map after
sale all zero (suc zero) (x ∷ y ∷ z ∷ []) less more a cells some l m =
    let sum = a.sum in let room = a.within in (
      record { cells = refl; within = room; sum = omega arith },
      (omega arith, omega arith),
    )
sale all zero (suc (suc zero)) (x ∷ y ∷ z ∷ []) less more a cells some l m =
    let sum = a.sum in let room = a.within in (
      record { cells = refl; within = room; sum = omega arith },
      (omega arith, omega arith),
    )
sale all left desk map less more a cells some l m =
    let size = a.cells in let first = cells.0 in let low = cells.1 in let high = cells.2 in absurd (omega arith)

-- what the calls of a sale do, of each map at which the attempt may have begun
pub sold : (k m₁ m₂ m₃ n : Caller NoneLost) (left desk tickets had before after more : ℕ) → AreCells left desk →
    1 ≤ tickets → Gets holds count k m₁ left tickets → Gets holds count m₁ m₂ desk had →
    Changes holds count m₂ m₃ left before (tickets - 1) → Changes holds count m₃ n desk after more →
    more ≡ (had + 1) % 2 ^ 64 → IsUntouched k → (map : List Val) → MayBegin holds n map →
    AddUp (law_of n).all (seen n map) × Sells desk true map (seen n map)
sold k m₁ m₂ m₃ n left desk tickets had before after more cells some g₁ g₂ s₁ s₂ is untouched map may =
    let may₃ = s₂.exchanges.puts.narrows map may in
    let may₂ = s₁.exchanges.puts.narrows map may₃ in
    let may₁ = g₂.finds.narrows map may₂ in
    let (one, at₁, _) = found_at holds count k m₁ left map map tickets g₁ may₁ (untouched map) in
    let (two, at₂, _) = found_at holds count m₁ m₂ desk map map had g₂ may₂ at₁ in
    let (less, fewer, at₃) = (put_at holds count m₂ m₃ left map map before (tickets - 1) s₁ may₃ at₂).0 in
    let (greater, larger, at) = (put_at holds count m₃ n desk map (slice_set map left less) after more s₂ may at₃).0 in
    let (adds, sells) =
    sale (law_of n).all left desk map less greater (lawful_at holds n map may) cells (subst (λ t. 1 ≤ t) one some)
    (fewer ∙ ap (λ t. t - 1) one) (larger ∙ is ∙ ap (λ t. (t + 1) % 2 ^ 64) two) in
    (subst (AddUp (law_of n).all) (sym at) adds, subst (Sells desk true map) (sym at) sells)
