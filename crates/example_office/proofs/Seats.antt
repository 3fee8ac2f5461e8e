-- Each seat that was offered stands in one of two maps, whatever the threads do.
use Rattle.std.proofs.Common.{◌≡◌, ◌∙◌, inl, inr, ◌++◌, ℕ, ◌+◌, ◌<◌, ◌≤◌, List, [], ◌∷◌, ap, arith, cond, length, nat_lt, refl, subst, sym}
use Rattle.std.specs.Prelude.{None, Some}
use Rattle.dstm_model.specs.declared.value.Val.{Val}
use Rattle.dstm_model.specs.Map.{value_at}
use Rattle.dstm_cells.specs.Cells as cells
use Rattle.dstm_structures.specs.Laws.{AreApart, times}
use Rattle.dstm_structures.specs.Maps.{Adds, Makes, end_of, item_of}
use Rattle.dstm_structures.specs.declared.map.HashMap.{HashMap}
use Rattle.dstm_structures.proofs.Doing.{Reads, Writes}
use Rattle.dstm_structures.proofs.Laws.{added-length, added-stays, item-apart, item-behind, item-beside, only, times-made, times-moved, written-is}
use Rattle.example_office.specs.Hall.{AreBoth, AreMaps, EachOnce, number, stands}
use Rattle.example_office.specs.Tickets.{count_at}
use Rattle.example_office.specs.declared.hall.NoneTwice.{NoneTwice}

abbrev pub holds : NoneTwice → List Val → Type 0
holds law values = EachOnce values

pub room : (law : NoneTwice) (values : List Val) → EachOnce values → 513 ≤ length values
room law values kept = let cells = kept.cells in omega arith

in-both : (one other : HashMap ℕ) → AreBoth one other → (values : List Val) (seat : ℕ) →
    times (item_of number one values seat) + times (item_of number other values seat) ≡ stands values seat
in-both one other (inl are) values seat = rw (are.0, are.1, are.2, are.3) refl
in-both one other (inr are) values seat = rw (are.0, are.1, are.2, are.3) (omega arith)

-- the maps stand apart, behind the first cell
pub stand : (one other : HashMap ℕ) → AreBoth one other →
    AreApart one other × (0 < one.cells.first) × (0 < other.cells.first) × (end_of one ≤ 513) × (end_of other ≤ 513)
stand one other (inl are) = (inl (omega arith), omega arith, omega arith, omega arith, omega arith)
stand one other (inr are) = (inr (omega arith), omega arith, omega arith, omega arith, omega arith)

due-more : (seat next k : ℕ) → next ≡ seat + 1 → cond (nat_lt k next) 1 0 ≡ cond (nat_lt k seat) 1 0 + only seat k
due-more seat next k is = grind (arith, is)

due-none : (offered k : ℕ) → offered ≡ 0 → cond (nat_lt k offered) 1 0 ≤ 0
due-none offered k none = grind (arith, none)

-- a seat was taken out of one map and put into the other
pub passed : {one other : HashMap ℕ} {seat told had : ℕ} {before mid after : List Val} → AreBoth one other →
    Makes number one seat None (Some had) before mid → Makes number other seat (Some told) None mid after →
    length after ≡ length before → EachOnce before → EachOnce after
passed {one} {other} {before = before} {after = after} both out into size kept =
    let at = stand one other both in
    let offered = ap number (into.around 0 (inl at.2) ∙ out.around 0 (inl at.1)) in
    record {
      cells = size ∙ kept.cells;
      once = λ k.
          sym (in-both one other both after k) ∙ times-moved at.0 out into k ∙ in-both one other both before k
          ∙ kept.once k ∙ ap (λ (c : ℕ). cond (nat_lt k c) 1 0) (sym offered);
    }

-- one seat more was offered, and is free
pub offered : (free sold : HashMap ℕ) → AreMaps free sold → {seat price had : ℕ} {before mid near after : List Val} →
    Reads number 0 seat before mid → Makes number free seat (Some price) None mid near →
    Writes number 0 had (seat + 1) near after → length after ≡ length before → EachOnce before → EachOnce after
offered free sold are {seat} {price} {before = before} {near = near} {after = after} reads makes writes size kept =
    let at = stand free sold (inl are) in
    let made = subst (λ (x : List Val). Makes number free seat (Some price) None x near) reads.same makes in
    let cells = size ∙ kept.cells in
    let next = written-is (omega arith) writes in
    record {
      cells = cells;
      once = λ k.
          let come = times-made made k in
          let stays = ap times (item-beside number free (inl at.1) writes k) in
          let stood = ap times (item-beside number sold (inl at.2) writes k
          ∙ item-apart number sold (stand sold free (inr are)).0 made k) in
          let was = in-both free sold (inl are) before k in
          let is = in-both free sold (inl are) after k in
          let due : stands before k ≡ cond (nat_lt k seat) 1 0 =
          kept.once k ∙ ap (λ (c : ℕ). cond (nat_lt k c) 1 0) (sym reads.is) in
          let more = due-more seat (count_at after 0) k next in
          omega arith;
    }

-- no seat was offered yet, and both maps are empty
pub initially : {free sold : HashMap ℕ} {cell : ℕ} {none one two three : List Val} → free.cells.capacity ≡ 128 →
    sold.cells.capacity ≡ 128 → none ≡ [] → cells.Adds number none one cell 0 → Adds number free one two →
    Adds number sold two three → EachOnce three
initially {free} {sold} {one = one} {two} {three} many as_many empty first more rest =
    let alone : one ≡ first.kept ∷ [] = first.last ∙ ap (λ (xs : List Val). xs ++ (first.kept ∷ [])) empty in
    let long : length one ≡ 1 = ap (length {A = Val}) alone in
    let longer : length two ≡ 257 = omega (arith, added-length more) in
    let longest : length three ≡ 513 = omega (arith, added-length rest) in
    let are : AreMaps free sold = (more.first ∙ long, many, rest.first ∙ longer, as_many) in
    let zero = ap number (added-stays rest 0 (omega arith) ∙ added-stays more 0 (omega arith)
    ∙ ap (λ (xs : List Val). value_at xs 0) alone) ∙ first.is in
    record {
      cells = longest;
      once = λ k.
          let not_free = ap times (item-behind number free (omega arith) rest k ∙ more.empty k) in
          let not_sold = ap times (rest.empty k) in
          let is = in-both free sold (inl are) three k in
          let due = due-none (count_at three 0) k zero in
          omega arith;
    }
