-- What a program proves of a law over maps and cells: that what is left is lawful, by what the calls have done; and that a map
-- has what it had where its cells are as they were.
use Rattle.std.proofs.Common.{◌≡◌, ◌∙◌, ◌⊎◌, inl, inr, ◌==◌, ℕ, ◌+◌, ◌*◌, ◌<◌, ◌≤◌, false, true, List, ap, arith, cond, get_or-set_other, get_or-set_same, length, length-append, length-set, nat_lt, refl, subst, sym}
use Rattle.std.proofs.lemmas.Bool.{cases_eq}
use Rattle.std.proofs.lemmas.List.{get_or_append_left}
use Rattle.std.specs.Prelude.{Option, None, Some, is_some}
use Rattle.dstm_model.specs.declared.value.Val.{Val}
use Rattle.dstm_model.specs.Map.{no_value, value_at}
use Rattle.dstm_mem.proofs.WithSet.{length-with_set}
use Rattle.dstm_tables.specs.Callers.{law_of}
use Rattle.dstm_tables.specs.declared.tables.Caller.{Caller}
use Rattle.dstm_attempts.specs.Attempts.{written}
use Rattle.dstm_cells.specs.UnderWay.{Changes, Gets, IsUntouched, Keeps, LeavesLawful, seen}
use Rattle.dstm_cells.proofs.Found.{lawful_at}
use Rattle.dstm_structures.specs.Effects.{Does}
use Rattle.dstm_structures.specs.Laws.{AreApart, times}
use Rattle.dstm_structures.specs.Maps.{Adds, HasNoRoom, Makes, WastesNone, end_of, item_of, key_at, key_of, place_in, reach_of}
use Rattle.dstm_structures.specs.Places.{is_key}
use Rattle.dstm_structures.specs.declared.map.HashMap.{HashMap}
use Rattle.dstm_structures.proofs.Doing.{Reads, Writes, does-read, does-then, does-thrice, does-wider, does-write}
use Rattle.dstm_structures.proofs.Effects.{may_length}
use Rattle.dstm_structures.proofs.Maps.{item-same, place-holds, place-kept}
use Rattle.dstm_structures.proofs.Places.{none_not}

-- ---- what is left is lawful

module _ {L : Type 0} (holds : L → List Val → Type 0) (size : ℕ)
    (room : (law : L) (values : List Val) → holds law values → size ≤ length values) where
  -- what was done leaves lawful values, where they were lawful
  abbrev pub KeepsLaw : (law : L) → List Val → List Val → Type 0
  KeepsLaw law before after = length after ≡ length before → holds law before → holds law after

  -- WHAT IS LEFT IS LAWFUL, where an attempt that had set nothing has done what keeps the law
  pub lawful-by : {E : List Val → List Val → Type 0} {k n : Caller L} → Does holds size E k n → IsUntouched k →
      ((law : L) (before after : List Val) → E before after → KeepsLaw law before after) → LeavesLawful holds n
  lawful-by {E} {k} {n} done untouched keeps map may =
      let lawful = lawful_at holds n map may in
      let there = may_length holds k map (done.narrows map may) in
      let objects = room (law_of n) map lawful in
      keeps (law_of n) map (seen n map)
      (subst (λ (before : List Val). E before (seen n map)) (untouched map)
      (done.does (omega (arith, there, objects)) map may))
      (length-with_set map (written n)) lawful

  -- by one call
  pub lawful-once : {E : List Val → List Val → Type 0} {k n : Caller L} {first : ℕ} → first ≤ size → Does holds first E k n →
      IsUntouched k → ((law : L) (before after : List Val) → E before after → KeepsLaw law before after) →
      LeavesLawful holds n
  lawful-once few done untouched keeps = lawful-by (does-wider few done) untouched keeps

  -- by one call and then another
  pub lawful-twice : {E F : List Val → List Val → Type 0} {k m n : Caller L} {first second : ℕ} → first ≤ size → second ≤ size →
      Keeps k m → Does holds first E k m → Does holds second F m n → IsUntouched k →
      ((law : L) (before mid after : List Val) → E before mid → F mid after → KeepsLaw law before after) →
      LeavesLawful holds n
  lawful-twice few fewer same one two untouched keeps =
      lawful-by
      (does-then {G = λ before after. (law : L) → KeepsLaw law before after} same (does-wider few one)
      (does-wider fewer two) (λ before mid after within e f law. keeps law before mid after e f))
      untouched
      (λ law before after does. does law)

  -- by three calls
  pub lawful-thrice : {E F H : List Val → List Val → Type 0} {k m l n : Caller L} {first second third : ℕ} → first ≤ size →
      second ≤ size → third ≤ size → Keeps k m → Keeps m l → Does holds first E k m → Does holds second F m l →
      Does holds third H l n → IsUntouched k →
      ((law : L) (before mid near after : List Val) → E before mid → F mid near → H near after →
      KeepsLaw law before after) → LeavesLawful holds n
  lawful-thrice few fewer fewest same same_on one two three untouched keeps =
      lawful-by
      (does-thrice {G = λ before after. (law : L) → KeepsLaw law before after} same same_on (does-wider few one)
      (does-wider fewer two) (does-wider fewest three)
      (λ before mid near after within e f h law. keeps law before mid near after e f h))
      untouched
      (λ law before after does. does law)

-- a cell was looked up
pub did-read : {L T : Type 0} {holds : L → List Val → Type 0} {found : Val → T} {k n : Caller L} {cell : ℕ} {value : T} →
    (size : ℕ) → Gets holds found k n cell value → Does holds size (Reads found cell value) k n
did-read size gets = does-read gets

-- a cell was set
pub did-write : {L T : Type 0} {holds : L → List Val → Type 0} {found : Val → T} {k n : Caller L} {cell : ℕ} {had value : T} →
    (size : ℕ) → Changes holds found k n cell had value → Does holds size (Writes found cell had value) k n
did-write size changes = does-write changes

-- ---- what a cell holds

-- it holds what it was set to
pub written-is : {T : Type 0} {found : Val → T} {cell : ℕ} {had value : T} {before after : List Val} → cell < length after →
    Writes found cell had value before after → found (value_at after cell) ≡ value
written-is {found = found} {cell = cell} {before = before} within writes =
    let long = ap (length {A = Val}) writes.after_is ∙ length-set before cell writes.kept in
    ap (λ (xs : List Val). found (value_at xs cell)) writes.after_is
    ∙ ap found (get_or-set_same before cell writes.kept no_value (omega arith)) ∙ writes.is

module _ {V : Type 0} {found : Val → V} {map : HashMap V} {before after : List Val} (adds : Adds found map before after) where
  -- it holds what it held, where a map was made behind it
  pub added-stays : (cell : ℕ) → cell < length before → value_at after cell ≡ value_at before cell
  added-stays cell within =
      ap (λ (xs : List Val). value_at xs cell) adds.behind ∙ get_or_append_left before adds.added no_value cell within

  -- and so many cells are there
  pub added-length : length after ≡ length before + 2 * map.cells.capacity
  added-length =
      ap (length {A = Val}) adds.behind ∙ length-append before adds.added ∙ ap (λ (x : ℕ). length before + x) adds.count

-- ---- what a map has room for

module _ {V : Type 0} {found : Val → V} {map : HashMap V} where
  -- a new map wastes no place
  pub added-wastes-none : {before after : List Val} → Adds found map before after → WastesNone map after
  added-wastes-none adds at key here held = absurd (none_not key (sym (adds.free at here) ∙ held))

  -- A MAP THAT WASTES NO PLACE has no room only where each place is one at which a key is found
  pub full-of-keys : {key : ℕ} {before after : List Val} → HasNoRoom found map key before after → WastesNone map before →
      (at : ℕ) → at < map.cells.capacity →
      (held : ℕ) × (place_in map.cells.first map.cells.capacity before held ≡ Some at)
  full-of-keys {before = before} none wastes at here = by (key_at map before at) refl
    where
      never : false ≡ true → ⊥
      never e = cc

      by : (o : Option ℕ) → key_at map before at ≡ o →
          (held : ℕ) × (place_in map.cells.first map.cells.capacity before held ≡ Some at)
      by None is = absurd (never (sym (ap is_some is) ∙ none.full at here))
      by (Some held) is = (held, wastes at held here is)

-- ---- what a map has

module _ {V : Type 0} (found : Val → V) (map : HashMap V) where
  abbrev f : ℕ
  f = map.cells.first

  abbrev n : ℕ
  n = map.cells.capacity

  -- A MAP HAS FOR EACH KEY WHAT IT HAD, where its cells hold what they held
  pub item-stays : (before after : List Val) →
      ((o : ℕ) → f ≤ o → o < end_of map → value_at after o ≡ value_at before o) →
      (key : ℕ) → item_of found map after key ≡ item_of found map before key
  item-stays before after same key =
      item-same found f n map.cells.some before after key
      (place-kept found f n map.cells.some before after key
      (λ q below. ap (λ (v : Val). is_key key (key_of v)) (same (f + 2 * q) (omega arith) (omega (arith, below))))
      (λ h below. ap (λ (v : Val). cond (nat_lt (reach_of v) n) (reach_of v) n)
      (same (f + 2 * h) (omega arith) (omega (arith, below)))))
      (λ q at.
      let here = (place-holds f n map.cells.some before key q at).1 in
      ap found (same (f + 2 * q + 1) (omega arith) (omega (arith, here))))

  -- where a key was put into another map, or taken out
  pub item-apart : {W : Type 0} {told : Val → W} {other : HashMap W} {k : ℕ} {now had : Option W} {before after : List Val} →
      AreApart map other → Makes told other k now had before after →
      (key : ℕ) → item_of found map after key ≡ item_of found map before key
  item-apart {before = before} {after = after} (inl low) makes key =
      item-stays before after (λ o from until. makes.around o (inl (omega (arith, low, until)))) key
  item-apart {before = before} {after = after} (inr high) makes key =
      item-stays before after (λ o from until. makes.around o (inr (omega (arith, high, from)))) key

  -- where a cell was set that is none of its own
  pub item-beside : {T : Type 0} {told : Val → T} {cell : ℕ} {had value : T} {before after : List Val} →
      (cell < f) ⊎ (end_of map ≤ cell) → Writes told cell had value before after →
      (key : ℕ) → item_of found map after key ≡ item_of found map before key
  item-beside {cell = cell} {before = before} {after = after} outside writes key =
      item-stays before after
      (λ o from until.
      ap (λ (xs : List Val). value_at xs o) writes.after_is
      ∙ get_or-set_other before cell o writes.kept no_value (λ e. out o from until e outside))
      key
    where
      out : (o : ℕ) → f ≤ o → o < end_of map → o ≡ cell → (cell < f) ⊎ (end_of map ≤ cell) → ⊥
      out o from until is (inl low) = omega (arith, from, is, low)
      out o from until is (inr high) = omega (arith, until, is, high)

  -- where another map was made behind it
  pub item-behind : {W : Type 0} {told : Val → W} {other : HashMap W} {before after : List Val} → end_of map ≤ length before →
      Adds told other before after → (key : ℕ) → item_of found map after key ≡ item_of found map before key
  item-behind {before = before} {after = after} within adds key =
      item-stays before after (λ o from until. added-stays adds o (omega (arith, within, until))) key

-- ---- how often maps have a key

-- 1 for this key, and 0 for each other one
abbrev pub only : (key k : ℕ) → ℕ
only key k = cond (k == key) 1 0

-- HOW OFTEN A MAP HAS EACH KEY, once one was put or taken out
pub times-made : {V : Type 0} {found : Val → V} {map : HashMap V} {key : ℕ} {now had : Option V} {before after : List Val} →
    Makes found map key now had before after → (k : ℕ) →
    times (item_of found map after k) + only key k * times had ≡ times (item_of found map before k) + only key k * times now
times-made {found = found} {map = map} {key = key} {now = now} {had = had} {before = before} {after = after} made k =
    by (cases_eq k key)
  where
    by : (k ≡ key) ⊎ (k ≡ key → ⊥) → times (item_of found map after k) + only key k * times had
        ≡ times (item_of found map before k) + only key k * times now
    by (inl is) =
        let was : times (item_of found map before k) ≡ times had =
        ap (λ (x : ℕ). times (item_of found map before x)) is ∙ ap times made.was in
        let come : times (item_of found map after k) ≡ times now =
        ap (λ (x : ℕ). times (item_of found map after x)) is ∙ ap times made.is in
        let one : only key k ≡ 1 = grind (arith, is) in
        rw (was, come, one) (omega arith)
    by (inr not) =
        let same : times (item_of found map after k) ≡ times (item_of found map before k) = ap times (made.others k not) in
        let none : only key k ≡ 0 = grind (arith, not) in
        rw (same, none) (omega arith)

-- EACH KEY STANDS IN AS MANY OF TWO MAPS AS BEFORE, once one was taken out of the first and put into the second
pub times-moved : {V W : Type 0} {found : Val → V} {told : Val → W} {one : HashMap V} {other : HashMap W} {key : ℕ} {had : V}
    {now : W} {before mid after : List Val} → AreApart one other → Makes found one key None (Some had) before mid →
    Makes told other key (Some now) None mid after → (k : ℕ) →
    times (item_of found one after k) + times (item_of told other after k)
    ≡ times (item_of found one before k) + times (item_of told other before k)
times-moved {found = found} {told = told} {one = one} {other = other} apart out into k =
    let gone = times-made out k in
    let come = times-made into k in
    let stays = ap times (item-apart found one apart into k) in
    let stood = ap times (item-apart told other (swapped apart) out k) in
    omega arith
  where
    swapped : AreApart one other → AreApart other one
    swapped (inl low) = inr low
    swapped (inr high) = inl high
