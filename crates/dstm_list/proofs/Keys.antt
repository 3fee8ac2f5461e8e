-- The keys of cells: what a look-up finds past lesser and before greater ones, what an insertion and a
-- removal make of them, and their rising order.
use Rattle.std.proofs.Common.{◌≡◌, ℕ, zero, suc, ◌+◌, ◌<◌, ◌≤◌, List, [], ◌∷◌, ◌++◌, true, false, arith, refl, sym, ap}
use Rattle.std.proofs.Common.{subst}
use Rattle.std.specs.Prelude.{slice_index}
use Rattle.std.specs.List.Sorted.{IsStrictlyIncreasing}
use Rattle.std.proofs.lemmas.Bool.{le-ltb, lt-ltb, ne_eqb, eq-eqb}
use Rattle.dstm_model.specs.Store.{has_key, with_key, without_key}
use Rattle.dstm_list.specs.List.{Cell, keys_of}
use Rattle.dstm_list.specs.Place.{AllLess, AllGreater, key_after}

-- ---- look-ups, insertions and removals

pub has_key-behind : (key : ℕ) (behind ahead : List Cell) → AllLess key behind →
    has_key key (keys_of (behind ++ ahead)) ≡ has_key key (keys_of ahead)
has_key-behind key [] ahead less = refl
has_key-behind key (c ∷ cs) ahead less =
    rw (le-ltb key c.key (omega (arith, less.0)), ne_eqb key c.key (λ e. omega (arith, e, less.0)))
    (has_key-behind key cs ahead less.1)

pub has_key-greater : (key : ℕ) (cells : List Cell) → AllGreater key cells → has_key key (keys_of cells) ≡ false
has_key-greater key [] greater = refl
has_key-greater key (c ∷ cs) greater = rw (lt-ltb key c.key greater.0) (has_key-greater key cs greater.1)

pub has_key-first : (key : ℕ) (c : Cell) (cs : List Cell) → c.key ≡ key → has_key key (keys_of (c ∷ cs)) ≡ true
has_key-first key c cs same =
    rw (le-ltb key c.key (omega (arith, same)), eq-eqb key c.key (sym same)) refl

-- a key goes between the lesser and the greater ones
pub with_key-between : (c : Cell) (behind ahead : List Cell) → AllLess c.key behind → AllGreater c.key ahead →
    with_key c.key (keys_of (behind ++ ahead)) ≡ keys_of (behind ++ c ∷ ahead)
with_key-between c [] [] less greater = refl
with_key-between c [] (d ∷ ds) less greater = rw (lt-ltb c.key d.key greater.0) refl
with_key-between c (d ∷ ds) ahead less greater =
    rw (le-ltb c.key d.key (omega (arith, less.0)), ne_eqb c.key d.key (λ e. omega (arith, e, less.0)))
    (ap (λ ks. d.key ∷ ks) (with_key-between c ds ahead less.1 greater))

pub without_key-first : (c : Cell) (behind ahead : List Cell) → AllLess c.key behind →
    without_key c.key (keys_of (behind ++ c ∷ ahead)) ≡ keys_of (behind ++ ahead)
without_key-first c [] ahead less = rw (le-ltb c.key c.key (omega arith), eq-eqb c.key c.key refl) refl
without_key-first c (d ∷ ds) ahead less =
    rw (le-ltb c.key d.key (omega (arith, less.0)), ne_eqb c.key d.key (λ e. omega (arith, e, less.0)))
    (ap (λ ks. d.key ∷ ks) (without_key-first c ds ahead less.1))

pub without_key-absent : (key : ℕ) (behind ahead : List Cell) → AllLess key behind → AllGreater key ahead →
    without_key key (keys_of (behind ++ ahead)) ≡ keys_of (behind ++ ahead)
without_key-absent key [] [] less greater = refl
without_key-absent key [] (d ∷ ds) less greater =
    rw (lt-ltb key d.key greater.0) (ap (λ ks. d.key ∷ ks) (without_key-absent key [] ds less greater.1))
without_key-absent key (d ∷ ds) ahead less greater =
    rw (le-ltb key d.key (omega (arith, less.0)), ne_eqb key d.key (λ e. omega (arith, e, less.0)))
    (ap (λ ks. d.key ∷ ks) (without_key-absent key ds ahead less.1 greater))

-- ---- rising keys

-- the keys rise, from `least` on
abbrev pub Rise : ℕ → List Cell → Type 0
Rise least [] = Unit {0}
Rise least (c ∷ cs) = (least ≤ c.key) × Rise (c.key + 1) cs

tail_increasing : (k : ℕ) (ks : List ℕ) → IsStrictlyIncreasing (k ∷ ks) → IsStrictlyIncreasing ks
tail_increasing k ks rising i below =
    let e : suc i + 1 ≡ suc (i + 1) = omega arith in
    let step : slice_index (k ∷ ks) (suc i) < slice_index (k ∷ ks) (suc i + 1) =
    rising (suc i) (omega (arith, below)) in
    subst (λ j. slice_index ks i < slice_index (k ∷ ks) j) e step

rise_from : (least : ℕ) (c : Cell) (cs : List Cell) → least ≤ c.key → IsStrictlyIncreasing (keys_of (c ∷ cs)) →
    Rise least (c ∷ cs)
rise_from least c [] low rising = (low, tt)
rise_from least c (d ∷ ds) low rising =
    let next : c.key < d.key = rising 0 (omega arith) in
    (low, rise_from (c.key + 1) d ds (omega (arith, next)) (tail_increasing c.key (keys_of (d ∷ ds)) rising))

pub Rise-of_increasing : (cells : List Cell) → IsStrictlyIncreasing (keys_of cells) → Rise 0 cells
Rise-of_increasing [] rising = tt
Rise-of_increasing (c ∷ cs) rising = rise_from 0 c cs (omega arith) rising

pub increasing-of_Rise : (least : ℕ) (cells : List Cell) → Rise least cells →
    IsStrictlyIncreasing (keys_of cells)
increasing-of_Rise least [] rise i below = absurd (omega (arith, below))
increasing-of_Rise least (c ∷ []) rise i below = absurd (omega (arith, below))
increasing-of_Rise least (c ∷ (d ∷ ds)) rise zero below =
    let next : c.key < d.key = omega (arith, rise.1.0) in next
increasing-of_Rise least (c ∷ (d ∷ ds)) rise (suc i) below =
    let e : suc (i + 1) ≡ suc i + 1 = omega arith in
    let step = increasing-of_Rise (c.key + 1) (d ∷ ds) rise.1 i (omega (arith, below)) in
    subst (λ j. slice_index (keys_of (d ∷ ds)) i < slice_index (keys_of (c ∷ (d ∷ ds))) j) e step

-- what follows a cell has greater keys
pub Rise-after : (least : ℕ) (behind : List Cell) (c : Cell) (cs : List Cell) →
    Rise least (behind ++ c ∷ cs) → Rise (c.key + 1) cs
Rise-after least [] c cs rise = rise.1
Rise-after least (d ∷ ds) c cs rise = Rise-after (d.key + 1) ds c cs rise.1

pub AllGreater-of_Rise : (key least : ℕ) (cells : List Cell) → key < least → Rise least cells →
    AllGreater key cells
AllGreater-of_Rise key least [] low rise = tt
AllGreater-of_Rise key least (c ∷ cs) low rise =
    (omega (arith, low, rise.0), AllGreater-of_Rise key (c.key + 1) cs (omega (arith, low, rise.0)) rise.1)

pub Rise-next : (least : ℕ) (d : Cell) (ds : List Cell) (c : Cell) (cs : List Cell) →
    Rise least ((d ∷ ds) ++ c ∷ cs) → key_after d.key ds < c.key
Rise-next least d [] c cs rise = omega (arith, rise.1.0)
Rise-next least d (e ∷ es) c cs rise = Rise-next (d.key + 1) e es c cs rise.1

from_greater : (key least : ℕ) (cells : List Cell) → AllGreater key cells → Rise least cells →
    Rise (key + 1) cells
from_greater key least [] greater rise = tt
from_greater key least (c ∷ cs) greater rise = (omega (arith, greater.0), rise.1)

pub Rise-insert : (least : ℕ) (c : Cell) (behind ahead : List Cell) → least ≤ c.key → AllLess c.key behind →
    AllGreater c.key ahead → Rise least (behind ++ ahead) → Rise least (behind ++ c ∷ ahead)
Rise-insert least c [] ahead low less greater rise = (low, from_greater c.key least ahead greater rise)
Rise-insert least c (d ∷ ds) ahead low less greater rise =
    (rise.0, Rise-insert (d.key + 1) c ds ahead (omega (arith, less.0)) less.1 greater rise.1)

from_lower : (low least : ℕ) (cells : List Cell) → low ≤ least → Rise least cells → Rise low cells
from_lower low least [] h rise = tt
from_lower low least (c ∷ cs) h rise = (omega (arith, h, rise.0), rise.1)

pub Rise-remove : (least : ℕ) (c : Cell) (behind ahead : List Cell) →
    Rise least (behind ++ c ∷ ahead) → Rise least (behind ++ ahead)
Rise-remove least c [] ahead rise = from_lower least (c.key + 1) ahead (omega (arith, rise.0)) rise.1
Rise-remove least c (d ∷ ds) ahead rise = (rise.0, Rise-remove (d.key + 1) c ds ahead rise.1)
