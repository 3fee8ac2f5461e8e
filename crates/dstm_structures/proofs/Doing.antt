-- Calls on a transaction, one after the other, of each map at which the attempt may have begun.
use Rattle.std.proofs.Common.{◌≡◌, ◌∙◌, ℕ, ◌≤◌, List, ap, arith, length, slice_set, subst, sym}
use Rattle.dstm_model.specs.declared.value.Val.{Val}
use Rattle.dstm_model.specs.Map.{value_at}
use Rattle.dstm_tables.specs.declared.tables.Caller.{Caller}
use Rattle.dstm_attempts.specs.Attempts.{Keeps, objects_of}
use Rattle.dstm_cells.specs.UnderWay.{Changes, Gets, seen}
use Rattle.dstm_structures.specs.Effects.{Does}
use Rattle.dstm_structures.proofs.Effects.{room, same_objects}

-- a cell was found to hold this
pub record Reads {T : Type 0} (found : Val → T) (cell : ℕ) (value : T) (before after : List Val) : Type 0 where
  pub is : value ≡ found (value_at before cell)
  pub same : after ≡ before

-- a cell was found to hold the first value, and set to the second one
pub record Writes {T : Type 0} (found : Val → T) (cell : ℕ) (had value : T) (before after : List Val) : Type 0 where
  pub kept : Val
  pub is : found kept ≡ value
  pub was : had ≡ found (value_at before cell)
  pub after_is : after ≡ slice_set before cell kept

module _ {L : Type 0} {holds : L → List Val → Type 0} {size : ℕ} where
  pub does-read : {T : Type 0} {found : Val → T} {k n : Caller L} {cell : ℕ} {value : T} →
      Gets holds found k n cell value → Does holds size (Reads found cell value) k n
  does-read {found = found} {cell = cell} g = record {
    narrows = g.finds.narrows;
    does = λ there map may. record {
      is = g.is ∙ ap found (sym (g.finds.value map may) ∙ ap (λ (xs : List Val). value_at xs cell) (g.finds.same map));
      same = g.finds.same map;
    };
  }

  pub does-write : {T : Type 0} {found : Val → T} {k n : Caller L} {cell : ℕ} {had value : T} →
      Changes holds found k n cell had value → Does holds size (Writes found cell had value) k n
  does-write {found = found} c = record {
    narrows = c.exchanges.puts.narrows;
    does = λ there map may. record {
      kept = c.after;
      is = c.is;
      was = c.was ∙ ap found (sym (c.exchanges.value map may));
      after_is = c.exchanges.puts.puts map;
    };
  }

  -- no call was made
  pub does-still : {E : List Val → List Val → Type 0} {k : Caller L} → ((values : List Val) → E values values) →
      Does holds size E k k
  does-still {k = k} same = record { narrows = λ map may. may; does = λ there map may. same (seen k map) }

  -- what is done where there are fewer objects
  pub does-wider : {less : ℕ} {E : List Val → List Val → Type 0} {k n : Caller L} → less ≤ size →
      Does holds less E k n → Does holds size E k n
  does-wider most done = record {
    narrows = done.narrows;
    does = λ there map may. done.does (omega (arith, there, most)) map may;
  }

  -- one call after the other
  pub does-then : {E F G : List Val → List Val → Type 0} {k m n : Caller L} → Keeps k m → Does holds size E k m →
      Does holds size F m n →
      ((before mid after : List Val) → size ≤ length before → E before mid → F mid after → G before after) →
      Does holds size G k n
  does-then {k = k} {m = m} {n = n} keeps first second both = record {
    narrows = λ map may. first.narrows map (second.narrows map may);
    does = λ there map may.
        let may_m = second.narrows map may in
        both (seen k map) (seen m map) (seen n map) (room holds k map size there (first.narrows map may_m))
        (first.does there map may_m) (second.does (omega (arith, there, same_objects k m keeps)) map may);
  }

  pub does-thrice : {E F H G : List Val → List Val → Type 0} {k m l n : Caller L} → Keeps k m → Keeps m l →
      Does holds size E k m → Does holds size F m l → Does holds size H l n →
      ((before mid near after : List Val) → size ≤ length before → E before mid → F mid near → H near after →
      G before after) → Does holds size G k n
  does-thrice {k = k} {m = m} {l = l} {n = n} keeps keeps_on first second third all = record {
    narrows = λ map may. first.narrows map (second.narrows map (third.narrows map may));
    does = λ there map may.
        let may_l = third.narrows map may in
        let may_m = second.narrows map may_l in
        let there_m : size ≤ objects_of m = omega (arith, there, same_objects k m keeps) in
        all (seen k map) (seen m map) (seen l map) (seen n map) (room holds k map size there (first.narrows map may_m))
        (first.does there map may_m) (second.does there_m map may_l)
        (third.does (omega (arith, there_m, same_objects m l keeps_on)) map may);
  }

  -- what was done, in other words
  pub does-as : {E G : List Val → List Val → Type 0} {k n : Caller L} → Does holds size E k n →
      ((before after : List Val) → size ≤ length before → E before after → G before after) → Does holds size G k n
  does-as {k = k} {n = n} done same = record {
    narrows = done.narrows;
    does = λ there map may.
        same (seen k map) (seen n map) (room holds k map size there (done.narrows map may)) (done.does there map may);
  }

  -- what was done, by what was answered
  pub does-is : {A : Type 0} (E : A → List Val → List Val → Type 0) {a b : A} {k n : Caller L} → a ≡ b →
      Does holds size (E a) k n → Does holds size (E b) k n
  does-is E {k = k} {n = n} is done = subst (λ answer. Does holds size (E answer) k n) is done

  -- one call, and then a cell was looked up or set
  pub then-read : {T : Type 0} {E G : List Val → List Val → Type 0} {found : Val → T} {k m n : Caller L} {cell : ℕ}
      {value : T} → Keeps k m → Does holds size E k m → Gets holds found m n cell value →
      ((before mid after : List Val) → size ≤ length before → E before mid → Reads found cell value mid after →
      G before after) → Does holds size G k n
  then-read keeps first gets both = does-then keeps first (does-read gets) both

  pub then-write : {T : Type 0} {E G : List Val → List Val → Type 0} {found : Val → T} {k m n : Caller L} {cell : ℕ}
      {had value : T} → Keeps k m → Does holds size E k m → Changes holds found m n cell had value →
      ((before mid after : List Val) → size ≤ length before → E before mid → Writes found cell had value mid after →
      G before after) → Does holds size G k n
  then-write keeps first changes both = does-then keeps first (does-write changes) both
