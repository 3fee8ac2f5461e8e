-- What follows for a memory in which the cells of a structure were made.
use Rattle.std.proofs.Common.{◌≡◌, ◌++◌, ◌∙◌, ℕ, ◌+◌, ◌*◌, Err, List, Ok, ap, arith, inl, inr, length, refl, sym}
use Rattle.std.specs.Prelude.{None, Option, Result, Some, replicate}
use Rattle.std.proofs.lemmas.List.{get_or-append-add, get_or-replicate}
use Rattle.dstm_model.specs.Map.{no_value, value_at}
use Rattle.dstm_model.specs.declared.value.AnyLaw.{AnyLaw}
use Rattle.dstm_model.specs.declared.value.Val.{Val}
use Rattle.dstm_structures.proofs.Mapping as maps
use Rattle.dstm_structures.proofs.Placing as placing
use Rattle.dstm_structures.proofs.Pools as pools
use Rattle.dstm_structures.proofs.Queues as queues
use Rattle.dstm_structures.proofs.Sets as sets
use Rattle.dstm_structures.specs.Queues.{within, pair_of as ends_of}
use Rattle.dstm_handles.specs.Held.{OfMemory}
use Rattle.dstm_handles.specs.Memories.{MakesCells}
use Rattle.dstm_handles.specs.declared.code.Code.{Code}
use Rattle.dstm_handles.specs.declared.code.Code.TheVariants as code
use Rattle.dstm_handles.specs.declared.held.Held.{Held}
use Rattle.dstm_handles.specs.declared.held.Held.TheVariants as held
use Rattle.dstm_handles.specs.declared.memory.Memory.{Memory}
use Rattle.dstm_c.specs.Codes.{TellsValue}
use Rattle.dstm_c.specs.Maps.{AddsMap}
use Rattle.dstm_c.specs.Ordered as ordered
use Rattle.dstm_c.specs.Pools.{AddsPool}
use Rattle.dstm_c.specs.Queues.{AddsQueue}
use Rattle.dstm_c.specs.Sets.{AddsSet}
use Rattle.dstm_c.specs.Structures.{MakesNamed, MakesWithin, pair_of}

-- a cell that holds nothing
abbrev pub zero : Val
zero = record { low = 0; high = 0 }

-- the cells of a structure are behind those before, and hold nothing
abbrev pub Follows : (cells : ℕ) → (first : ℕ) → List Val → List Val → Type 0
Follows cells first before after = (first ≡ length before) × (after ≡ before ++ replicate cells zero)

module _ (holds : AnyLaw → List Val → Type 0) (cells : ℕ) (adds : ℕ → List Val → List Val → Type 0)
    (follows : (first : ℕ) (before after : List Val) → Follows cells first before after → adds first before after) where
  makes_within : (old new : Memory) (answer : Result ℕ Code) → MakesCells holds zero cells old new answer →
      MakesWithin holds cells adds old new answer
  makes_within old new (Ok first) made = record {
    made = record {
      before = made.made.before;
      settled = made.made.settled;
      added = follows first made.made.before new.values.items (made.made.number, made.made.last);
    };
    full = made.full;
    why = tt;
    home = made.home;
    kept = tt;
    terms = made.terms;
  }
  makes_within old new (Err why) made = record {
    made = tt;
    full = made.full;
    why = made.why;
    home = tt;
    kept = made.kept;
    terms = made.terms;
  }

  of_memory : (answer : Result ℕ Code) (h n : Option Held) →
      OfMemory (λ old new. MakesCells holds zero cells old new answer) (answer ≡ Err code.Closed) h n →
      OfMemory (λ old new. MakesWithin holds cells adds old new answer) (answer ≡ Err code.Closed) h n
  of_memory answer (Some (held.Memory m)) (Some (held.Memory n)) went = makes_within m n answer went
  of_memory answer (Some (held.Thread t)) (Some (held.Thread n)) went = went
  of_memory answer None None went = went
  of_memory answer (Some (held.Memory m)) (Some (held.Thread n)) went = absurd went
  of_memory answer (Some (held.Thread t)) (Some (held.Memory n)) went = absurd went
  of_memory answer (Some h) None went = absurd went
  of_memory answer None (Some h) went = absurd went

  -- a structure was made
  pub makes_named : (none : Type 0) (number p q : ℕ) (h n : Option Held) →
      TellsValue number p q (λ answer. OfMemory (λ old new. MakesCells holds zero cells old new answer)
      (answer ≡ Err code.Closed) h n) → TellsValue number p q (MakesNamed holds none cells adds h n)
  makes_named none number p q h n told = record {
    answer = told.answer;
    is = told.is;
    put = told.put;
    still = told.still;
    tells = inr (of_memory told.answer h n told.tells);
  }

-- no structure can have so much room
pub makes_none : (holds : AnyLaw → List Val → Type 0) (none : Type 0) (cells : ℕ) (adds : ℕ → List Val → List Val → Type 0)
    (number p : ℕ) (h : Option Held) → none → number ≡ 11 → TellsValue number p p (MakesNamed holds none cells adds h h)
makes_none holds none cells adds number p h has_none told = record {
  answer = Err code.Range;
  is = told;
  put = tt;
  still = refl;
  tells = inl (record { none = has_none; is = refl; same = refl });
}

-- ---- each structure is empty

pub adds_map : (capacity first : ℕ) (before after : List Val) → Follows (2 * capacity) first before after →
    AddsMap capacity first before after
adds_map capacity first before after made map is =
    maps.makes pair_of map (2 * capacity) zero before after made.1 refl (is.0 ∙ made.0) (ap (λ (n : ℕ). 2 * n) (sym is.1))
    map.cells.some

pub adds_ordered : (capacity first : ℕ) (before after : List Val) → Follows (3 * capacity + 1) first before after →
    ordered.AddsMap capacity first before after
adds_ordered capacity first before after made map is =
    placing.makes pair_of map (3 * capacity + 1) zero before after made.1 refl refl (is.0 ∙ made.0)
    (ap (λ (n : ℕ). 3 * n + 1) (sym is.1))

pub adds_set : (capacity first : ℕ) (before after : List Val) → Follows (3 * capacity + 1) first before after →
    AddsSet capacity first before after
adds_set capacity first before after made set is =
    sets.adds set before after (placing.makes _ set.map (3 * capacity + 1) zero before after made.1 refl refl (is.0 ∙ made.0)
    (ap (λ (n : ℕ). 3 * n + 1) (sym is.1)))

pub adds_pool : (cells first : ℕ) (before after : List Val) → Follows (2 * cells) first before after →
    AddsPool cells first before after
adds_pool cells first before after made pool is =
    pools.makes pool (2 * cells) zero before after made.1 refl (is.0 ∙ made.0) (ap (λ (n : ℕ). 2 * n) (sym is.1))

-- where nothing stands in its first cell, a queue has no value
none_within : (n : ℕ) → (within n (0, 0)).1 ≡ 0
none_within n = grind arith

pub adds_queue : (capacity first : ℕ) (before after : List Val) → Follows (capacity + 1) first before after →
    AddsQueue capacity first before after
adds_queue capacity first before after made queue is = record {
  cells = maps.made-cells (capacity + 1) zero made.1 (is.0 ∙ made.0) (ap (λ (n : ℕ). n + 1) (sym is.1));
  empty = queues.items-none pair_of queue.cells.first queue.cells.capacity after
      (ap (λ (val : Val). (within queue.cells.capacity (ends_of val)).1) there ∙ none_within queue.cells.capacity);
}
  where
    at : queue.cells.first ≡ length before + 0
    at = omega (arith, is.0, made.0)

    there : value_at after queue.cells.first ≡ zero
    there =
        ap (λ (xs : List Val). value_at xs queue.cells.first) made.1
        ∙ ap (value_at (before ++ replicate (capacity + 1) zero)) at
        ∙ get_or-append-add before (replicate (capacity + 1) zero) 0 no_value
        ∙ get_or-replicate (capacity + 1) 0 zero no_value (omega arith)
