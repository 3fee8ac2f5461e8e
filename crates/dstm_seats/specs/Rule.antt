-- The rule of a table of words: a fact about the words and about what all seats know, kept by every step.
use Rattle.std.specs.Prelude.{◌≡◌, ℕ, ◌+◌, ◌<◌, ◌≤◌, true, false, List, [], length, Some, None, All, slice_index, Contains, sum_by}
use lib.ListN.{get_elem?}
use mathlib.Core.Option.{some}
use Rattle.atomic_table.specs.Table.{State}
use Rattle.dstm_machines.specs.declared.event.Event.{Event}
use Rattle.dstm_machines.specs.Machines.{held, local}
use Rattle.dstm_machines.specs.Sharing.{Shared}
use Rattle.dstm_machines.specs.Traces.{IsPastOf, events_of}
use Rattle.dstm_seats.specs.declared.view.View.{View}
use Rattle.dstm_seats.specs.Seats.{AreApart, GoesOn, enrolled}

module _ {K T B S : Type 0} (shared : Shared K T B S) (key : T) where
  -- what holds of the view of the seat that has this place among the seats
  pub record Sees (log : List (Event K)) (id : ℕ) (v : View K T) : Type 0 where
    -- what it has seen is a past of the log, which has no more events of its numbers
    pub past : IsPastOf v.log log
    pub olds : All (GoesOn log v.numbers) v.olds
    pub mine : (n : ℕ) → Contains v.numbers n → events_of n log ≡ events_of n v.log
    -- its numbers are different ones, whose callers have enrolled
    pub known : (n : ℕ) → Contains v.numbers n → n < enrolled shared key log
    pub unlike : AreApart v.numbers
    pub begun : (n : ℕ) → Contains v.numbers n →
        shared.number (local shared.machine (shared.table key) v.log n) ≡ Some n
    pub number : (n : ℕ) → v.number ≡ Some n → Contains v.numbers n
    -- only the first seat counts seats that are out, and a seat that is not out and not the first is spent
    pub first : v.first ≡ true → id ≡ 0
    pub stays : v.first ≡ true → v.apart ≡ 0
    pub none_out : v.first ≡ false → v.out ≡ 0
    pub spent : v.first ≡ false → v.apart ≡ 0 → v.terms ≡ None
    pub empty : v.terms ≡ None → v.log ≡ []

  -- the rule, for the words and the views of all seats
  pub record Kept (s : State ℕ (View K T)) : Type 0 where
    -- the longest log that a seat has seen is a run, and the words are what it leaves
    pub log : List (Event K)
    pub longest : (id : ℕ) × (v : View K T) × (get_elem? s.views id ≡ some v) × (v.log ≡ log)
    pub run : shared.IsRunOf key log
    pub wide : length s.words ≡ shared.word_count (shared.table key)
    pub left : (p : ℕ) → p < shared.word_count (shared.table key) →
        slice_index s.words p ≡ held shared.machine (shared.table key) log p
    -- a number whose caller has not enrolled has no event, and no two seats have the same number
    pub fresh : (n : ℕ) → enrolled shared key log ≤ n → events_of n log ≡ []
    pub seats : (id : ℕ) (v : View K T) → get_elem? s.views id ≡ some v → Sees log id v
    pub apart : (i j : ℕ) (v w : View K T) (n : ℕ) →
        get_elem? s.views i ≡ some v → get_elem? s.views j ≡ some w →
        Contains v.numbers n → Contains w.numbers n → i ≡ j
    -- no more callers can enrol than there may be, and the first seat counts the seats that are out
    pub tickets :
        sum_by (λ v. v.enrolments) s.views + enrolled shared key log ≤ shared.machine.callers (shared.table key)
    pub outs : sum_by (λ v. v.out) s.views ≡ sum_by (λ v. v.apart) s.views
