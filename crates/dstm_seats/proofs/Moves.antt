-- The steps, at each of the four accesses.
use Rattle.std.proofs.Common.{◌≡◌, ◌≢◌, ℕ, ◌+◌, ◌^◌, ◌%◌, ◌<◌, cond, refl, sym, ap, ◌∙◌, subst, arith, lit<, ne_eqb, Some, None, Option, IfSome, Bool, true, false, ◌==◌}
use Rattle.std.proofs.Math.Nat.{mod-eq_of_lt}
use mathlib.Core.Logic.{dite}
use native.Mathlib.Decide.{ℕ_discrete}
use prog.Atomic.{either}
use Rattle.atomic_table.specs.Table.{Me, Allows}
use Rattle.dstm_machines.specs.Traces.{Access}
use Rattle.dstm_machines.specs.Traces.Access.{Load, Store, Exchange, Add}
use Rattle.dstm_seats.specs.declared.view.View.{View}
use Rattle.dstm_seats.specs.Rule.{Kept}
use Rattle.atomic_table.specs.declared.shared.Seat.{Seat}
use Rattle.dstm_seats.specs.Seats.{Home, IsOf, caller_state, event_by, made, state_by, view_of, MakesKept, Makes, MayMake}
use Rattle.dstm_machines.specs.Sharing.{Enrolling, Shared}
use Rattle.dstm_seats.proofs.Keeping.{steps}

-- the two ways to write a choice of two numbers
either_cond : (b : Bool) (m n : ℕ) → cond b m n ≡ either b m n
either_cond true m n = refl
either_cond false m n = refl

module _ {K T B S : Type 0} (shared : Shared K T B S) (laws : Enrolling shared) (key : T) where
  abbrev table : B
  table = shared.table key

  -- the word is one of the table's
  place_inside : (v : View K T) (way : Access) (kind : K) (place : ℕ) → MayMake shared key v way kind place →
      place < shared.word_count table
  place_inside v way kind place may =
      laws.inside table (caller_state shared key v) (made v way kind place 0) (may 0 (lit< tt))

  -- a seat with no number adds one to what it finds
  may_enrol : (v : View K T) (way : Access) (kind : K) (place : ℕ) → MayMake shared key v way kind place →
      v.number ≡ None → (found : ℕ) → found < 2 ^ 64 →
      (made v way kind place found).put ≡ (made v way kind place found).found + 1
  may_enrol v way kind place may none found l =
      (laws.first table (made v way kind place found)
      (subst (λ (o : Option ℕ). shared.machine.Allows table (state_by shared.machine table o v.log)
      (made v way kind place found)) none (may found l))).2

  -- a step of a play that told this kind
  told : (slots id : ℕ) (me : Me ℕ (View K T)) (place : ℕ) (f : ℕ → ℕ) (P : K → ℕ → View K T → Type 0)
      (o : Option K) (kind : K) → o ≡ Some kind →
      Allows (Kept shared key) slots id me place f (λ found n. (n.1 ≡ me.1) × P kind found n.0) →
      Allows (Kept shared key) slots id me place f (λ found n. (n.1 ≡ me.1) × IfSome o (λ kind. P kind found n.0))
  told slots id me place f P o kind is = subst
      (λ o. Allows (Kept shared key) slots id me place f
      (λ found n. (n.1 ≡ me.1) × IfSome o (λ kind. P kind found n.0))) (sym is)

  pub loads : (slots id : ℕ) (me : Me ℕ (View K T)) (o : Option K) (kind : K) (place : ℕ) → o ≡ Some kind →
      me.0.terms ≡ Some key → MayMake shared key me.0 Load kind place → MakesKept shared key me.0 Load kind place →
      Allows (Kept shared key) slots id me place (λ n. n)
      (λ found n. (n.1 ≡ me.1) × IfSome o (λ kind. Makes shared me.0 Load kind place found n.0))
  loads slots id me o kind place is live may keeps = told slots id me place (λ n. n)
      (λ kind found w. Makes shared me.0 Load kind place found w) o kind is
      (steps shared laws key slots id me place (λ n. n) (λ c n. event_by Load c kind place n)
      (λ c n. (refl, refl, refl)) (λ log c n run f l. refl) live (λ found l. (may found l, keeps found))
      (λ none. absurd (let x = may_enrol me.0 Load kind place may none 0 (lit< tt) in omega arith)))

  pub stores : (slots id : ℕ) (me : Me ℕ (View K T)) (o : Option K) (kind : K) (place put : ℕ) → o ≡ Some kind →
      me.0.terms ≡ Some key → MayMake shared key me.0 (Store put) kind place →
      MakesKept shared key me.0 (Store put) kind place → Allows (Kept shared key) slots id me place (λ _. put)
      (λ _ n. (n.1 ≡ me.1)
      × IfSome o (λ kind. (found : ℕ) × Makes shared me.0 (Store put) kind place found n.0))
  stores slots id me o kind place put is live may keeps = told slots id me place (λ _. put)
      (λ kind _ w. (found : ℕ) × Makes shared me.0 (Store put) kind place found w) o kind is (λ s k homes at_id bound.
      let t = steps shared laws key slots id me place (λ _. put) (λ c n. event_by (Store put) c kind place n)
      (λ c n. (refl, refl, refl)) (λ log c n run f l. refl) live (λ found l. (may found l, keeps found))
      (λ none. absurd (
      let x = may_enrol me.0 (Store put) kind place may none 0 (lit< tt) in
      let y = may_enrol me.0 (Store put) kind place may none 1 (lit< tt) in
      omega arith)) s k homes at_id bound in
      (t.0, t.1, t.2, t.3, (t.4.0, (_, t.4.1))))

  pub exchanges : (slots id : ℕ) (me : Me ℕ (View K T)) (o : Option K) (kind : K) (place old new : ℕ) →
      o ≡ Some kind → me.0.terms ≡ Some key → MayMake shared key me.0 (Exchange old new) kind place →
      MakesKept shared key me.0 (Exchange old new) kind place →
      Allows (Kept shared key) slots id me place (λ n. either (n == old) new n)
      (λ found n. (n.1 ≡ me.1) × IfSome o (λ kind. Makes shared me.0 (Exchange old new) kind place found n.0))
  exchanges slots id me o kind place old new is live may keeps =
      told slots id me place (λ n. either (n == old) new n)
      (λ kind found w. Makes shared me.0 (Exchange old new) kind place found w) o kind is
      (steps shared laws key slots id me place (λ n. either (n == old) new n)
      (λ c n. event_by (Exchange old new) c kind place n) (λ c n. (refl, refl, refl))
      (λ log c n run f l. either_cond (n == old) new n) live (λ found l. (may found l, keeps found))
      (λ none. absurd (dite (ℕ_discrete 0 old) (λ zero_old. misses none 1 (lit< tt) (λ x. omega arith))
      (λ other. misses none 0 (lit< tt) other))))
    where
      misses : me.0.number ≡ None → (n : ℕ) → n < 2 ^ 64 → n ≢ old → ⊥
      misses none n l other =
          let x = may_enrol me.0 (Exchange old new) kind place may none n l in
          let y : n ≡ n + 1 = ap (λ b. cond b new n) (sym (ne_eqb n old other)) ∙ x in omega arith

  pub adds : (slots id : ℕ) (me : Me ℕ (View K T)) (o : Option K) (kind : K) (place : ℕ) → o ≡ Some kind →
      me.0.terms ≡ Some key → MayMake shared key me.0 Add kind place →
      MakesKept shared key me.0 Add kind place → shared.Adds kind → (me.0.number ≡ None → 0 < me.0.enrolments) →
      Allows (Kept shared key) slots id me place (λ n. (n + 1) % 2 ^ 64)
      (λ found n. (n.1 ≡ me.1) × IfSome o (λ kind. Makes shared me.0 Add kind place found n.0))
  adds slots id me o kind place is live may keeps add ticket = told slots id me place (λ n. (n + 1) % 2 ^ 64)
      (λ kind found w. Makes shared me.0 Add kind place found w) o kind is
      (steps shared laws key slots id me place (λ n. (n + 1) % 2 ^ 64) (λ c n. event_by Add c kind place n)
      (λ c n. (refl, refl, refl))
      (λ log c n run f l. sym (mod-eq_of_lt (laws.adds key log (event_by Add c kind place n) run f add)))
      live (λ found l. (may found l, keeps found)) ticket)

-- what a step requires of its seat, and that its word is one of the table's
pub record Ready {K T B S : Type 0} (shared : Shared K T B S) (home : Home T) (seat : Seat ℕ (View K T)) (way : Access)
    (kind : K) (place : ℕ) : Type 0 where
  pub of : IsOf home seat
  pub may : MayMake shared home.terms (view_of seat) way kind place
  pub keeps : MakesKept shared home.terms (view_of seat) way kind place
  pub inside : place < shared.word_count (shared.table home.terms)

-- what is required of the table as it is seen is so of its fields
ready : {K T B S : Type 0} (shared : Shared K T B S) (laws : Enrolling shared) (self home : Home T) → self ≡ home →
    (seat : Seat ℕ (View K T)) (way : Access) (kind : K) (place : ℕ) → IsOf self seat →
    MayMake shared self.terms (view_of seat) way kind place →
    MakesKept shared self.terms (view_of seat) way kind place → Ready shared home seat way kind place
ready shared laws self home is seat way kind place of may keeps =
    subst (λ home. Ready shared home seat way kind place) is (record {
      of = of;
      may = may;
      keeps = keeps;
      inside = place_inside shared laws self.terms (view_of seat) way kind place may;
    })

-- so all that a step asks for is there, if its play asks for no more
pub asks : {K T B S : Type 0} (shared : Shared K T B S) (laws : Enrolling shared) (self home : Home T) → self ≡ home →
    (seat : Seat ℕ (View K T)) (way : Access) (kind : K) (place words : ℕ) → IsOf self seat →
    MayMake shared self.terms (view_of seat) way kind place →
    MakesKept shared self.terms (view_of seat) way kind place →
    words ≡ shared.word_count (shared.table home.terms) → (Play : Type 0) →
    (Ready shared home seat way kind place → Play) → (seat.table_id ≡ home.table) × (place < words) × Play
asks shared laws self home is seat way kind place words of may keeps wide Play play =
    let r = ready shared laws self home is seat way kind place of may keeps in
    let inside = r.inside in
    (r.of.0, omega arith, play r)
