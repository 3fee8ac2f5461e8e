-- The life of a caller.
use Rattle.std.proofs.Common.{◌≡◌, ◌∙◌, ◌++◌, ◌∷◌, ◌==◌, true, List, [], None, ap, arith, inl, inr, refl, subst, sym, ℕ}
use Rattle.std.specs.Prelude.{Contains}
use Rattle.std.proofs.lemmas.Bool.{cases_Bool}
use Rattle.dstm_engine.proofs.Base.{ByCalls, Enrolling, Event, Leaving, LocalState, Shape, Task, TriesAgain, Val, events_of, started}
use Rattle.dstm_machines.proofs.Own.{own_append, own_first, own_other}
use Rattle.dstm_engine.specs.Callers.{Called, shape_of, state}
use Rattle.dstm_engine.specs.Tables.{Enrols, Founding, Retires, unnumbered}
use Rattle.dstm_engine.specs.Makes.{Makes}
use Rattle.dstm_progress.specs.Lives.{TriesByShape}
use Rattle.dstm_engine.specs.Lives.{ALifeIsCalls}
use Rattle.dstm_engine.proofs.AddingUp.{makes_all, makes_both, makes_one}

-- an own event is one of the caller
own_is : (c : ℕ) (es : List Event) (e : Event) (rest : List Event) → events_of c es ≡ e ∷ rest → (e.caller == c) ≡ true
own_is c [] e rest q = absurd (cc)
own_is c (x ∷ es) e rest q = elim (cases_Bool (x.caller == c)) [
  | inl own ↦
      let same : x ≡ e = let all = sym (own_first x es c own) ∙ q in cc in
      subst (λ (y : Event). (y.caller == c) ≡ true) same own
  | inr other ↦ own_is c es e rest (sym (own_other x es c other) ∙ q)
]

empty_right : (xs ys : List Event) → xs ++ ys ≡ [] → ys ≡ []
empty_right [] ys q = q
empty_right (x ∷ xs) ys q = absurd (cc)

-- before its Enrol it had none
none_before : (c : ℕ) (e : Event) (between old : List Event) → events_of c (e ∷ (between ++ old)) ≡ e ∷ [] →
    events_of c old ≡ []
none_before c e between old q =
    let mine = own_is c (e ∷ (between ++ old)) e [] q in
    let all : e ∷ events_of c (between ++ old) ≡ e ∷ [] = sym (own_first e (between ++ old) c mine) ∙ q in
    let rest : events_of c (between ++ old) ≡ [] = cc in
    empty_right (events_of c between) (events_of c old) (sym (own_append c between old) ∙ rest)

module _ {L : Type 0} (holds : L → List Val → Type 0) (f g later last : Founding L) (seed : ℕ) (k n : Called L)
    (log : List Event) (enrols : Enrols holds f g seed k) (retires : Retires holds later last n)
    (known : events_of n.number log ≡ events_of n.number last.view.log) where
  -- by calls of tasks among which are those that a caller enrols by, and leaves by
  life_by : (May : LocalState → Task → Type 0) → ((l : LocalState) → May l Enrolling) → ((l : LocalState) → May l Leaving) →
      Makes May k n → ByCalls May (shape_of n) (started (shape_of n).manager seed).generator log n.number
  life_by May enrolling leaving makes =
      let u : Called _ = record (unnumbered f seed) { number = k.number } in
      let quit = retires.quit in
      let born : Makes May u k = makes_one May holds Enrolling u k None (enrolling (state u)) enrols.steps in
      let gone : Makes May n quit = makes_one May holds Leaving n quit None (leaving (state n)) retires.steps in
      let life : Makes May u quit = makes_both May u n quit (makes_both May u k n born makes) gone in
      let none : events_of u.number u.log ≡ [] =
      none_before k.number enrols.enrol enrols.log.0 f.view.log (ap (events_of k.number) (sym enrols.log.1) ∙ enrols.own) in
      let one_of : Contains (quit.number ∷ []) quit.number = (0, omega arith, refl) in
      let there : events_of quit.number log ≡ events_of quit.number quit.log =
      ap (λ c. events_of c log) retires.steps.same.1 ∙ known ∙ ap (λ c. events_of c last.view.log) (sym retires.steps.same.1)
      ∙ retires.joined.other_kept quit.number one_of in
      let by : ByCalls May (shape_of u) u.generator log quit.number = makes_all May u quit log none life there in
      let shape : shape_of u ≡ shape_of n = ap (λ h. h.terms.shape) (sym (makes.same.0 ∙ born.same.0)) in
      subst (λ c. ByCalls May (shape_of n) (started (shape_of n).manager seed).generator log c) retires.steps.same.1
      (subst (λ (s : Shape). ByCalls May s (started s.manager seed).generator log quit.number) shape by)

pub a_life_is_calls : {L : Type 0} (holds : L → List Val → Type 0) → ALifeIsCalls L holds
a_life_is_calls holds f g later last seed k n log enrols retires known = (
  life_by holds f g later last seed k n log enrols retires known TriesAgain (λ l. tt) (λ l. tt),
  life_by holds f g later last seed k n log enrols retires known (TriesByShape (shape_of n))
      (λ l. record { again = tt; opens = λ all. tt }) (λ l. record { again = tt; opens = λ all. tt }),
)
