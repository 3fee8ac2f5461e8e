-- What a call under way knows of its caller's state: bounds, so that no word is near the end of 64 bits, and its number.
use Rattle.std.proofs.Common.{◌≡◌, ◌≤◌, ◌<◌, ◌*◌, ◌^◌, ◌==◌, ◌⊎◌, ◌∙◌, ℕ, inl, inr, List, [], ◌∷◌, true, Some, None, is_some, ap, arith, refl, subst, sym, Option}
use Rattle.std.proofs.lemmas.Bool.{cases_eq, cond_both}
use Rattle.std.proofs.lemmas.Nat.{mul-le}
use Rattle.dstm_model.specs.declared.value.Val.{Val}
use Rattle.dstm_machines.proofs.Runs.{local_other}
use Rattle.dstm_tl2.specs.declared.kind.Kind.{Kind}
use Rattle.dstm_tl2.specs.declared.kind.Kind.TheVariants.{Enrol, LookAgain, Lock}
use Rattle.dstm_tl2.specs.Rules.{Event, after, lock, record_read}
use Rattle.dstm_tl2.specs.Runs.{Run, local, tl2}
use Rattle.dstm_tl2.specs.Sharing.{table_of}
use Rattle.dstm_tl2.specs.State.{LocalState, look_of, read_of, recorded}
use Rattle.dstm_tl2.specs.Words.{Table}
use Rattle.dstm_tl2.proofs.Clock.{ClockOk, clock, clock_ok}
use Rattle.dstm_tl2.proofs.Counts.{clock_bound}
use Rattle.dstm_tl2.proofs.Enrolment.{named}
use Rattle.dstm_tl2.proofs.Static.{Static, read_ok, static}
use Rattle.dstm_seats.specs.Seats.{state_by}
use Rattle.dstm_tl2_words.specs.Seats.{view_of, Home}
use Rattle.dstm_tl2_order.specs.declared.again.TlAgain.{TlAgain}
use Rattle.dstm_tl2_steps.specs.declared.steps.Steps.{Steps}
use Rattle.dstm_tl2_order.specs.Calls.{state_after}
use Rattle.dstm_tl2_order.specs.Order.{Due}
use Rattle.dstm_tl2_steps.specs.Under.{now, Began, Under}
use Rattle.dstm_tl2_steps.proofs.Stepping.{number_of}

-- ---- numbers

-- a caller that has a number has its own
numbered : (t : Table) (es : List Event) → Run t es → (c : ℕ) → is_some (local t es c).number ≡ true →
    (local t es c).number ≡ Some c
numbered t [] run c h = absurd (cc)
numbered t (e ∷ es) run c h = go (cases_eq e.caller c) (λ h. numbered t es run.0 c h)
  where
    go : (e.caller ≡ c) ⊎ (e.caller ≡ c → ⊥) →
        (is_some (local t es c).number ≡ true → (local t es c).number ≡ Some c) → (local t (e ∷ es) c).number ≡ Some c
    go (inl q) ih = subst (λ c. (local t (e ∷ es) c).number ≡ Some c) q (named t es e run)
    go (inr q) ih =
        let other : local t (e ∷ es) c ≡ local t es c = local_other tl2 t es e c q in
        ap (λ (l : LocalState). l.number) other
        ∙ ih (subst (λ (l : LocalState). is_some l.number ≡ true) other h)

-- no event takes it away
number_stays : (k : Kind) (t : Table) (l : LocalState) (e : Event) → is_some l.number ≡ true →
    is_some (after k t l e).number ≡ true
number_stays Enrol t l e h = refl
number_stays LookAgain t l e h =
    cond_both (e.found == (look_of l).word) (record_read l) (record l { look = None })
    (λ (m : LocalState). is_some m.number ≡ true) (λ _. h) (λ _. h)
number_stays (Lock w) t l e h =
    cond_both (e.found == e.expected) (lock l w.value) (record l { look = None; writes = Some w.value; failed = true })
    (λ (m : LocalState). is_some m.number ≡ true) (λ _. h) (λ _. h)
number_stays k t l e h = h

numbers_stay : (t : Table) (l : LocalState) (es : List Event) → is_some l.number ≡ true →
    is_some (state_after t l es).number ≡ true
numbers_stay t l [] h = h
numbers_stay t l (e ∷ es) h = number_stays e.kind t (state_after t l es) e (numbers_stay t l es h)

-- ---- a call under way

module _ {L : Type 0} {holds : L → List Val → Type 0} {home : Home L} {b : Began} {steps : Steps L} {d : Due}
    {a : Option TlAgain} (u : Under holds home b steps d a) where
  -- the caller's state is that of a run
  pub now_is : local (table_of home.terms) (view_of steps.seat).log b.number ≡ now home steps
  now_is = ap (λ o. state_by tl2 (table_of home.terms) o (view_of steps.seat).log) (sym (number_of u))

  pub static_now : Static (table_of home.terms) (now home steps)
  static_now = rw (← now_is) (static (table_of home.terms) (view_of steps.seat).log u.run.run.run b.number)

  clock_now : ClockOk (table_of home.terms) (view_of steps.seat).log (now home steps)
  clock_now = rw (← now_is) (clock_ok (table_of home.terms) (view_of steps.seat).log u.run.run.run b.number)

  clock_below : clock (table_of home.terms) (view_of steps.seat).log < 2 ^ 61
  clock_below =
      let bound = clock_bound (table_of home.terms) (view_of steps.seat).log u.run.run.run in
      let most : home.terms.callers * home.terms.attempts ≤ 64 * 18014398509481984 = mul-le _ _ _ _ u.run.callers u.run.attempts in
      omega arith

  -- A NUMBER DRAWN is far below 2^63, so that twice that number, plus 2, is a word.
  pub drawn_below : (number : ℕ) → (now home steps).drawn ≡ Some number → number < 2 ^ 62
  drawn_below number q = let drawn = (clock_now.drawn number q).0 in let bound = clock_below in omega arith

  pub sample_below : (now home steps).sample < 2 ^ 61
  sample_below = let sample = clock_now.sample in let bound = clock_below in omega arith

  -- A WORD RECORDED of a read was readable, so that plus 1 it is a word.
  pub recorded_below : (o : ℕ) → is_some (read_of o (now home steps).reads) ≡ true →
      recorded o (now home steps).reads < 2 ^ 62
  recorded_below o read =
      let readable =
      read_ok (table_of home.terms) (now home steps).sample (now home steps).reads o static_now.read read in
      let even : recorded o (now home steps).reads ≡ 2 * readable.0 = readable.1 in
      let low : readable.0 ≤ (now home steps).sample = readable.2 in
      let bound = sample_below in omega arith

  -- A caller that had a number as the call began has its own.
  pub number_now : is_some b.state.number ≡ true → (now home steps).number ≡ Some b.number
  number_now h =
      let some : is_some (now home steps).number ≡ true =
      rw u.state (numbers_stay (table_of home.terms) b.state u.events h) in
      ap (λ (l : LocalState). l.number) (sym now_is)
      ∙ numbered (table_of home.terms) (view_of steps.seat).log u.run.run.run b.number (rw now_is some)
