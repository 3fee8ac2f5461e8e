-- Reading an object: what is due after each look, and what ends the call.
use Rattle.std.proofs.Common.{◌≡◌, ℕ, ◌*◌, ◌/◌, ◌%◌, ◌≤◌, ◌∙◌, List, true, false, Some, None, refl, ap, sym, subst, arith, Option, Bool, not, nat_le, if◌then◌else◌}
use Rattle.std.proofs.lemmas.Bool.{and_parts, eq-eqb, eqb-false, leb-true, ne_eqb}
use Rattle.dstm_model.specs.declared.value.Val.{Val}
use Rattle.dstm_machines.specs.Traces.Access.{Load}
use Rattle.dstm_tl2.specs.declared.kind.Kind.{Kind}
use Rattle.dstm_tl2.specs.declared.kind.Kind.TheVariants.{LookLock, LookLow, LookHigh, LookAgain}
use Rattle.dstm_tl2.specs.Failing.{is_locked, is_readable}
use Rattle.dstm_tl2.specs.Rules.{IsReadable}
use Rattle.dstm_tl2.specs.State.{LocalState, look_of}
use Rattle.dstm_tl2_words.specs.Seats.{Home}
use Rattle.dstm_tl2_order.specs.declared.again.TlAgain.{TlAgain}
use Rattle.dstm_tl2_order.specs.declared.again.TlAgain.TheVariants.{Locked, Newer, Changed}
use Rattle.dstm_tl2_steps.specs.declared.steps.Steps.{Steps}
use Rattle.dstm_tl2_order.specs.Order.Due.{Done, Just, LookAt}
use Rattle.dstm_tl2_order.specs.Tasks.{Work}
use Rattle.dstm_tl2_order.specs.Tasks.Task.{Doing}
use Rattle.dstm_tl2_steps.specs.Under.{Began, Under, Went, made_by, now}
use Rattle.dstm_tl2_steps.proofs.Going.{goes_on, looks_in}
use Rattle.dstm_tl2_steps.proofs.Stepping.{under_is}

-- a word that is readable has a version, which is at most the sample
pub readable : (sample word : ℕ) → is_readable sample word ≡ true → IsReadable sample word
readable sample word h =
    let parts = and_parts (not (is_locked word)) (nat_le word (2 * sample)) h in
    let odd = eqb-false (word % 2) 1 (not_true (is_locked word) parts.0) in
    let below : word ≤ 2 * sample = leb-true word (2 * sample) parts.1 in
    (word / 2, omega arith, omega arith)
  where
    not_true : (b : Bool) → not b ≡ true → b ≡ false
    not_true true q = absurd (cc)
    not_true false q = refl

-- what the test of a word tells
tells_good : (b : Bool) (why : TlAgain) → (if b then None else Some why) ≡ None → b ≡ true
tells_good true why q = refl
tells_good false why q = absurd (cc)

tells_bad : (b : Bool) (why again : TlAgain) → (if b then None else Some why) ≡ Some again →
    (b ≡ false) × (why ≡ again)
tells_bad true why again q = absurd (cc)
tells_bad false why again q = (refl, (cc))

module _ {L : Type 0} (holds : L → List Val → Type 0) (home : Home L) (began : Began) where
  -- the look that is due next, at an object whose word is readable
  pub record Looks (steps : Steps L) (kind : Kind) (again : Option TlAgain) : Type 0 where
    pub due : Under holds home began steps (Just kind) again
    pub good : IsReadable (now home steps).sample (look_of (now home steps)).word

module _ {L : Type 0} {holds : L → List Val → Type 0} {home : Home L} {began : Began} where
  -- the call that looks at an object is one on an attempt
  pub on_attempt : {steps : Steps L} (o : ℕ) {again : Option TlAgain} →
      Under holds home began steps (LookAt o) again → (work : Work) × (began.task ≡ Doing work)
  on_attempt o under = looks_in _ _ _ _ o under.due

  module _ {old new : Steps L} {again : Option TlAgain} (o word : ℕ) where
    -- the word of the first look stays that of the read under way
    pub word_first : Went holds home began old new again (made_by began Load LookLock o word) →
        (look_of (now home new)).word ≡ word
    word_first went = ap (λ (state : LocalState). (look_of state).word) went.state

    pub word_low : (at : ℕ) → Went holds home began old new again (made_by began Load LookLow at word) →
        (look_of (now home new)).word ≡ (look_of (now home old)).word
    word_low at went = ap (λ (state : LocalState). (look_of state).word) went.state

    pub word_high : (at : ℕ) → Went holds home began old new again (made_by began Load LookHigh at word) →
        (look_of (now home new)).word ≡ (look_of (now home old)).word
    word_high at went = ap (λ (state : LocalState). (look_of state).word) went.state

    module _ (why : TlAgain) (under : Under holds home began old (LookAt o) again)
        (went : Went holds home began old new again (made_by began Load LookLock o word))
        (rest : new ≡ record old { seat = new.seat }) where
      task : (work : Work) × (began.task ≡ Doing work)
      task = on_attempt o under

      sample_now : (now home new).sample ≡ new.sample
      sample_now = rw (went.state, ← under.sample, rest) refl

      -- a first look at a readable word
      pub looked : (if is_readable new.sample word then None else Some why) ≡ None → Looks holds home began new LookLow again
      looked test =
          let good : is_readable new.sample word ≡ true = tells_good (is_readable new.sample word) why test in record {
            due = under_is (goes_on task.0 task.1 went)
                (rw (sample_now, good) refl)
                (rw (← under.sample) (rw (ap (λ (steps : Steps L). steps.sample) (sym rest)) (rw good refl)));
            good = subst (IsReadable (now home new).sample) (sym (word_first went))
                (subst (λ n. IsReadable n word) (sym sample_now) (readable new.sample word good));
          }

      -- a first look at another word ends the call
      pub not_readable : (found : TlAgain) →
          (if is_readable new.sample word then None else Some why) ≡ Some found →
          why ≡ (if is_locked word then Locked o else Newer o) → Under holds home began new Done (Some found)
      not_readable found test is =
          let bad = tells_bad (is_readable new.sample word) why found test in
          under_is (goes_on task.0 task.1 went) (rw (sample_now, bad.0) refl) (rw (← under.sample)
          (rw (ap (λ (steps : Steps L). steps.sample) (sym rest)) (rw bad.0 (ap Some (sym is ∙ bad.1)))))

    module _ (work : Work) (task : began.task ≡ Doing work) where
      -- the looks at the value stand between the two looks at the lock
      pub looked_low : (at : ℕ) → Went holds home began old new again (made_by began Load LookLow at word) →
          IsReadable (now home old).sample (look_of (now home old)).word → Looks holds home began new LookHigh again
      looked_low at went good = record {
        due = goes_on work task went;
        good = subst (λ (state : LocalState). IsReadable state.sample (look_of state).word) (sym went.state) good;
      }

      pub looked_high : (at : ℕ) → Went holds home began old new again (made_by began Load LookHigh at word) →
          Under holds home began new (Just LookAgain) again
      looked_high at went = goes_on work task went

      module _ (went : Went holds home began old new again (made_by began Load LookAgain o word)) where
        -- the last look finds the same word
        pub looked_again : word ≡ (look_of (now home old)).word → Under holds home began new Done again
        looked_again same =
            under_is (goes_on work task went) refl (rw (eq-eqb word (look_of (now home old)).word same) refl)

        -- it finds another one, which ends the call
        pub found_other : {found : TlAgain} → (word ≡ (look_of (now home old)).word → ⊥) →
            found ≡ (if is_locked word then Locked o else Changed o) → Under holds home began new Done (Some found)
        found_other other is =
            under_is (goes_on work task went)
            refl (rw (ne_eqb word (look_of (now home old)).word other) (ap Some (sym is)))
