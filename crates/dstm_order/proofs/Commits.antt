-- Commits: what stands before the Commit.
use Rattle.std.proofs.Common.{◌≡◌, ◌⊎◌, ℕ, ◌∙◌, Bool, true, List, [], ◌∷◌, Some, None, refl, ap, sym, subst, inl, inr}
use Rattle.dstm_core.proofs.Base.{Event, LocalState, Val, after, is_one_of}
use Rattle.dstm_order.proofs.Base.{Check, Commit, Committing, Doing, Draw, Drawn, Due, Effort, EveryCommitIsValidated, Kind, Lcg, LookNumber, LookSelf, Manager, Obeys, Phase, PutHigh, PutNew, Quit, Rank, Shape, Step, ToValidating, due_after, effort_of, in_checks, in_pass, in_putting, newest_of, next, state_after}
use Rattle.dstm_order.proofs.Rows.{doing_by, is_due_of, is_test, kind_of_due, pass_by, checking_by, checks_by, putting_by, put_by, passed_by}
use Rattle.dstm_order.proofs.Validations.{Chain, GoesOn, goes_on, due_kind, NoTest, no_test, row_tests, first_no, test_goes, chain_none, chain_more, chain_ends, commit_is}

-- ---- the events of a commit

-- the kinds of event that a commit may make
abbrev in_commit : Kind → Bool
in_commit = is_one_of (PutHigh ∷ PutNew ∷ ToValidating ∷ Draw ∷ Check ∷ LookSelf ∷ Rank ∷ Commit ∷ Quit ∷ [])

abbrev InCommit : Due → Type 0
InCommit d = is_due_of in_commit d ≡ true

module _ (v : ℕ → Val) where
  first_commits : (l : LocalState) → InCommit (in_putting v l)
  first_commits l = putting_by InCommit v l refl (λ n. refl) (λ n. refl)

  next_commits : (k : Kind) (e : Event) (m : Manager) (l : LocalState) (c : Effort) → in_commit k ≡ true →
      InCommit (next k e (Committing v) m l c)
  next_commits PutHigh e m l c i = put_by InCommit (Committing v) l refl refl (λ n. refl) (λ n. refl)
  next_commits PutNew e m l c i = put_by InCommit (Committing v) l refl refl (λ n. refl) (λ n. refl)
  next_commits ToValidating e m l c i = refl
  next_commits Draw e m l c i = checking_by InCommit l refl refl
  next_commits Check e m l c i = checks_by InCommit l.phase l refl refl refl
  next_commits LookSelf e m l c i = passed_by InCommit (Committing v) m l refl (λ n. refl)
  next_commits Rank e m l c i = refl
  next_commits Commit e m l c i = refl
  next_commits Quit e m l c i = refl
  next_commits k e m l c i = absurd (cc)

  kinds : (s : Shape) (l : LocalState) (g : Lcg) (es : List Event) → Obeys (Doing (Committing v)) s l g es →
      InCommit (due_after (Doing (Committing v)) s l g es)
  kinds s l g [] obeys = doing_by InCommit (Committing v) s None l (effort_of s l g []) refl refl (first_commits l)
  kinds s l g (e ∷ es) obeys =
      doing_by InCommit (Committing v) s (Some e) (state_after s l (e ∷ es)) (effort_of s l g (e ∷ es)) refl refl
      (next_commits e.kind e s.manager (state_after s l (e ∷ es)) (effort_of s l g (e ∷ es))
      (kind_of_due in_commit (due_after (Doing (Committing v)) s l g es) e obeys.1 (kinds s l g es obeys.0)))

  -- ---- the last validation

  -- where it goes on in a phase, or ends
  abbrev InDrawn : Kind → Phase → Type 0
  InDrawn k p = (k ≡ Commit) ⊎ ((k ≡ Check) × (p ≡ Drawn))

  abbrev DrawChain : Shape → LocalState → Lcg → List Event → Type 0
  DrawChain s l g es = Chain Draw Commit (λ (l : LocalState). l.drawn) s l (Committing v) g es

  drawn_test : (k : Kind) (p : Phase) → InDrawn k p → is_test k ≡ true
  drawn_test k p (inl q) = rw q refl
  drawn_test k p (inr q) = let x = q.0 in rw x refl

  -- after a Check in it the phase is Drawn
  is_drawn : (k : Kind) (p : Phase) (l : LocalState) (n : ℕ) → InDrawn k p → in_checks p l ≡ Step k n → p ≡ Drawn
  is_drawn k p l n (inr x) q = x.1
  is_drawn k p l n (inl x) q = by p refl
    where
      by : (r : Phase) → p ≡ r → p ≡ Drawn
      by Drawn h = h
      by r h =
          let row : in_pass l ≡ Step k n = subst (λ p. in_checks p l ≡ Step k n) h q in
          absurd (pass_by (λ d. d ≡ Step k n → ⊥) l (λ y. cc) (λ y. cc) row)

  draw_back : (s : Shape) (l : LocalState) (g : Lcg) (es : List Event) (k : Kind) (n : ℕ) →
      Obeys (Doing (Committing v)) s l g es → due_after (Doing (Committing v)) s l g es ≡ Step k n →
      InDrawn k (state_after s l es).phase → DrawChain s l g es
  draw_back s l g [] k n obeys was here =
      let t = drawn_test k l.phase here in
      let on = goes_on (Committing v) s None l (effort_of s l g []) was (test_goes k n t) in
      absurd (no_test k n t on.table (first_no (Committing v) l))
  draw_back s l g (e ∷ es) k n obeys was here =
      go (λ m o d p. draw_back s l g es Check m o d p)
      (row_tests e.kind e (Committing v) s.manager new (effort_of s l g (e ∷ es)))
    where
      old : LocalState
      old = state_after s l es

      new : LocalState
      new = state_after s l (e ∷ es)

      on : GoesOn (Committing v) s (Some e) new (effort_of s l g (e ∷ es)) (Step k n)
      on = goes_on (Committing v) s (Some e) new (effort_of s l g (e ∷ es)) was (test_goes k n (drawn_test k new.phase here))

      row_at : (j : Kind) → e.kind ≡ j → next e.kind e (Committing v) s.manager new (effort_of s l g (e ∷ es))
          ≡ next j e (Committing v) s.manager new (effort_of s l g (e ∷ es))
      row_at j q = ap (λ j. next j e (Committing v) s.manager new (effort_of s l g (e ∷ es))) q

      Before : Type 0
      Before = (m : ℕ) → Obeys (Doing (Committing v)) s l g es →
          due_after (Doing (Committing v)) s l g es ≡ Step Check m → InDrawn Check (state_after s l es).phase →
          DrawChain s l g es

      go : Before → (e.kind ≡ LookNumber) ⊎ (e.kind ≡ Check) ⊎ (e.kind ≡ Draw)
          ⊎ NoTest (next e.kind e (Committing v) s.manager new (effort_of s l g (e ∷ es))) → DrawChain s l g (e ∷ es)
      go back (inl q) =
          let kind = kind_of_due in_commit (due_after (Doing (Committing v)) s l g es) e obeys.1 (kinds s l g es obeys.0) in
          let x = ap in_commit q in absurd (cc)
      go back (inr (inl q)) =
          let is : new ≡ after Check s old e = ap (λ k. after k s old e) q in
          let phase : new.phase ≡ old.phase = ap (λ (l : LocalState). l.phase) is in
          let drawn : new.phase ≡ Drawn = is_drawn k new.phase new n here (sym (row_at Check q) ∙ on.table) in
          let due_then = due_kind (due_after (Doing (Committing v)) s l g es) e obeys.1 q in
          let before = back due_then.0 obeys.0 due_then.1 (inr (refl, sym phase ∙ drawn)) in
          let was_on = goes_on (Committing v) s (newest_of es) old (effort_of s l g es) due_then.1 refl in
          chain_more e due_then.0 commit_is before q was_on.table on.agreed (ap (λ (l : LocalState). l.drawn) is)
          (row_at Check q ∙ ap (λ p. in_checks p new) drawn)
      go back (inr (inr (inl q))) =
          let is : new ≡ after Draw s old e = ap (λ k. after k s old e) q in
          chain_none Commit (λ (l : LocalState). l.drawn) s l (Committing v) g e es q
          (ap (λ (l : LocalState). l.checked) is) (ap (λ (l : LocalState). l.drawn) is) (row_at Draw q)
      go back (inr (inr (inr none))) = absurd (no_test k n (drawn_test k new.phase here) on.table none)

pub every_commit : EveryCommitIsValidated
every_commit v s l g e es obeys q =
    let due_then = due_kind (due_after (Doing (Committing v)) s l g es) e obeys.1 q in
    let on = goes_on (Committing v) s (newest_of es) (state_after s l es) (effort_of s l g es) due_then.1 refl in
    chain_ends e due_then.0 commit_is (draw_back v s l g es Commit due_then.0 obeys.0 due_then.1 (inl refl)) q on.table
