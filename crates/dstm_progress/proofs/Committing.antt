-- A call that is to commit goes on until it has left its attempt.
use Rattle.std.proofs.Common.{◌∙◌, ◌∷◌, ◌≡◌, ◌≢◌, ◌⊎◌, List, None, Option, Some, [], ap, arith, false, inl, inr, refl, subst, sym, true, ℕ}
use Rattle.dstm_core.proofs.Base.{Event, LocalState, Val, after, cases_Bool, is_outside, local}
use Rattle.dstm_core.proofs.Underway.{is_outside_now}
use Rattle.dstm_order.proofs.Base.{Check, Commit, Committing, Doing, Done, Draw, Drawn, Due, Effort, IsCall, Kind, Lcg, Obeys, Outside, PutHigh, PutNew, Shape, Step, ToValidating, Work, answer, cause, effort_of, in_checking, in_checks, in_putting, just, newest_of, next, next_or_first, state_after}
use Rattle.dstm_order.proofs.Rows.{checking_by, putting_by}
use Rattle.dstm_progress.proofs.Calls.{nothing_due}
use Rattle.dstm_progress.specs.Ends.{ended_as}
use Rattle.dstm_progress.specs.Calls.{EveryCommitEnds}
use Rattle.dstm_progress.proofs.Ends.{end_stays}
use Rattle.dstm_progress.proofs.Leaving.{keeps_its_attempt}
use Rattle.dstm_progress.proofs.OwnEvents.{after_own}
use Rattle.dstm_progress.proofs.Sound.{sound_before}
use Rattle.dstm_progress.proofs.StaleReads.{went}
use Rattle.dstm_progress.proofs.Staying.{table_says, unless_quit}

module _ (v : ℕ → Val) where
  -- a commit under way puts its values, or is to draw, or checks its reads after the Draw
  data Row (l : LocalState) (d : Due) : Type 0 where
    puts : d ≡ in_putting v l → Row l d
    draws : d ≡ just Draw → Row l d
    checks : l.phase ≡ Drawn → d ≡ in_checking l → Row l d

  -- so something is due
  not_done : {l : LocalState} {d : Due} → Row l d → d ≢ Done
  not_done {l = l} {d = d} (puts q) z = putting_by (λ d. d ≡ Done → ⊥) v l (λ y. cc) (λ n y. cc) (λ n y. cc) (sym q ∙ z)
  not_done (draws q) z = let x : just Draw ≡ Done = sym q ∙ z in cc
  not_done {l = l} {d = d} (checks p q) z = checking_by (λ d. d ≡ Done → ⊥) l (λ y. cc) (λ y. cc) (sym q ∙ z)

  row_at : (s : Shape) (l : LocalState) (f : Effort) (e : Event) {k : Kind} → e.kind ≡ k →
      next e.kind e (Committing v) s.manager (after e.kind s l e) f
      ≡ next k e (Committing v) s.manager (after e.kind s l e) f
  row_at s l f e {k = k} q = ap (λ k. next k e (Committing v) s.manager (after e.kind s l e) f) q

  -- after an event that was due, unless it leaves the attempt
  next_row : (s : Shape) {l : LocalState} (f : Effort) (e : Event) (n : ℕ) → Row l (Step e.kind n) →
      (after e.kind s l e).phase ≢ Outside →
      Row (after e.kind s l e) (next e.kind e (Committing v) s.manager (after e.kind s l e) f)
  next_row s {l = l} f e n (puts q) i =
      putting_by (λ d. d ≡ Step e.kind n → Row new (next e.kind e (Committing v) s.manager new f)) v l
      (λ z. draws (row_at s l f e (kind ToValidating 0 z))) (λ m z. puts (row_at s l f e (kind PutHigh m z)))
      (λ m z. puts (row_at s l f e (kind PutNew m z))) (sym q)
    where
      new : LocalState
      new = after e.kind s l e

      kind : (k : Kind) (m : ℕ) → Step k m ≡ Step e.kind n → e.kind ≡ k
      kind k m z = let x : k ≡ e.kind = cc in sym x
  next_row s {l = l} f e n (draws q) i =
      let k : e.kind ≡ Draw = cc in
      checks (ap (λ k. (after k s l e).phase) k) (row_at s l f e k)
  next_row s {l = l} f e n (checks p q) i =
      checking_by (λ d. d ≡ Step e.kind n → Row new (next e.kind e (Committing v) s.manager new f)) l
      (λ z. let k : Commit ≡ e.kind = cc in absurd (i (ap (λ k. (after k s l e).phase) (sym k))))
      (λ z. let k : Check ≡ e.kind = cc in checked (sym k)) (sym q)
    where
      new : LocalState
      new = after e.kind s l e

      checked : e.kind ≡ Check → Row new (next e.kind e (Committing v) s.manager new f)
      checked k =
          let drawn : new.phase ≡ Drawn = ap (λ k. (after k s l e).phase) k ∙ p in
          checks drawn (row_at s l f e k ∙ ap (λ p. in_checks p new) drawn)

  rows : (s : Shape) (l : LocalState) (g : Lcg) (es : List Event) → Obeys (Doing (Committing v)) s l g es →
      (state_after s l es).phase ≢ Outside → Row (state_after s l es)
      (next_or_first (newest_of es) (Committing v) s.manager (state_after s l es) (effort_of s l g es))
  rows s l g [] o i = puts refl
  rows s l g (e ∷ es) o i =
      let old = state_after s l es in
      let inside : old.phase ≢ Outside =
      λ z. nothing_due (Committing v) s (newest_of es) old (effort_of s l g es) e z o.1 in
      let on = went (Committing v) s l g e es o i in
      next_row s (effort_of s l g (e ∷ es)) e on.0 (subst (Row old) on.1.table (rows s l g es o.0 inside)) i

  commit_leaves : {s : Shape} {l : LocalState} {g : Lcg} {es : List Event} →
      IsCall (Doing (Committing v)) s l g es → (state_after s l es).phase ≡ Outside
  commit_leaves {s = s} {l = l} {g = g} {es = es} h = elim (is_outside_now (state_after s l es).phase) [
    | inl o ↦ o
    | inr i ↦
        let f = effort_of s l g es in
        let now = state_after s l es in
        let two = unless_quit (Committing v) s (newest_of es) now f i h.done (λ z. cc) in
        absurd (not_done (rows s l g es h.obeys i)
        (table_says (Committing v) s (newest_of es) now f i two.0 two.1 h.done))
  ]

-- a call that has left its attempt and does not answer Again has committed
no_again : (w : Work) (n : Option Event) (l : LocalState) (f : Effort) → l.phase ≡ Outside →
    answer (Doing w) n l f ≡ None → l.committed ≡ true
no_again w n l f o q = elim (cases_Bool l.committed) [
  | inl c ↦ c
  | inr c ↦ absurd (let x : Some (cause n l f) ≡ None = rw (ap is_outside o, c) at q in cc)
]

pub commit_ends : EveryCommitEnds
commit_ends = λ v s c g events before run h i q.
    let l = local s before c in
    let now = after_own s c run before events h.own in
    let left = commit_leaves v h.call in
    let done = no_again (Committing v) (newest_of events) (state_after s l events) (effort_of s l g events) left q in
    let out : (local s run c).phase ≡ Outside = ap (λ (l : LocalState). l.phase) now ∙ left in
    let committed : (local s run c).committed ≡ true = ap (λ (l : LocalState). l.committed) now ∙ done in
    let begun = (sound_before s c run before events h.core h.own).begun i in
    let kept = keeps_its_attempt (Committing v) s c g events before run h in
    (out, committed, λ later core. end_stays s run c out (omega arith) later core ∙ ap ended_as committed)
