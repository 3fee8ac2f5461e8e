-- A recheck or a commit, as its answers see it.
use Rattle.std.proofs.Common.{◌∙◌, ◌≡◌, List, None, Option, Some, ap, false, refl, true, ℕ}
use base.Fml.{GName}
use Rattle.dstm_engine.proofs.Base.{Again, Committing, Doing, Home, IsNoReading, Rechecking, Steps, Val, Work, WriteSlot, now, passed, view_of}
use Rattle.dstm_engine.proofs.AtCall.{AtCall, at_home, ends_at}
use Rattle.dstm_engine.proofs.CommitEnds.{IsCommitted, committed_tied, is_committed}
use Rattle.dstm_engine.proofs.Committing.{value_is, value_there}
use Rattle.dstm_engine.proofs.Left.{left_as, left_attempt, left_done, left_ended, left_kept, left_leaves, left_place, left_tied, left_uncommitted}
use Rattle.dstm_engine.proofs.Plain.{is_closed}
use Rattle.dstm_engine.proofs.Rechecked.{IsRechecked, is_rechecked, rechecked_tied, stale_or_killed}
use Rattle.dstm_engine.proofs.Steady.{held_same, opened_same, same_generator}
use Rattle.dstm_engine.proofs.Tying.{EndsAt, EndsHere}
use Rattle.dstm_engine.specs.Attempts.{done}
use Rattle.dstm_engine.specs.Callers.{Called, begun_log, held, is_live, is_opened, is_running, new_value, state}
use Rattle.dstm_engine.specs.Mirror.{Tied, called}
use Rattle.dstm_engine.specs.Outcomes.{IsEnded}
use Rattle.dstm_engine.specs.Transactions.{IsStaleOrKilled, Leaves, tx_place}
use Rattle.dstm_engine.specs.declared.caller.Caller.TheInside.{Inside}

-- the call has left its attempt, and holds what it held
pub record LeftClosed {L : Type 0} (holds : L → List Val → Type 0) (work : Work) (k n : Called L) (again : Again) :
    Type 0 where
  pub leaves : Leaves holds work k n again
  pub kept : n ≡ record k { log = n.log; left = Some again }
  pub same_held : (p : ℕ) → held n p ≡ held k p
  pub same_opened : (p : ℕ) → is_opened n p ≡ is_opened k p
  pub over : is_live n ≡ false
  pub place : (name : GName) (table : Home L) → tx_place name table n ≡ tx_place name table k
  pub attempt : begun_log n.number n.log ≡ begun_log k.number k.log
  pub same_done : done n ≡ done k
  pub ended : IsEnded n

module _ {L : Type 0} {holds : L → List Val → Type 0} {c : Inside L} {k : Called L} {words : Home L} {steps : Steps L}
    (at : AtCall holds c k words steps) (live : is_live k ≡ true) where
  on : c.live ≡ true
  on = at.live ∙ live

  left_closed : {work : Work} → is_closed work ≡ true → {new : Steps L} {again : Again} →
      EndsHere holds c (Doing work) new (Some again) →
      (c.terms.shape.all_write ≡ true → IsNoReading work) → (last : Option ℕ) →
      LeftClosed holds work (called c) (called (left_as c new last again c.opened)) again
  left_closed closed {new = new} {again = again} u writes last = record {
    leaves = left_leaves at.tied on u writes last c.opened;
    kept = left_kept at.tied on u writes last c.opened refl
        ∙ ap (λ g. record (called c) { log = (view_of new.seat).log; generator = g; left = Some again })
        (same_generator at.tied on closed u);
    same_held = λ p. held_same at.tied on closed u p;
    same_opened = λ p. opened_same at.tied on closed u p;
    over = ap is_running (left_uncommitted at.tied on u writes last c.opened).0;
    place = λ name table. left_place at.tied on u writes last c.opened name table;
    attempt = left_attempt at.tied on u writes last c.opened;
    same_done = left_done at.tied on u writes last c.opened;
    ended = left_ended at.tied on u writes last c.opened;
  }

  -- ---- a recheck

  module _ {new : Steps L} (last : Option ℕ) where
    module _ {again : Again} (done_r : EndsAt holds words steps (Doing Rechecking) new (Some again)) where
      pub recheck_left_tied : Tied holds (left_as c new last again c.opened)
      recheck_left_tied = left_tied at.tied on (ends_at at done_r) (λ _. tt) last c.opened refl

      pub recheck_left : LeftClosed holds Rechecking k (called (left_as c new last again c.opened)) again
      recheck_left = rw (← at.view) (left_closed refl (ends_at at done_r) (λ _. tt) last)

      pub recheck_cause : IsStaleOrKilled again
      recheck_cause = stale_or_killed at.tied on (ends_at at done_r)

    module _ (done_r : EndsAt holds words steps (Doing Rechecking) new None)
        (number : ℕ) (is : now words new ≡ passed number (now words steps)) (taken : last ≡ Some number) where
      is_on : now (called c).home new ≡ passed number (state (called c))
      is_on = at_home at (λ h l. now h new ≡ passed number l) is

      pub recheck_tied : Tied holds (record c { steps = new; last_number = last })
      recheck_tied = rechecked_tied at.tied on (ends_at at done_r) number is_on taken

      pub rechecked : IsRechecked holds k (called (record c { steps = new; last_number = last }))
      rechecked = rw (← at.view) (is_rechecked at.tied on (ends_at at done_r) number is_on taken)

  -- ---- a commit

  module _ {slots : List WriteSlot} (listed : slots ≡ c.opened.writes) {new : Steps L} where
    commit_ends : {answer : Option Again} →
        EndsAt holds words steps (Doing (Committing (value_there words steps slots))) new answer →
        EndsHere holds c (Doing (Committing (new_value (called c)))) new answer
    commit_ends {answer = answer} u = rw (← value_is at.tied on at.home at.begun listed) (ends_at at u)

    module _ (u : EndsAt holds words steps (Doing (Committing (value_there words steps slots))) new None) where
      pub commit_tied : Tied holds (record c { steps = new; live = false; fresh = true })
      commit_tied = committed_tied at.tied on (commit_ends u)

      pub committed : (number : ℕ) → (now words new).drawn ≡ Some number →
          IsCommitted holds k (called (record c { steps = new; live = false; fresh = true })) number
      committed number drawn =
          rw (← at.view) (is_committed at.tied on (commit_ends u) number
          (at_home at (λ h _. (now h new).drawn ≡ Some number) drawn))

    module _ {again : Again}
        (u : EndsAt holds words steps (Doing (Committing (value_there words steps slots))) new (Some again)) where
      pub commit_left_tied : Tied holds (left_as c new c.last_number again c.opened)
      commit_left_tied = left_tied at.tied on (commit_ends u) (λ _. tt) c.last_number c.opened refl

      pub commit_left :
          LeftClosed holds (Committing (new_value k)) k (called (left_as c new c.last_number again c.opened)) again
      commit_left = rw (← at.view) (left_closed refl (commit_ends u) (λ _. tt) c.last_number)
