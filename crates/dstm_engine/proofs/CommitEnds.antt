-- A caller after a commit.
use Rattle.std.proofs.Common.{◌<◌, ◌∙◌, ◌∷◌, ◌≡◌, List, None, Option, Some, ap, arith, cond, false, refl, subst, sym, true, ℕ}
use Rattle.std.specs.Prelude.{Bool}
use Rattle.dstm_engine.proofs.Base.{Again, Committing, Doing, IsCallIn, LocalState, Outside, StaysAt, Steps, Val, Work, attempt_of, code_of, done_by, entry_of, local, new_values, now, or_zero, value_in, view_of}
use Rattle.dstm_steps.proofs.Stepping.{call_of}
use Rattle.dstm_progress.proofs.Adding.{is_added}
use Rattle.dstm_progress.proofs.Committing.{commit_ends}
use Rattle.dstm_progress.proofs.OwnEvents.{after_own, allowed_own}
use Rattle.dstm_core.specs.declared.status.Status.TheVariants as status
use Rattle.dstm_progress.proofs.Bound.{alone_is_bounded}
use Rattle.dstm_progress.proofs.Prices.{prices_by_count}
use Rattle.dstm_engine.proofs.Abandoning.{begun_of, has_begin}
use Rattle.dstm_engine.proofs.Alone.{bounded}
use Rattle.dstm_engine.proofs.Committing.{handed_value, unwritten}
use Rattle.dstm_engine.proofs.Continuing.{doing_keeps, kept_over, told_more}
use Rattle.dstm_engine.proofs.Left.{begun_there, call_there, current_there, over_tied, performed, told_there}
use Rattle.dstm_engine.proofs.Plain.{are_plain, is_closed}
use Rattle.dstm_engine.proofs.PutValues.{commit_puts, given_in, given_values}
use Rattle.dstm_engine.proofs.Rechecked.{plain_misses}
use Rattle.dstm_engine.proofs.Steady.{held_same, same_generator, same_there}
use Rattle.dstm_engine.proofs.Tying.{EndsHere, live_there, state_then}
use Rattle.dstm_engine.specs.Attempts.{Commits, done}
use Rattle.dstm_engine.specs.Callers.{Called, begun_log, handed, is_opened, is_running, new_value, shape_of, state}
use Rattle.dstm_engine.specs.Calls.{IsTold, Performs}
use Rattle.dstm_engine.specs.Mirror.{Tied, called, phase_by}
use Rattle.dstm_engine.specs.Outcomes.{IsEnded}
use Rattle.dstm_engine.specs.Transactions.{Stays}
use Rattle.dstm_engine.specs.declared.caller.Caller.TheInside.{Inside}

-- a recheck or a commit has no exchange but those on its own status
pub closed_stays : {L : Type 0} {holds : L → List Val → Type 0} {k n : Called L} {work : Work} → is_closed work ≡ true →
    Performs holds (Doing work) k n None → Stays holds work k n
closed_stays {k = k} {work = work} closed p = record {
  steps = p;
  missed =
      let none = plain_misses work p.events
      (are_plain work (shape_of k) (state k) k.generator p.events closed p.call.obeys) in
      omega arith;
}

-- the attempt has committed
pub record IsCommitted {L : Type 0} (holds : L → List Val → Type 0) (k n : Called L) (number : ℕ) : Type 0 where
  pub stays : Stays holds (Committing (new_value k)) k n
  pub committed : Commits k n number
  pub kept : n ≡ record k { log = n.log; left = None; fresh = true }
  pub attempt : begun_log n.number n.log ≡ begun_log k.number k.log
  pub ended : IsEnded n

module _ {L : Type 0} {holds : L → List Val → Type 0} {c : Inside L} (v : Tied holds c) (live : c.live ≡ true)
    {new : Steps L} (u : EndsHere holds c (Doing (Committing (new_value (called c)))) new None) where
  abbrev pub committed_as : Inside L
  committed_as = record c { steps = new; live = false; fresh = true }

  work : Work
  work = Committing (new_value (called c))

  steps : Performs holds (Doing (Committing (new_value (called c)))) (called c) (called committed_as) None
  steps = performed v live u (called committed_as) refl refl refl refl

  ends : ((state (called committed_as)).phase ≡ Outside) × ((state (called committed_as)).committed ≡ true)
      × StaysAt c.terms.shape (view_of new.seat).log c.number (code_of status.Committed)
  ends =
      commit_ends (new_value (called c)) c.terms.shape c.number c.steps.decider.generator u.events (called c).log
      (view_of new.seat).log (call_there v live u) (current_there v live u).live (call_of u).1

  told : {left : Option Again} → left ≡ None → IsTold (record (called committed_as) { left = left })
  told {left = left} none =
      told_more (told_there v live u) (performed v live u
      (record (called committed_as) { left = left }) refl refl refl refl) (current_there v live u).live
      (doing_keeps steps) refl none (λ _. tt)
      (let over = kept_over (record (called committed_as) { left = left }) (ap is_running ends.0) in omega arith)

  pub committed_tied : Tied holds committed_as
  committed_tied =
      rw (v.left live) (over_tied v live u c.last_number true c.opened refl ends.0 (λ h. absurd (cc h)) tt (told refl))

  -- the new values are those last set, or the old ones
  new_are : new_values c.terms.shape (view_of new.seat).log (state (called committed_as)).writes
      ≡ given_values (new_value (called c)) (state (called c)).writes
  new_are =
      ap (new_values c.terms.shape (view_of new.seat).log) (same_there v live refl u).writes
      ∙ commit_puts c.terms.shape c.number (new_value (called c)) (view_of new.seat).log (called c).log
      c.steps.decider.generator u.events u.run.run.core u.own
      (allowed_own c.terms.shape c.number (view_of new.seat).log (called c).log u.events u.run.run.core u.own) u.obeys
      (are_plain (Committing (new_value (called c))) c.terms.shape (state (called c)) c.steps.decider.generator u.events
      refl u.obeys) (v.phase ∙ ap phase_by live) (v.uncommitted live) (v.rest live).not_put.0 (v.rest live).not_put.1
      (ap (λ (l : LocalState). l.committed)
      (sym (after_own c.terms.shape c.number (view_of new.seat).log (called c).log u.events u.own)) ∙ ends.1)

  written_then : (o : ℕ) → value_in (new_values c.terms.shape (view_of new.seat).log (state (called committed_as)).writes) o
      ≡ cond (is_opened (called c) o) (handed (called c) o) None
  written_then o =
      ap (λ ps. value_in ps o) new_are ∙ given_in (new_value (called c)) (state (called c)).writes o
      ∙ by (is_opened (called c) o) refl
    where
      by : (b : Bool) → is_opened (called c) o ≡ b →
          cond b (Some (new_value (called c) o)) None ≡ cond b (handed (called c) o) None
      by true q = handed_value v live o q
      by false q = refl

  commits : (number : ℕ) → (now (called c).home new).drawn ≡ Some number →
      Commits (called c) (called committed_as) number
  commits number drawn = record {
    seen = u.seen;
    attempt = doing_keeps steps;
    over = ap is_running ends.0;
    status = ends.2;
    entry = entry_of c.terms.shape c.terms.start.value.items (view_of new.seat).log (state (called committed_as));
    done =
        subst (λ xs. done_by c.terms.shape c.terms.start.value.items xs xs c.number
        ≡ attempt_of c.terms.shape c.terms.start.value.items xs c.number (local c.terms.shape xs c.number)
        ∷ done (called c)) u.seen.whole
        (is_added (Committing (new_value (called c))) c.terms.shape c.terms.start.value.items c.number
        c.steps.decider.generator u.events u.seen.later (called c).log
        (subst (IsCallIn (Doing (Committing (new_value (called c)))) c.terms.shape c.number c.steps.decider.generator
        u.events (called c).log) (sym u.seen.whole) (call_there v live u)) (current_there v live u).live
        (subst (λ xs. (local c.terms.shape xs c.number).committed ≡ true) (sym u.seen.whole) ends.1))
        ∙ ap (λ n. record {
          caller = c.number;
          number = n;
          entry = entry_of c.terms.shape c.terms.start.value.items (view_of new.seat).log (state (called committed_as));
        } ∷ done (called c)) (ap (λ (l : LocalState). or_zero l.drawn) (state_then c u) ∙ ap or_zero drawn);
    reads = λ o. held_same v live refl u o;
    writes = written_then;
    only = λ o. unwritten v live o;
  }

  pub is_committed : (number : ℕ) → (now (called c).home new).drawn ≡ Some number →
      IsCommitted holds (called c) (called committed_as) number
  is_committed number drawn = record {
    stays = closed_stays refl steps;
    committed = commits number drawn;
    kept = rw (u.seat.0, same_generator v live refl u, v.left live) refl;
    attempt = doing_keeps steps;
    ended = record {
      told = told (v.left live);
      left = rw (v.left live) tt;
      bounded = λ none.
          bounded (told (v.left live)) u.run.run.core (has_begin (called committed_as)
          (subst (λ n. 0 < n) (sym (begun_there v live u))
          (begun_of (called c) v.run (sym (live_there v) ∙ live)))) alone_is_bounded prices_by_count;
    };
  }
