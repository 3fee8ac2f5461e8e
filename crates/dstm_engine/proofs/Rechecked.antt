-- A caller after a recheck.
use Rattle.std.proofs.Common.{◌++◌, ◌+◌, ◌∙◌, ◌∷◌, ◌≡◌, ◌≢◌, List, None, Option, Some, [], ap, arith, cond, length, refl, subst, sym, true, ℕ}
use Rattle.dstm_steps.proofs.Stepping.{call_of}
use Rattle.dstm_progress.proofs.Causes.{again_has_its_cause}
use Rattle.dstm_progress.proofs.OwnEvents.{after_own}
use Rattle.dstm_progress.specs.Causes.{Causes}
use Rattle.dstm_order.specs.declared.again.Again.TheVariants.{Killed, Lost, Stale, Waited}
use base.Fml.{GName}
use Rattle.dstm_engine.proofs.Base.{Again, AreWrites, Doing, Done, Event, Home, Install, Kill, Kind, LocalState, Obeys, Outside, Pause, Read, Rechecking, Running, Shape, Steps, Val, Work, count_of, due_after, events_of, is_miss, misses, now, passed, state_after, view_of, words_of}
use Rattle.dstm_engine.proofs.Continuing.{doing_keeps, kept_live, kept_most, told_more}
use Rattle.dstm_engine.proofs.Left.{call_there, current_there, on_tied, performed, same_place, stays, told_there}
use Rattle.dstm_engine.proofs.Plain.{ArePlain, are_plain, is_plain}
use Rattle.dstm_engine.proofs.Rechecking.{EndsInSight, begins_pass, one_more_sight, one_self, recheck_sights, sighted_of}
use Rattle.dstm_engine.proofs.Steady.{held_same, olds_then, opened_same, same_generator, same_there, values_then}
use Rattle.dstm_engine.proofs.Tying.{EndsHere, live_there, state_then}
use Rattle.dstm_engine.specs.Attempts.{Sighted, completes_pass, sights}
use Rattle.dstm_engine.specs.Callers.{Called, held, is_live, is_opened, is_running, state}
use Rattle.dstm_engine.specs.Calls.{IsTold, Performs}
use Rattle.dstm_engine.specs.Mirror.{Tied, called, phase_by}
use Rattle.dstm_engine.specs.Transactions.{IsStaleOrKilled, Stays, tx_place}
use Rattle.dstm_engine.specs.declared.caller.Caller.TheInside.{Inside}

-- ---- why a recheck or a commit leaves its attempt

plain_at : (w : Work) (later before : List Event) (e : Event) → ArePlain w (later ++ e ∷ before) →
    is_plain w e.kind ≡ true
plain_at w [] before e h = h.0
plain_at w (x ∷ later) before e h = plain_at w later before e h.1

plain_after : (w : Work) (later before : List Event) → ArePlain w (later ++ before) → ArePlain w before
plain_after w [] before h = h
plain_after w (x ∷ later) before h = plain_after w later before h.1

no_miss : (w : Work) (e : Event) (k : Kind) → is_plain w k ≡ true → (n : ℕ) → cond (is_miss k e) (n + 1) n ≡ n
no_miss w e Install h n = absurd (cc)
no_miss w e Kill h n = absurd (cc)
no_miss w e k h n = refl

pub plain_misses : (w : Work) (es : List Event) → ArePlain w es → misses es ≡ 0
plain_misses w [] h = refl
plain_misses w (e ∷ es) h = no_miss w e e.kind h.0 (misses es) ∙ plain_misses w es h.1

never_pauses : (w : Work) (k : Kind) → is_plain w k ≡ true → k ≢ Pause
never_pauses w Pause h q = cc
never_pauses w k h q = cc

-- it found a read stale, or was aborted by another
pub plain_cause : (w : Work) (s : Shape) (l : LocalState) (es : List Event) (again : Again) → ArePlain w es →
    Causes again s l es → IsStaleOrKilled again
plain_cause w s l es (Stale o) h x = tt
plain_cause w s l es Killed h x = tt
plain_cause w s l es Lost h x = absurd (let z = plain_misses w es h in cc)
plain_cause w s l es Waited h x =
    absurd (never_pauses w x.pause.kind (plain_at w x.looks x.before x.pause
    (plain_after w x.later (x.looks ++ x.pause ∷ x.before) (subst (ArePlain w) x.whole h))) x.pauses)

pub stale_or_killed : {L : Type 0} {holds : L → List Val → Type 0} {c : Inside L} (v : Tied holds c)
    (live : c.live ≡ true) {new : Steps L} {again : Again}
    (u : EndsHere holds c (Doing Rechecking) new (Some again)) → IsStaleOrKilled again
stale_or_killed {c = c} v live {new = new} {again = again} u =
    plain_cause Rechecking c.terms.shape (state (called c)) u.events again
    (are_plain Rechecking c.terms.shape (state (called c)) c.steps.decider.generator u.events refl u.obeys)
    (again_has_its_cause Rechecking c.terms.shape c.number c.steps.decider.generator u.events (called c).log
    (view_of new.seat).log again (call_there v live u) (current_there v live u) (call_of u).1)

-- ---- a recheck that has not left its attempt

-- the recheck found every read as it was
pub record IsRechecked {L : Type 0} (holds : L → List Val → Type 0) (k n : Called L) : Type 0 where
  pub stays : Stays holds Rechecking k n
  pub kept : n ≡ record k { log = n.log; left = None }
  pub sight : Sighted n
  pub one_more : sights n ≡ sights k + 1
  pub same_held : (p : ℕ) → held n p ≡ held k p
  pub same_opened : (p : ℕ) → is_opened n p ≡ is_opened k p
  pub live : is_live n ≡ true
  pub place : (name : GName) (table : Home L) → tx_place name table n ≡ tx_place name table k

module _ {L : Type 0} {holds : L → List Val → Type 0} {c : Inside L} (v : Tied holds c) (live : c.live ≡ true)
    {new : Steps L} (u : EndsHere holds c (Doing Rechecking) new None)
    {last : Option ℕ} (number : ℕ) (is : now (called c).home new ≡ passed number (state (called c)))
    (taken : last ≡ Some number) where
  abbrev then : Inside L
  then = record c { steps = new; last_number = last }

  then_is : state (called then) ≡ passed number (state (called c))
  then_is = state_then c u ∙ is

  rechecked_runs : (state (called then)).phase ≡ Running
  rechecked_runs = ap (λ (l : LocalState). l.phase) then_is ∙ v.phase ∙ ap phase_by live

  steps : Performs holds (Doing Rechecking) (called c) (called then) None
  steps = performed v live u (called then) refl refl refl refl

  after_events : state_after c.terms.shape (state (called c)) u.events ≡ passed number (state (called c))
  after_events = sym (after_own c.terms.shape c.number (view_of new.seat).log (called c).log u.events u.own) ∙ then_is

  in_sight : EndsInSight c.terms.shape c.terms.start.value.items c.number (view_of new.seat).log
  in_sight =
      recheck_sights c.terms.shape c.terms.start.value.items c.number (view_of new.seat).log (called c).log
      c.steps.decider.generator u.events u.obeys (call_there v live u).call.done u.top u.own
      (ap (λ (l : LocalState). l.phase) after_events ∙ v.phase ∙ ap phase_by live)
      (ap (λ (l : LocalState). l.pass) after_events) (ap (λ (l : LocalState). l.checked) after_events)

  rechecked_sighted : Sighted (called then)
  rechecked_sighted = sighted_of (called then) in_sight

  -- the attempt has had one sight more
  rechecked_counts : sights (called then) ≡ sights (called c) + 1
  rechecked_counts =
      counts u.events u.obeys (call_there v live u).call.done u.own
      (λ out. let x = ap (λ (l : LocalState). l.phase) after_events in
      let y = v.phase in let z = ap phase_by live in cc)
      ∙ ap (λ i. count_of completes_pass c.terms.shape (called c).log c.number i + 1)
      (ap (λ (l : LocalState). l.begun) then_is)
    where
      counts : (es : List Event) →
          Obeys (Doing Rechecking) c.terms.shape (state (called c)) c.steps.decider.generator es →
          due_after (Doing Rechecking) c.terms.shape (state (called c)) c.steps.decider.generator es ≡ Done →
          events_of c.number (view_of new.seat).log ≡ es ++ events_of c.number (called c).log →
          (state_after c.terms.shape (state (called c)) es).phase ≢ Outside → sights (called then)
          ≡ count_of completes_pass c.terms.shape (called c).log c.number (state (called then)).begun + 1
      counts [] h done own inside =
          absurd (begins_pass c.terms.shape (state (called c)) c.steps.decider.generator (v.phase ∙ ap phase_by live) done)
      counts (e ∷ es) h done own inside =
          one_more_sight (called c).log u.seen.later e es in_sight u.seen.whole own
          (one_self c.terms.shape (state (called c)) c.steps.decider.generator e es h inside)

  told : IsTold (called then)
  told =
      told_more (told_there v live u) steps (current_there v live u).live
      (doing_keeps steps) refl (v.left live) (λ _. tt) (let most = kept_most (called then) in
      let same = ap (λ (rs : List Read). length rs) (same_there v live refl u).reads in
      let was = kept_live (called c) (sym (live_there v) ∙ live) in omega arith)

  pub rechecked_tied : Tied holds then
  rechecked_tied =
      let same = same_there v live refl u in
      on_tied v live u c.opened rechecked_runs (ap (λ (l : LocalState). l.committed) then_is ∙ v.uncommitted live)
      (ap (λ (l : LocalState). l.last_pass) then_is ∙ sym taken) (record {
        agreed = ap (λ (l : LocalState). l.stale) then_is ∙ (v.rest live).agreed;
        no_pass = ap (λ (l : LocalState). l.pass) then_is;
        not_put = (
          ap (λ (l : LocalState). l.written) then_is ∙ (v.rest live).not_put.0,
          ap (λ (l : LocalState). l.high_put) then_is ∙ (v.rest live).not_put.1,
        );
        recorded = same.recorded;
      }) told (λ _. rechecked_sighted) (ap words_of same.reads ∙ v.reads live) (values_then v live refl u)
      (subst (AreWrites c.opened.writes) (sym same.writes) (v.writes live)) (olds_then v live refl u) refl

  pub is_rechecked : IsRechecked holds (called c) (called then)
  is_rechecked = record {
    stays = stays steps (λ out. let x = rechecked_runs in cc);
    kept = rw (u.seat.0, same_generator v live refl u, v.left live) refl;
    sight = rechecked_sighted;
    one_more = rechecked_counts;
    same_held = held_same v live refl u;
    same_opened = opened_same v live refl u;
    live = ap is_running rechecked_runs;
    place = same_place v live u (ap (λ (l : LocalState). l.committed) then_is ∙ v.uncommitted live);
  }
