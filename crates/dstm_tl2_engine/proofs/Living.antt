-- The calls of a caller add up, from its enrolment on.
use Rattle.std.proofs.Common.{Bool, true, ◌≡◌, ◌∙◌, ◌++◌, ◌∷◌, List, [], None, ap, append_assoc, append-nil, arith, refl, subst, sym}
use Rattle.std.specs.Prelude.{Contains, Option}
use Rattle.dstm_tl2_engine.proofs.Base.{AreMade, Beginning, ByCalls, CanLock, Doing, Enrolling, Event, IsOnAttempt, LocalState, LocksItsWrites, Returning, Table, Task, TlAgain, Val, events_in, events_of, first, local, state_after, state_by, tl2}
use Rattle.dstm_machines.proofs.Own.{after_own, none_before_only, whole_state}
use Rattle.dstm_tl2_order.proofs.AddingUp.{events_both, made_both, made_where}
use Rattle.dstm_tl2_order.proofs.Disturbing.{own_stands}
use Rattle.dstm_tl2_engine.specs.Callers.{TlCalled, begun_log, state, table_of_caller}
use Rattle.dstm_tl2_engine.specs.Calls.{IsTold, Performs}
use Rattle.dstm_tl2_engine.specs.Lives.{ALifeIsCalls, AttemptsAreCalls, CallsAddUp}
use Rattle.dstm_tl2_engine.specs.Makes.{Makes}
use Rattle.dstm_tl2_engine.specs.Outcomes.{begun_state}
use Rattle.dstm_tl2_engine.specs.Tables.{unnumbered}
use Rattle.dstm_tl2_engine.proofs.Told.{own_parts}

module _ {L : Type 0} (May : LocalState → Task → Type 0) where
  pub makes_none : (k : TlCalled L) → Makes May k k
  makes_none k = record { calls = []; own = refl; made = tt; same = (refl, refl) }

  pub makes_one : (holds : L → List Val → Type 0) (task : Task) (k n : TlCalled L) (again : Option TlAgain) →
      May (state k) task → Performs holds task k n again → Makes May k n
  makes_one holds task k n again may p = record {
    calls = record { task = task; events = p.events } ∷ [];
    own =
        ap (λ c. events_of c n.log) p.same.1 ∙ p.own
        ∙ ap (λ es. es ++ events_of k.number k.log) (sym (append-nil p.events));
    made = (tt, may, p.call);
    same = p.same;
  }

  -- the state that they leave
  makes_state : {k n : TlCalled L} (m : Makes May k n) → state n ≡ state_by (table_of_caller k) (state k) m.calls
  makes_state {k = k} {n = n} m =
      ap (λ h. state (record n { home = h })) m.same.0
      ∙ ap (local (table_of_caller k) n.log) m.same.1
      ∙ after_own tl2 (table_of_caller k) k.number n.log k.log (events_in m.calls)
      (ap (λ c. events_of c n.log) (sym m.same.1) ∙ m.own)

  pub makes_both : (k n m : TlCalled L) → Makes May k n → Makes May n m → Makes May k m
  makes_both k n m a b =
      let t = table_of_caller k in
      let table : table_of_caller n ≡ t = ap (λ h. table_of_caller (record k { home = h })) a.same.0 in
      let made : AreMade t (state_by t (state k) a.calls) May b.calls =
      rw (← makes_state a, ← table) b.made in
      record {
        calls = b.calls ++ a.calls;
        own =
            b.own ∙ ap (λ es. events_in b.calls ++ es) a.own
            ∙ sym (append_assoc (events_in b.calls) (events_in a.calls) (events_of k.number k.log))
            ∙ ap (λ es. es ++ events_of k.number k.log) (sym (events_both b.calls a.calls));
        made = made_both t (state k) May b.calls a.calls a.made made;
        same = (b.same.0 ∙ a.same.0, b.same.1 ∙ a.same.1);
      }

  pub makes_all : (k n : TlCalled L) (log : List Event) → events_of k.number k.log ≡ [] → Makes May k n →
      events_of n.number log ≡ events_of n.number n.log → ByCalls May (table_of_caller k) log n.number
  makes_all k n log none m known = record {
    calls = m.calls;
    own = known ∙ m.own ∙ ap (λ es. events_in m.calls ++ es) none ∙ append-nil (events_in m.calls);
    made =
        subst (λ (l : LocalState). AreMade (table_of_caller k) l May m.calls)
        (whole_state tl2 (table_of_caller k) k.number k.log ∙ ap (state_after (table_of_caller k) first) none) m.made;
  }

pub calls_add_up : {L : Type 0} (holds : L → List Val → Type 0) (may : (state : LocalState) (task : Task) → Bool) →
    CallsAddUp L holds may
calls_add_up holds may =
    let May : LocalState → Task → Type 0 = λ state task. may state task ≡ true in record {
      none = makes_none May;
      one = makes_one May holds;
      both = makes_both May;
      all = makes_all May;
    }

-- ---- the calls of an attempt

on_attempt : (l : LocalState) (task : Task) → IsOnAttempt l task → CanLock task l
on_attempt l (Doing work) can = can
on_attempt l Enrolling can = absurd can
on_attempt l Beginning can = absurd can
on_attempt l Returning can = absurd can

-- from its begin on
pub told_makes : {L : Type 0} (began n : TlCalled L) → n.home ≡ began.home → n.number ≡ began.number →
    began.log ≡ begun_log n.number n.log → IsTold n → Makes LocksItsWrites began n
told_makes began n home number there told =
    let table : table_of_caller n ≡ table_of_caller began =
    ap (λ h. table_of_caller (record began { home = h })) home in
    let state_is : begun_state n ≡ state began = ap (λ (t : Table). local t (begun_log n.number n.log) n.number) table
    ∙ ap (λ es. local (table_of_caller began) es n.number) (sym there)
    ∙ ap (local (table_of_caller began) began.log) number in
    record {
      calls = told.calls;
      own = own_parts n ∙ rw (told.own, ← there, number) refl;
      made =
          made_where (table_of_caller began) (state began) IsOnAttempt LocksItsWrites on_attempt told.calls
          (subst (λ (l : LocalState). AreMade (table_of_caller began) l IsOnAttempt told.calls) state_is
          (subst (λ (t : Table). AreMade t (begun_state n) IsOnAttempt told.calls) table told.are_calls));
      same = (home, number);
    }

pub attempts_are_calls : {L : Type 0} (holds : L → List Val → Type 0) → AttemptsAreCalls L holds
attempts_are_calls holds k n again a =
    makes_both LocksItsWrites k a.began n (makes_one LocksItsWrites holds Beginning k a.began None tt a.begins)
    (told_makes a.began n (a.same.0 ∙ sym a.begins.same.0) (a.same.1 ∙ sym a.begins.same.1) a.at_begin a.told)

-- ---- the life of a caller

pub a_life_is_calls : {L : Type 0} (holds : L → List Val → Type 0) → ALifeIsCalls L holds
a_life_is_calls holds f g later last k n log enrols makes retires known =
    let u : TlCalled _ = record (unnumbered f) { number = k.number } in
    let back = retires.returned in
    let born : Makes LocksItsWrites u k = makes_one LocksItsWrites holds Enrolling u k None tt enrols.steps in
    let gone : Makes LocksItsWrites n back = makes_one LocksItsWrites holds Returning n back None tt retires.steps in
    let life : Makes LocksItsWrites u back =
    makes_both LocksItsWrites u n back (makes_both LocksItsWrites u k n born makes) gone in
    let whole : events_of k.number (enrols.enrol ∷ (enrols.log.0 ++ f.view.log)) ≡ enrols.enrol ∷ [] =
    ap (events_of k.number) (sym enrols.log.1) ∙ enrols.own in
    let none : events_of u.number u.log ≡ [] = none_before_only k.number enrols.log.0 f.view.log enrols.enrol
    (own_stands k.number k.log [] enrols.enrol [] enrols.own).own whole in
    let one_of : Contains (back.number ∷ []) back.number = (0, omega arith, refl) in
    let there : events_of back.number log ≡ events_of back.number back.log =
    ap (λ c. events_of c log) retires.steps.same.1 ∙ known
    ∙ ap (λ c. events_of c last.view.log) (sym retires.steps.same.1) ∙ retires.joined.other_kept back.number one_of in
    let by : ByCalls LocksItsWrites (table_of_caller u) log back.number =
    makes_all LocksItsWrites u back log none life there in
    let table : table_of_caller u ≡ table_of_caller n =
    ap (λ h. table_of_caller (record n { home = h })) (sym (makes.same.0 ∙ born.same.0)) in
    subst (ByCalls LocksItsWrites (table_of_caller n) log) retires.steps.same.1
    (subst (λ (t : Table). ByCalls LocksItsWrites t log back.number) table by)
