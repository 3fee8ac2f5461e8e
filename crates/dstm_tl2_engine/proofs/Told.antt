-- The calls of an attempt, from call to call.
use Rattle.std.proofs.Common.{◌≡◌, ◌≤◌, ◌<◌, ◌∙◌, ◌++◌, ◌∷◌, List, [], None, Option, ap, arith, inr, length, refl, subst, sym}
use Rattle.std.proofs.lemmas.List.Elements.{All-cons}
use Rattle.dstm_tl2_engine.proofs.Base.{AreMade, AtRest, Call, CanLock, Doing, Event, IsCall, IsOnAttempt, LocalState, OpenedAs, Table, TlAgain, Val, Work, answer_of, events_of, is_sample, local, newest_answer, state_after, state_by, tl2}
use Rattle.dstm_machines.proofs.Attempts.{log_parts}
use Rattle.dstm_machines.proofs.Own.{own_append, own_state}
use Rattle.dstm_tl2_engine.proofs.AfterCall.{began_then, own_since_then, table_then}
use Rattle.dstm_tl2_engine.specs.Callers.{TlCalled, begun_log, since_sample, state, table_of_caller}
use Rattle.dstm_tl2_engine.specs.Calls.{IsMade, IsTold, Performs}
use Rattle.dstm_tl2_engine.specs.Mirror.{called}
use Rattle.dstm_tl2_engine.specs.Outcomes.{begun_state, own_since}
use Rattle.dstm_tl2_engine.specs.Transactions.{HasLocked}
use Rattle.dstm_tl2_engine.specs.declared.caller.TlCaller.TheInside.{Inside}

-- an attempt at rest was made, and so was one that has locked
pub rest_made : {L : Type 0} (k : TlCalled L) → AtRest (state k) → IsMade k
rest_made k rest = (rest.begun, inr (inr rest.sound.1))

pub locked_made : {L : Type 0} {k : TlCalled L} → HasLocked k → IsMade k
locked_made locked = (locked.begun, inr (inr locked.sound.1))

-- one at rest locks no more than it writes
pub rest_can : {l : LocalState} → AtRest l → (n : _) → l.locked ≤ n
rest_can rest n = let none = rest.untold.1 in omega (arith, none)

-- what is open is no part of it
pub told_opened : {L : Type 0} (c : Inside L) (opened : OpenedAs) → IsTold (called c) →
    IsTold (called (record c { opened = opened }))
told_opened c opened t =
    record { calls = t.calls; own = t.own; are_calls = t.are_calls; each = t.each; left = t.left }

-- its own events are those since its begin, behind the earlier ones
pub own_parts : {L : Type 0} (k : TlCalled L) →
    events_of k.number k.log ≡ own_since k ++ events_of k.number (begun_log k.number k.log)
own_parts k =
    ap (events_of k.number) (log_parts is_sample k.number k.log)
    ∙ own_append k.number (since_sample k.number k.log) (begun_log k.number k.log)

-- the calls make its state
pub told_state : {L : Type 0} {k : TlCalled L} (t : IsTold k) →
    state k ≡ state_by (table_of_caller k) (begun_state k) t.calls
told_state {k = k} t =
    ap (λ xs. local (table_of_caller k) xs k.number) (log_parts is_sample k.number k.log)
    ∙ own_state tl2 (table_of_caller k) k.number (since_sample k.number k.log) (begun_log k.number k.log)
    ∙ ap (state_after (table_of_caller k) (begun_state k)) t.own

-- A CALL MORE
module _ {L : Type 0} {holds : L → List Val → Type 0} {k n : TlCalled L} {work : Work} {again : Option TlAgain}
    (p : Performs holds (Doing work) k n again) (t : IsTold k) (can : CanLock (Doing work) (state k))
    (live : again ≡ None → k.left ≡ None) (left : n.left ≡ again) where
  began : begun_state n ≡ begun_state k
  began = began_then p refl

  own_then : own_since n ≡ p.events ++ own_since k
  own_then = own_since_then p refl

  -- what is said of them from the attempt's begin on
  made_then : (cs : List Call) → AreMade (table_of_caller k) (begun_state k) IsOnAttempt cs →
      AreMade (table_of_caller n) (begun_state n) IsOnAttempt cs
  made_then cs made =
      subst (λ (x : Table). AreMade x (begun_state n) IsOnAttempt cs) (sym (table_then p))
      (subst (λ (l : LocalState). AreMade (table_of_caller k) l IsOnAttempt cs) (sym began) made)

  answer_then : (cs : List Call) → newest_answer (table_of_caller k) (begun_state k) cs
      ≡ newest_answer (table_of_caller n) (begun_state n) cs
  answer_then cs = rw (← began, ← table_then p) refl

  told_with : (es : List Event) → p.events ≡ es → IsTold n
  told_with [] is =
      let none : again ≡ None = p.answers ∙ ap (answer_of (table_of_caller k) (state k)) is in record {
        calls = t.calls;
        own = own_then ∙ ap (λ xs. xs ++ own_since k) is ∙ t.own;
        are_calls = made_then t.calls t.are_calls;
        each = t.each;
        left = left ∙ none ∙ sym (live none) ∙ t.left ∙ answer_then t.calls;
      }
  told_with (e ∷ es) is = record {
    calls = record { task = Doing work; events = p.events } ∷ t.calls;
    own = own_then ∙ ap (λ xs. p.events ++ xs) t.own;
    are_calls =
        made_then (record { task = Doing work; events = p.events } ∷ t.calls) (
          t.are_calls,
          subst (CanLock (Doing work)) (told_state t) can,
          subst (λ (l : LocalState). IsCall (Doing work) (table_of_caller k) l p.events) (told_state t) p.call,
        );
    each =
        All-cons (λ (call : Call). 0 < length call.events) (record { task = Doing work; events = p.events }) t.calls
        (let size : length p.events ≡ length (e ∷ es) = ap length is in omega (arith, size)) t.each;
    left =
        left ∙ p.answers
        ∙ ap (λ (l : LocalState). answer_of (table_of_caller k) l p.events) (told_state t)
        ∙ answer_then (record { task = Doing work; events = p.events } ∷ t.calls);
  }

  pub told_more : IsTold n
  told_more = told_with p.events refl
