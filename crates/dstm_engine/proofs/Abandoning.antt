-- An attempt that is given up, and what is known of it.
use Rattle.std.proofs.Common.{◌||◌, ◌+◌, ◌==◌, ◌∙◌, ◌∷◌, ◌<◌, ◌≡◌, Bool, List, None, Option, Some, [], ap, arith, cond, false, inl, inr, refl, subst, true, ℕ}
use Rattle.std.specs.Prelude.{IfSome, count_by, if◌then◌else◌, is_some}
use Rattle.std.proofs.lemmas.Bool.{cases_Bool}
use Rattle.std.proofs.lemmas.List.Elements.{All-cons, All-nil}
use Rattle.std.proofs.lemmas.List.Sums.{sum_by-cons}
use Rattle.dstm_engine.proofs.Base.{Again, Done, Event, IsDue, IsRunOf, Kind, Lcg, Leaving, LocalState, Obeys, Quit, Shape, Val, begin_count, events_of, is_begin, is_outside, just, state_after}
use Rattle.dstm_machines.proofs.Attempts.{NoneBegins, begun_after}
use Rattle.dstm_core.proofs.Counted.{begins_are_counted}
use Rattle.dstm_core.proofs.Static.{running, static}
use Rattle.dstm_progress.proofs.Bound.{alone_is_bounded}
use Rattle.dstm_progress.proofs.Prices.{prices_by_count}
use Rattle.dstm_engine.proofs.Alone.{Begun, begun_at, bounded}
use Rattle.dstm_engine.specs.Mirror.{Tied, called}
use Rattle.dstm_engine.specs.declared.caller.Caller.TheInside.{Inside}
use Rattle.dstm_engine.specs.Callers.{Called, begun_log, is_live, is_running, shape_of, state}
use Rattle.dstm_engine.specs.Calls.{IsUnderWay, Performs}
use Rattle.dstm_engine.specs.Outcomes.{IsEnded, IsLeft, Promises}

-- what is known of a caller whose attempt was left is known whatever its next attempt begins
pub fresh_ended : {L : Type 0} (k : Called L) (left : Option Again) →
    IfSome left (λ again. IsLeft k again × Promises k again) →
    IfSome left (λ again. IsLeft (record k { fresh = true }) again × Promises (record k { fresh = true }) again)
fresh_ended k None h = tt
fresh_ended k (Some again) h = (
  record {
    over = h.0.over;
    aborted = h.0.aborted;
    disturbed = h.0.disturbed;
    callers = h.0.callers;
    other = h.0.other;
  },
  record {
    alone = λ a. h.1.alone (record { own = a.own; manager = a.manager });
    oldest = λ b. h.1.oldest (record { greedy = b.greedy; oldest = b.oldest });
    all_write = λ b w. h.1.all_write (record { greedy = b.greedy; oldest = b.oldest }) w;
  },
)

-- ---- the last Begin in a longer log

quit_begins : (k : Kind) → k ≡ Quit → is_begin k ≡ false
quit_begins Quit h = refl
quit_begins k h = absurd (cc)

quit_due : (b : Bool) (e : Event) → IsDue (if b then Done else just Quit) e → is_begin e.kind ≡ false
quit_due true e h = absurd h
quit_due false e h = quit_begins e.kind h.0

leaving_begins : (s : Shape) (l : LocalState) (gen : Lcg) (es : List Event) → Obeys Leaving s l gen es → NoneBegins is_begin es
leaving_begins s l gen [] h = All-nil (λ (e : Event). is_begin e.kind ≡ false)
leaving_begins s l gen (e ∷ es) h =
    All-cons (λ (e : Event). is_begin e.kind ≡ false) e es (quit_due (is_outside (state_after s l es).phase) e h.1)
    (leaving_begins s l gen es h.0)

pub leaving_keeps : {L : Type 0} {holds : L → List Val → Type 0} {k n : Called L} → Performs holds Leaving k n None →
    begun_log n.number n.log ≡ begun_log k.number k.log
leaving_keeps {k = k} {n = n} p =
    ap (λ c. begun_log c n.log) p.same.1
    ∙ begun_after is_begin k.number k.log n.log p.events p.seen p.own
    (leaving_begins (shape_of k) (state k) k.generator p.events p.call.obeys)

-- ---- what is known of an attempt that ends

none_more : (b : Bool) (n m : ℕ) → m ≡ cond {A = ℕ} b 1 0 + n → b ≡ false → n ≡ 0 → m ≡ 0
none_more true n m h q z = absurd (cc)
none_more false n m h q z = omega arith

none_begun : (c : ℕ) (log : List Event) → begun_log c log ≡ [] → begin_count c log ≡ 0
none_begun c [] h = refl
none_begun c (e ∷ log) h =
    let ih = none_begun c log in
    elim (cases_Bool (e.caller == c)) [
      | inl q ↦ elim (cases_Bool (is_begin e.kind)) [
        | inl b ↦ let z : e ∷ log ≡ [] = rw (q, b) at h in absurd (cc)
        | inr b ↦
            let z : begun_log c log ≡ [] = rw (q, b) at h in
            none_more (is_begin e.kind) (begin_count c log) (begin_count c (e ∷ log))
            (ap (λ xs. count_by (λ (x : Event). is_begin x.kind) xs) (own q)
            ∙ sum_by-cons (λ (x : Event). cond (is_begin x.kind) 1 0) e (events_of c log)) b (ih z)
      ]
      | inr q ↦ let z : begun_log c log ≡ [] = rw q at h in rw q (ih z)
    ]
  where
    own : (e.caller == c ≡ true) → events_of c (e ∷ log) ≡ e ∷ events_of c log
    own q = rw q refl

-- a caller that has begun an attempt has its Begin in its log
pub has_begin : {L : Type 0} (k : Called L) → 0 < (state k).begun → Begun k.number k.log
has_begin k some = begun_at k.number k.log (λ none.
    let z = none_begun k.number k.log none in
    let q = begins_are_counted (shape_of k) k.log k.number in omega arith)

pub begun_of : {L : Type 0} {holds : L → List Val → Type 0} (k : Called L) → IsRunOf holds k.home.terms k.log →
    is_live k ≡ true → 0 < (state k).begun
begun_of k run live =
    (running (shape_of k) k.number (state k) (static (shape_of k) k.log run.run.core k.number)
    (λ out. let z = ap is_running out in cc)).1

pub ended_is_known : {L : Type 0} {holds : L → List Val → Type 0} {c : Inside L} → Tied holds c →
    IsUnderWay (called c) → IsEnded (called c)
ended_is_known {c = c} v way = elim (cases_Bool (is_live (called c))) [
  | inl live ↦ record {
    told = v.told (inl live);
    left = v.ended;
    bounded = λ none.
        bounded (v.told (inl live)) v.run.run.core
        (has_begin (called c) (begun_of (called c) v.run live)) alone_is_bounded prices_by_count;
  }
  | inr dead ↦
      let left : is_some c.left ≡ true = subst (λ b. b || is_some c.left ≡ true) dead way in
      record {
        told = v.told (inr (inl left));
        left = v.ended;
        bounded = λ none. absurd (cc);
      }
]

-- an attempt that was given an answer was under way
pub under_way : {L : Type 0} (k : Called L) (again : Again) → k.left ≡ Some again → IsUnderWay k
under_way k again left = by (is_live k) (ap is_some left)
  where
    by : (b : Bool) → is_some k.left ≡ true → b || is_some k.left ≡ true
    by true h = refl
    by false h = h
