-- What an Again shows of other callers.
use Rattle.std.proofs.Common.{◌++◌, ◌∙◌, ◌∷◌, ◌≡◌, ◌≢◌, ◌⊎◌, List, Some, [], ap, arith, inl, inr, refl, subst, sym, ℕ}
use Rattle.dstm_core.proofs.Base.{Core, Event, LocalState, cases_eq, cases_lt, eq-eqb, events_of, local}
use Rattle.dstm_order.proofs.Base.{Begin, Lcg, Shape, effort_of, newest_of, state_after}
use Rattle.dstm_order.specs.declared.again.Again.{Again}
use Rattle.dstm_order.specs.declared.again.Again.TheVariants.{Waited}
use Rattle.dstm_progress.specs.Alone.{AreOf, Made, all_events, last_answer}
use Rattle.dstm_progress.specs.Oldest.{AreMade}
use Rattle.dstm_progress.proofs.Left.{alone_answers}
use Rattle.dstm_progress.specs.Disturbed.{HasOther}
use Rattle.dstm_progress.specs.Calls.{EveryAgainHasAnother, EveryOtherAgainShowsAnother}
use Rattle.dstm_progress.proofs.Causes.{has_left}
use Rattle.std.proofs.Common.{◌<◌, ◌≤◌}
use Rattle.dstm_core.proofs.Pasts.{core_past}
use Rattle.dstm_progress.specs.Alone.{generator_after}
use Rattle.dstm_progress.proofs.Calls.{alone_is_committed, are_of_split, local_after}
use Rattle.dstm_progress.proofs.Own.{state_both}
use Rattle.dstm_progress.proofs.Causes.{has_left}

-- all events are the caller's own, or one is not
pub own_or_other : (c : ℕ) (es : List Event) → AreOf c es ⊎ HasOther c es
own_or_other c [] = inl tt
own_or_other c (e ∷ es) = go (cases_eq e.caller c) (own_or_other c es)
  where
    go : (e.caller ≡ c) ⊎ (e.caller ≡ c → ⊥) → AreOf c es ⊎ HasOther c es → AreOf c (e ∷ es) ⊎ HasOther c (e ∷ es)
    go (inr n) x = inr (record { later = []; event = e; before = es; is = refl; other = n })
    go (inl q) (inl x) = inl (q, x)
    go (inl q) (inr x) = inr (record {
      later = e ∷ x.later;
      event = x.event;
      before = x.before;
      is = ap (λ xs. e ∷ xs) x.is;
      other = x.other;
    })

pub all_own : (c : ℕ) (es : List Event) → AreOf c es → events_of c es ≡ es
all_own c [] h = refl
all_own c (e ∷ es) h = rw (eq-eqb e.caller c h.0) (ap (λ xs. e ∷ xs) (all_own c es h.1))

pub shows_another : EveryOtherAgainShowsAnother
shows_another = λ s g call calls later begin before again core k h q n.
    go s g call calls later begin before again core k h q n (own_or_other begin.caller later)
  where
    go : (s : Shape) (g : Lcg) (call : Made) (calls : List Made) (later : List Event) (begin : Event)
        (before : List Event) (again : Again) → Core s (later ++ begin ∷ before) → begin.kind ≡ Begin →
        AreMade s g call calls later begin before →
        last_answer s (local s (begin ∷ before) begin.caller) g call calls ≡ Some again → again ≢ Waited →
        AreOf begin.caller later ⊎ HasOther begin.caller later → HasOther begin.caller later
    go s g call calls later begin before again core k h q n (inr x) = x
    go s g call calls later begin before again core k h q n (inl own) =
        let all : later ≡ all_events (call ∷ calls) = sym (all_own begin.caller later own) ∙ h.own in
        absurd (n (alone_answers s g call calls begin before again
        (record {
          core = subst (λ xs. Core s (xs ++ begin ∷ before)) all core;
          begins = k;
          alone = subst (AreOf begin.caller) all own;
          made = h.made;
        }) h.live q))

-- on a table for one caller all events are its own
pub one_alone : (s : Shape) (es : List Event) (c : ℕ) → Core s es → c < s.callers → s.callers ≤ 1 → AreOf c es
one_alone s [] c core b few = tt
one_alone s (e ∷ es) c core b few =
    (let x = core.1.caller in omega arith, one_alone s es c core.0 b few)

pub has_another : EveryAgainHasAnother
has_another = λ s g call calls later begin before again core k h q.
    go s g call calls later begin before again core k h q (cases_lt 1 s.callers)
  where
    go : (s : Shape) (g : Lcg) (call : Made) (calls : List Made) (later : List Event) (begin : Event)
        (before : List Event) (again : Again) → Core s (later ++ begin ∷ before) → begin.kind ≡ Begin →
        AreMade s g call calls later begin before →
        last_answer s (local s (begin ∷ before) begin.caller) g call calls ≡ Some again →
        (1 < s.callers) ⊎ (s.callers ≤ 1) → 1 < s.callers
    go s g call calls later begin before again core k h q (inl x) = x
    go s g call calls later begin before again core k h q (inr few) =
        let c = begin.caller in
        let first = local s (begin ∷ before) c in
        let l = state_after s first (all_events calls) in
        let began = core_past s later (begin ∷ before) core in
        let b = began.1.caller in
        let parts = are_of_split c later (begin ∷ before) (one_alone s (later ++ begin ∷ before) c core b few) in
        let all : later ≡ all_events (call ∷ calls) = sym (all_own c later parts.0) ∙ h.own in
        let own = subst (AreOf c) all parts.0 in
        let left = has_left call.work (newest_of call.events) (state_after s l call.events)
        (effort_of s l (generator_after s first g calls) call.events) again q in
        let now = local_after s c (all_events (call ∷ calls)) (begin ∷ before) own
        ∙ state_both s first call.events (all_events calls) in
        let committed = alone_is_committed s g (call ∷ calls) begin before (record {
          core = subst (λ xs. Core s (xs ++ begin ∷ before)) all core;
          begins = k;
          alone = own;
          made = h.made;
        }) (inr parts.1.1) (ap (λ (l : LocalState). l.phase) now ∙ left.0) in
        let un = ap (λ (l : LocalState). l.committed) now ∙ left.1 in absurd (cc)
