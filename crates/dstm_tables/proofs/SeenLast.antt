-- What the newest sight of an attempt covers.
use Rattle.std.proofs.Common.{◌≡◌, ◌≢◌, ◌∙◌, ◌⊎◌, ◌<◌, ◌++◌, ◌∷◌, ◌==◌, ◌&&◌, ℕ, List, [], Bool, true, false, refl, sym, ap, subst, inl, inr, append_assoc}
use Rattle.std.proofs.lemmas.Bool.{cases_Bool, and_parts, eq-eqb, eqb-true, cond-true, cond-false}
use Rattle.dstm_model.specs.declared.value.Val.{Val}
use Rattle.dstm_core.specs.Events.{Event}
use Rattle.dstm_core.specs.Histories.{seen}
use Rattle.dstm_core.specs.Rules.{AllowedAs}
use Rattle.dstm_core.specs.Runs.{Core, local}
use Rattle.dstm_core.specs.State.{LocalState}
use Rattle.dstm_core.specs.Traces.{events_of}
use Rattle.dstm_core.specs.declared.event.Kind.{Kind}
use Rattle.dstm_core.specs.declared.event.Kind.TheVariants.{LookSelf}
use Rattle.dstm_core.specs.declared.shape.Shape.{Shape}
use Rattle.dstm_core.specs.declared.state.Phase.TheVariants.{Outside}
use Rattle.dstm_core.proofs.Pasts.{core_past}
use Rattle.dstm_opacity.proofs.Kept.{seen_stays}
use Rattle.dstm_engine.specs.Attempts.{completes_pass, is_look_self}
use Rattle.dstm_engine.proofs.Rechecking.{NoSelf}
use Rattle.dstm_tables.specs.Attempts.{seen_last}

-- ---- events that complete no pass

-- where no later event of the caller completes a pass, the newest sight is an earlier one
pub seen_last-skips : (shape : Shape) (start : List Val) (run : List Event) (c i : ℕ) (later before : List Event) →
    NoSelf (events_of c later) → seen_last shape start run (later ++ before) c i ≡ seen_last shape start run before c i
seen_last-skips shape start run c i [] before none = refl
seen_last-skips shape start run c i (e ∷ later) before none =
    by (cases_Bool (e.caller == c)) (seen_last-skips shape start run c i later before)
  where
    l : LocalState
    l = local shape (later ++ before) c

    here : e.caller == c ≡ true → is_look_self e.kind ≡ false → (l.begun == i ≡ true) ⊎ (l.begun == i ≡ false) →
        seen_last shape start run (later ++ before) c i ≡ seen_last shape start run before c i →
        seen_last shape start run (e ∷ (later ++ before)) c i ≡ seen_last shape start run before c i
    here own quiet (inl now) ih = rw (own, now, quiet) ih
    here own quiet (inr other) ih = rw (own, other) ih

    by : (e.caller == c ≡ true) ⊎ (e.caller == c ≡ false) →
        (NoSelf (events_of c later) →
        seen_last shape start run (later ++ before) c i ≡ seen_last shape start run before c i) →
        seen_last shape start run (e ∷ (later ++ before)) c i ≡ seen_last shape start run before c i
    by (inl own) ih =
        let all : NoSelf (e ∷ events_of c later) = rw own at none in
        here own all.0 (cases_Bool (l.begun == i)) (ih all.1)
    by (inr other) ih = rw other (ih (rw other at none))

-- a sight of the attempt that stands newest
pub seen_last-sight : (shape : Shape) (start : List Val) (run : List Event) (c i : ℕ) (e : Event) (before : List Event) →
    e.caller ≡ c → (local shape before c).begun ≡ i → completes_pass shape (local shape before c) e ≡ true →
    seen_last shape start run (e ∷ before) c i ≡ seen shape start run before c
seen_last-sight shape start run c i e before own now completes =
    rw (eq-eqb e.caller c own, eq-eqb (local shape before c).begun i now, completes) refl

-- ---- the same in a longer log

look_runs : (shape : Shape) (l : LocalState) (e : Event) (k : Kind) → is_look_self k ≡ true → AllowedAs k shape l e →
    l.phase ≢ Outside
look_runs shape l e LookSelf is may out = let run = may.2.0 in cc
look_runs shape l e k is may out = cc

-- what a sight covers has the same values in two runs
seen_agrees : (shape : Shape) (start : List Val) (c : ℕ) (more other : List Event) (e : Event) (before : List Event) →
    Core shape (more ++ e ∷ before) → Core shape (other ++ e ∷ before) → c < shape.callers → e.caller ≡ c →
    is_look_self e.kind ≡ true →
    seen shape start (more ++ e ∷ before) before c ≡ seen shape start (other ++ e ∷ before) before c
seen_agrees shape start c more other e before one two caller own look = there more one ∙ sym (there other two)
  where
    live : (local shape before c).phase ≢ Outside
    live =
        let core : Core shape (e ∷ before) = core_past shape more (e ∷ before) one in
        rw (← own) (look_runs shape (local shape before e.caller) e e.kind look core.1.allowed)

    there : (xs : List Event) → Core shape (xs ++ e ∷ before) →
        seen shape start (xs ++ e ∷ before) before c ≡ seen shape start before before c
    there xs core =
        let split : (xs ++ e ∷ []) ++ before ≡ xs ++ e ∷ before = append_assoc xs (e ∷ []) before in
        ap (λ (run : List Event). seen shape start run before c) (sym split)
        ∙ seen_stays shape start (xs ++ e ∷ []) before c (subst (Core shape) (sym split) core) caller live

-- what the newest sight covers has the same values in two runs
pub seen_last-agrees : (shape : Shape) (start : List Val) (c i : ℕ) (more other before : List Event) →
    Core shape (more ++ before) → Core shape (other ++ before) → c < shape.callers →
    seen_last shape start (more ++ before) before c i ≡ seen_last shape start (other ++ before) before c i
seen_last-agrees shape start c i more other [] one two caller = refl
seen_last-agrees shape start c i more other (e ∷ before) one two caller =
    by (cases_Bool test) (seen_last-agrees shape start c i (more ++ e ∷ []) (other ++ e ∷ []) before
    (rw (append_assoc more (e ∷ []) before) one) (rw (append_assoc other (e ∷ []) before) two) caller)
  where
    test : Bool
    test = (e.caller == c) && (((local shape before c).begun == i) && completes_pass shape (local shape before c) e)

    split : (xs : List Event) → (xs ++ e ∷ []) ++ before ≡ xs ++ e ∷ before
    split xs = append_assoc xs (e ∷ []) before

    by : (test ≡ true) ⊎ (test ≡ false) →
        seen_last shape start ((more ++ e ∷ []) ++ before) before c i
        ≡ seen_last shape start ((other ++ e ∷ []) ++ before) before c i →
        seen_last shape start (more ++ e ∷ before) (e ∷ before) c i
        ≡ seen_last shape start (other ++ e ∷ before) (e ∷ before) c i
    by (inl passes) ih =
        let outer = and_parts (e.caller == c) (((local shape before c).begun == i)
        && completes_pass shape (local shape before c) e) passes in
        let inner = and_parts ((local shape before c).begun == i) (completes_pass shape (local shape before c) e) outer.1 in
        let look = and_parts (is_look_self e.kind) _ inner.1 in
        cond-true test _ _ passes
        ∙ seen_agrees shape start c more other e before one two caller (eqb-true e.caller c outer.0) look.0
        ∙ sym (cond-true test _ _ passes)
    by (inr passes) ih =
        cond-false test _ _ passes
        ∙ ap (λ (run : List Event). seen_last shape start run before c i) (sym (split more))
        ∙ ih
        ∙ ap (λ (run : List Event). seen_last shape start run before c i) (split other)
        ∙ sym (cond-false test _ _ passes)
