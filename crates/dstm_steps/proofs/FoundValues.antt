-- What is found of an object is the value of its version.
use Rattle.std.proofs.Common.{◌++◌, ◌<◌, ◌==◌, ◌∙◌, ◌≡◌, ◌⊎◌, List, Option, ap, arith, false, inl, inr, refl, subst, sym, true, is_some, ℕ}
use Rattle.std.proofs.lemmas.Bool.{cases_Bool, eqb-false}
use Rattle.dstm_core.specs.Events.{Event}
use Rattle.dstm_core.specs.Histories.{version_value}
use Rattle.dstm_core.specs.Runs.{Core, local}
use Rattle.dstm_core.specs.State.{LocalState, is_resolved, or_unresolved, or_zero, res, version}
use Rattle.dstm_core.specs.Traces.{IsPastOf}
use Rattle.dstm_core.specs.declared.shape.Shape.{Shape}
use Rattle.dstm_model.specs.Map.{value_at}
use Rattle.dstm_model.specs.declared.value.Val.{Val}
use Rattle.dstm_opacity.proofs.Resolved.{resolved_stays}
use Rattle.dstm_order.specs.Order.{Due}
use Rattle.dstm_order.specs.Tasks.{Task}
use Rattle.dstm_order.specs.declared.again.Again.{Again}
use Rattle.dstm_words.specs.Seats.{Home, view_of}
use Rattle.dstm_steps.proofs.Stepping.{here}
use Rattle.dstm_steps.specs.Finding.{IsFound}
use Rattle.dstm_steps.specs.FoundValues.{HasValue, found_value}
use Rattle.dstm_steps.specs.Under.{Began, InTask, now}
use Rattle.dstm_steps.specs.declared.resolving.Found.{Found}
use Rattle.dstm_steps.specs.declared.steps.Steps.{Steps}

-- what is found is told by the resolution alone
pub found_kept : {old new : LocalState} {found : Found} → new.resolution ≡ old.resolution → IsFound old found →
    IsFound new found
found_kept q is = record {
  there = ap is_some q ∙ is.there;
  word = ap (λ o. (or_unresolved o).word) q ∙ is.word;
  version_is = ap (λ o. version (or_unresolved o)) q ∙ is.version_is;
  resolved = ap (λ o. is_resolved (or_unresolved o)) q ∙ is.resolved;
  high_is = λ h. ap (λ o. (or_unresolved o).high) q ∙ is.high_is h;
  low_is = λ h. ap (λ o. (or_unresolved o).value) q ∙ is.low_is h;
}

value_found : (s : Shape) (start : List Val) (more es : List Event) (c object : ℕ) (found : Found) → Core s (more ++ es) →
    IsFound (local s es c) found → (res (local s es c)).object ≡ object →
    version_value s start (more ++ es) object found.version ≡ found_value found (value_at start object)
value_found s start more es c object found core is at = by (cases_Bool (found.version == 0))
  where
    by : (found.version == 0 ≡ true) ⊎ (found.version == 0 ≡ false) →
        version_value s start (more ++ es) object found.version ≡ found_value found (value_at start object)
    by (inl q) = rw q refl
    by (inr q) =
        let some : 0 < found.version = let z = eqb-false found.version 0 q in omega arith in
        let x = resolved_stays s start more es c found.low found.high core (is.high_is some) (is.low_is some) in
        let v : or_zero (version (res (local s es c))) ≡ found.version = ap or_zero is.version_is in
        sym (ap (λ n. version_value s start (more ++ es) object n) v)
        ∙ sym (ap (λ o. version_value s start (more ++ es) o (or_zero (version (res (local s es c))))) at)
        ∙ x ∙ rw q refl

-- it was found, and the log went on
pub has_value : {L : Type 0} {holds : L → List Val → Type 0} {home : Home L} {task other : Task} {b : Began}
    {old new : Steps L} {d f : Due} {a g : Option Again} {object : ℕ} {found : Found} →
    InTask holds home task b old d a → InTask holds home other b new f g →
    IsPastOf (view_of old.seat).log (view_of new.seat).log → IsFound (now home old) found →
    (res (now home old)).object ≡ object → HasValue home new object found
has_value {home = home} {b = b} {old = old} {object = object} {found = found} u w past is at =
    let s = home.terms.shape in
    subst (λ log. version_value s home.terms.start.value.items log object found.version
    ≡ found_value found (value_at home.terms.start.value.items object)) past.whole
    (value_found s home.terms.start.value.items past.later (view_of old.seat).log b.number object found
    (subst (Core s) (sym past.whole) w.run.run.core) (subst (λ l. IsFound l found) (here u) is)
    (ap (λ l. (res l).object) (sym (here u)) ∙ at))
