-- What became of an attempt stays so in a longer log, under DSTM.
use Rattle.std.proofs.Common.{◌≡◌, ◌∙◌, ◌+◌, ◌-◌, ◌*◌, ◌<◌, ◌≤◌, ◌==◌, ◌&&◌, ◌++◌, ◌∷◌, ℕ, List, [], true, sym, ap, subst, inl, inr, arith, is_some, eq-eqb, eqb-true}
use Rattle.std.specs.Prelude.{Option, Some}
use Rattle.std.proofs.lemmas.Bool.{and_parts, cond_both}
use Rattle.dstm_core.specs.Events.{Event}
use Rattle.dstm_core.specs.Rules.{AllowedAs}
use Rattle.dstm_core.specs.Runs.{Core, local}
use Rattle.dstm_core.specs.State.{LocalState, given, or_zero, own_attempt}
use Rattle.dstm_core.specs.Traces.{word}
use Rattle.dstm_core.specs.declared.event.Kind.{Kind}
use Rattle.dstm_core.specs.declared.event.Kind.TheVariants.{LookSelf}
use Rattle.dstm_core.specs.declared.state.Phase.TheVariants.{Running}
use Rattle.dstm_core.specs.Words.Word.{StatusWord}
use Rattle.dstm_core.specs.declared.shape.Shape.{Shape}
use Rattle.dstm_core.proofs.Base.{at, place}
use Rattle.dstm_core.proofs.Columns.{in_table}
use Rattle.dstm_core.proofs.Statuses.{finished_stays}
use Rattle.dstm_progress.specs.Disturbed.{Disturbed, count_of}
use Rattle.dstm_progress.proofs.Disturbing.{disturbed_stays}
use Rattle.dstm_progress.proofs.Ends.{callers_in_range, named}
use Rattle.dstm_progress.proofs.Sound.{sound}
use Rattle.dstm_words.specs.declared.terms.Terms.{Terms}
use Rattle.dstm_engine.specs.Attempts.{completes_pass, is_look_self, looks_at_object}
use Rattle.dstm_engine.specs.Callers.{Called, shape_of, state}
use Rattle.dstm_engine.proofs.BegunThere.{count_later}
use Rattle.dstm_tables.specs.Attempts.{HasCommitted, HasFewSights, WasAborted}
use Rattle.dstm_tables.specs.declared.tables.Caller.TheVariants.{Dstm}
use Rattle.dstm_tables.specs.Callers.{AtRest, round_of}
use Rattle.dstm_tables.specs.Tells.{WasSighted}
use Rattle.dstm_tables.specs.Tries.{WasNotWasted, GoesOn}
use Rattle.dstm_model.specs.declared.value.Val.{Val}

-- an attempt that has committed stays committed
pub committed_stays : (shape : Shape) (later before : List Event) (c i : ℕ) → Core shape (later ++ before) →
    c < shape.callers → 0 < i → i ≤ shape.attempts → HasCommitted shape before c i →
    HasCommitted shape (later ++ before) c i
committed_stays shape later before c i core caller some few committed =
    let a = c * shape.attempts + (i - 1) in
    let is : word shape before (StatusWord a) ≡ 4 = eqb-true (word shape before (StatusWord a)) 4 committed in
    let below : i - 1 < shape.attempts = omega arith in
    let stays = finished_stays shape later before a core
    (in_table c shape.attempts (i - 1) shape.callers caller below) (omega (arith, is)) in
    eq-eqb (word shape (later ++ before) (StatusWord a)) 4 (stays ∙ is)

-- an attempt that was aborted stays so
pub aborted_stays : (shape : Shape) (later before : List Event) (c i : ℕ) → Core shape (later ++ before) →
    c < shape.callers → 0 < i → i ≤ shape.attempts → WasAborted shape before c i → WasAborted shape (later ++ before) c i
aborted_stays shape later before c i core caller some few aborted =
    let is : word shape before (StatusWord (c * shape.attempts + (i - 1))) ≡ 5 = aborted in
    let below : i - 1 < shape.attempts = omega arith in
    finished_stays shape later before (c * shape.attempts + (i - 1)) core
    (in_table c shape.attempts (i - 1) shape.callers caller below) (omega (arith, is)) ∙ aborted

-- ---- an attempt whose status has ended

self_looks : (s : Shape) (l : LocalState) (e : Event) (k : Kind) → is_look_self k ≡ true → AllowedAs k s l e →
    (l.phase ≡ Running) × (e.place ≡ place s (StatusWord (own_attempt s l)))
self_looks s l e LookSelf look allowed = (allowed.2.0, allowed.0)
self_looks s l e k look allowed = absurd (cc)

module _ (s : Shape) (c i : ℕ) (inside : c < s.callers) (some : 0 < i) (most : i ≤ s.attempts) where
  -- it has no sight more, since it would have to run
  no_more_sights : (later before : List Event) → Core s (later ++ before) →
      4 ≤ word s before (StatusWord (c * s.attempts + (i - 1))) →
      count_of completes_pass s (later ++ before) c i ≤ count_of completes_pass s before c i
  no_more_sights [] before core ended = omega arith
  no_more_sights (e ∷ later) before core ended =
      let ih = no_more_sights later before core.0 ended in
      cond_both ((e.caller == c) && ((l.begun == i) && completes_pass s l e)) (was + 1) was
      (λ (n : ℕ). n ≤ count_of completes_pass s before c i) (λ passes. absurd (none passes)) (λ _. ih)
    where
      es : List Event
      es = later ++ before

      l : LocalState
      l = local s es c

      was : ℕ
      was = count_of completes_pass s es c i

      none : ((e.caller == c) && ((l.begun == i) && completes_pass s l e)) ≡ true → ⊥
      none passes =
          let own = and_parts (e.caller == c) ((l.begun == i) && completes_pass s l e) passes in
          let rest = and_parts (l.begun == i) (completes_pass s l e) own.1 in
          let here : e.caller ≡ c = eqb-true e.caller c own.0 in
          let begun : l.begun ≡ i = eqb-true l.begun i rest.0 in
          let look = and_parts (is_look_self e.kind) (e.found == given l.phase) rest.1 in
          let at_own = self_looks s (local s es e.caller) e e.kind look.0 core.1.allowed in
          let runs : l.phase ≡ Running = ap (λ (d : ℕ). (local s es d).phase) (sym here) ∙ at_own.0 in
          let found : e.found ≡ given l.phase = eqb-true e.found (given l.phase) look.1 in
          let status : word s es (StatusWord (own_attempt s l)) ≡ given l.phase =
          ap (λ (d : ℕ). word s es (StatusWord (own_attempt s (local s es d)))) (sym here)
          ∙ sym (core.1.linked ∙ ap (at es) at_own.1) ∙ found in
          let number : l.number ≡ Some c = named s es core.0 c ((sound s es core.0 c).number (omega (arith, some, begun))) in
          let by_number : word s es (StatusWord (c * s.attempts + (l.begun - 1))) ≡ 1 =
          ap (λ (o : Option ℕ). word s es (StatusWord (or_zero o * s.attempts + (l.begun - 1)))) (sym number)
          ∙ status ∙ ap given runs in
          let now : word s es (StatusWord (c * s.attempts + (i - 1))) ≡ 1 =
          ap (λ (n : ℕ). word s es (StatusWord (c * s.attempts + (n - 1)))) (sym begun) ∙ by_number in
          let below : i - 1 < s.attempts = omega (arith, some, most) in
          let stays = finished_stays s later before (c * s.attempts + (i - 1)) core.0
          (in_table c s.attempts (i - 1) s.callers inside below) ended in
          omega (arith, now, stays, ended)

  few_later : (more : ℕ) (later before : List Event) → Core s (later ++ before) →
      4 ≤ word s before (StatusWord (c * s.attempts + (i - 1))) → HasFewSights more s before c i →
      HasFewSights more s (later ++ before) c i
  few_later more later before core ended few =
      let sights = no_more_sights later before core ended in
      let looks = count_later looks_at_object s later before c i in
      omega (arith, few, sights, looks)

module _ {L : Type 0} {holds : L → List Val → Type 0} where
  -- ---- a caller at rest

  -- it is one of its table's callers, and has begun no more attempts than there are
  pub in_range : (k : Called L) → AtRest holds (Dstm k) →
      (k.number < (shape_of k).callers) × ((state k).begun ≤ (shape_of k).attempts)
  in_range k rest =
      let range = callers_in_range (shape_of k) k.log k.number rest.run.run.core in
      ((range.1 (ap is_some rest.enrolled)).0, range.0)

  -- ---- a caller that goes on

  module _ (k n : Called L) (i : ℕ) (on : GoesOn holds (Dstm k) (Dstm n)) (some : 0 < i) (few : i ≤ (shape_of k).attempts) where
    shape_is : shape_of n ≡ shape_of k
    shape_is = ap (λ (t : Terms L). t.shape) on.seen.0

    -- as this log tells, on the table as n has it
    there : (P : Shape → ℕ → Type 0) → P (shape_of k) k.number → P (shape_of n) n.number
    there P is = subst (λ (s : Shape). P s n.number) (sym shape_is) (subst (P (shape_of k)) (sym on.number) is)

    -- and as the later one does
    now : (P : List Event → Type 0) → P (on.seen.1.later ++ k.log) → P n.log
    now P is = subst P on.seen.1.whole is

    core : Core (shape_of n) (on.seen.1.later ++ k.log)
    core = subst (Core (shape_of n)) (sym on.seen.1.whole) on.rest.run.run.core

    caller : n.number < (shape_of n).callers
    caller = (in_range n on.rest).0

    most : i ≤ (shape_of n).attempts
    most = let same : (shape_of n).attempts ≡ (shape_of k).attempts = ap (λ (s : Shape). s.attempts) shape_is in omega arith

    sights : (more : ℕ) → 4 ≤ word (shape_of n) k.log (StatusWord (n.number * (shape_of n).attempts + (i - 1))) →
        HasFewSights more (shape_of k) k.log k.number i → HasFewSights more (shape_of n) n.log n.number i
    sights more ended was =
        now (λ (log : List Event). HasFewSights more (shape_of n) log n.number i)
        (few_later (shape_of n) n.number i caller some most more on.seen.1.later k.log core ended
        (there (λ s c. HasFewSights more s k.log c i) was))

    -- what became of attempt i stays so
    committed_on : HasCommitted (shape_of k) k.log k.number i × HasFewSights 0 (shape_of k) k.log k.number i →
        HasCommitted (shape_of n) n.log n.number i × HasFewSights 0 (shape_of n) n.log n.number i
    committed_on was =
        let committed : HasCommitted (shape_of n) k.log n.number i = there (λ s c. HasCommitted s k.log c i) was.0 in
        let is : word (shape_of n) k.log (StatusWord (n.number * (shape_of n).attempts + (i - 1))) ≡ 4 =
        eqb-true (word (shape_of n) k.log (StatusWord (n.number * (shape_of n).attempts + (i - 1)))) 4 committed in (
          now (λ (log : List Event). HasCommitted (shape_of n) log n.number i)
              (committed_stays (shape_of n) on.seen.1.later k.log n.number i core caller some most committed),
          sights 0 (omega (arith, is)) was.1,
        )

    aborted_on : (rechecks : ℕ) →
        WasAborted (shape_of k) k.log k.number i × HasFewSights rechecks (shape_of k) k.log k.number i →
        WasAborted (shape_of n) n.log n.number i × HasFewSights rechecks (shape_of n) n.log n.number i
    aborted_on rechecks was =
        let aborted : WasAborted (shape_of n) k.log n.number i = there (λ s c. WasAborted s k.log c i) was.0 in (
          now (λ (log : List Event). WasAborted (shape_of n) log n.number i)
              (aborted_stays (shape_of n) on.seen.1.later k.log n.number i core caller some most aborted),
          sights rechecks (let is : word (shape_of n) k.log (StatusWord (n.number * (shape_of n).attempts + (i - 1))) ≡ 5 = aborted in
              omega (arith, is)) was.1,
        )

    pub sighted_later : (rechecks : ℕ) → WasSighted rechecks (round_of (Dstm k)) k.number i →
        WasSighted rechecks (round_of (Dstm n)) n.number i
    sighted_later rechecks (inl was) = inl (committed_on was)
    sighted_later rechecks (inr was) = inr (aborted_on rechecks was)

    pub was_later : (rechecks : ℕ) → WasNotWasted rechecks (Dstm k) i → WasNotWasted rechecks (Dstm n) i
    was_later rechecks (inl was) = inl (committed_on was)
    was_later rechecks (inr was) =
        let ended = aborted_on rechecks (was.1, was.2) in
        inr (
          now (λ (log : List Event). Disturbed (shape_of n) log n.number i)
              (disturbed_stays (shape_of n) on.seen.1.later k.log n.number i (there (λ s c. Disturbed s k.log c i) was.0)),
          ended.0,
          ended.1,
        )
