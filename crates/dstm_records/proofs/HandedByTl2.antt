-- What attempts of TL2 were handed.
use Rattle.std.proofs.Common.{◌≡◌, ◌==◌, ◌⊎◌, ◌∙◌, ◌∷◌, ◌++◌, ◌<◌, List, ℕ, true, false, refl, sym, subst, ap, inl, inr, arith, length, append_assoc, reverse}
use Rattle.dstm_records.proofs.Base.{Entry, StoodTogether, Tl2Handed, Val, cases_Bool, cond_both, eqb-true}
use Rattle.dstm_machines.proofs.Own.{local_mine, local_others}
use Rattle.dstm_machines.proofs.Runs.{run_past}
use Rattle.dstm_tl2.specs.Committed.{committed_in}
use Rattle.dstm_tl2.specs.Histories.{LawfulRun, history_of, prefix_at, read_values, sample_place}
use Rattle.dstm_tl2.specs.Rules.{Event, after}
use Rattle.dstm_tl2.specs.Runs.{local, tl2}
use Rattle.dstm_tl2.specs.State.{LocalState, look_of}
use Rattle.dstm_tl2.specs.Words.{Table}
use Rattle.dstm_tl2.specs.declared.kind.Kind.{Kind}
use Rattle.dstm_tl2.specs.declared.kind.Kind.TheVariants.{Sample, LookAgain, Lock}
use Rattle.dstm_tl2.proofs.Closing.{sample_agrees}
use Rattle.dstm_tl2.proofs.Looks.{sample_at}
use Rattle.dstm_tl2.proofs.Orders.{place_prefix}
use Rattle.dstm_tl2.proofs.Standing.{entries_are_history}
use Rattle.dstm_records.proofs.Together.{stood_together}

-- ---- reads come with looks that find their lock words again

abbrev FindsAgain : Kind → LocalState → Event → Type 0
FindsAgain k l e = (k ≡ LookAgain) × (e.found ≡ (look_of l).word)

module _ (t : Table) (l : LocalState) (e : Event) where
  -- where an event records a read
  abbrev Grows : Kind → LocalState → Type 0
  Grows k m = length l.reads < length m.reads → FindsAgain k l e

  grows : (k : Kind) → Grows k (after k t l e)
  grows Sample more = absurd (omega (arith, more))
  grows LookAgain more =
      cond_both (e.found == (look_of l).word) _ _ (Grows LookAgain)
      (λ same _. (refl, eqb-true e.found (look_of l).word same)) (λ _ more. absurd (omega (arith, more))) more
  grows (Lock writes) more =
      cond_both (e.found == e.expected) _ _ (Grows (Lock writes))
      (λ _ more. absurd (omega (arith, more))) (λ _ more. absurd (omega (arith, more))) more
  grows k more = absurd (omega (arith, more))

looks_again : (t : Table) (es : List Event) (e : Event) (c : ℕ) →
    length (local t es c).reads < length (local t (e ∷ es) c).reads → FindsAgain e.kind (local t es c) e
looks_again t es e c more = by (cases_Bool (e.caller == c))
  where
    by : (e.caller == c ≡ true) ⊎ (e.caller == c ≡ false) → FindsAgain e.kind (local t es c) e
    by (inl mine) =
        grows t (local t es c) e e.kind
        (subst (λ (m : LocalState). length (local t es c).reads < length m.reads) (local_mine tl2 t es e c mine) more)
    by (inr other) =
        absurd (let same = ap (λ (m : LocalState). length m.reads) (local_others tl2 t es e c other) in omega (arith, more, same))

-- ---- what was read stood together

module _ (t : Table) (holds : List Val → Type 0) (c : ℕ) where
  abbrev Stood : (log before : List Event) → Type 0
  Stood log before = StoodTogether t.start (reverse (committed_in t log)) (read_values (local t before c).reads)

  stood_at : (later before : List Event) → LawfulRun t holds (later ++ before) → Stood (later ++ before) before
  stood_at later before run =
      let sampled = (sample_at t before c (run_past tl2 t later before run.run)).past in
      let place = sample_place c before in
      let whole : (later ++ sampled.later) ++ place ≡ later ++ before =
      append_assoc later sampled.later place ∙ ap (λ (es : List Event). later ++ es) sampled.whole in
      let known = subst (λ (es : List Event). (rest : List Entry) × (history_of t es ≡ prefix_at t es place ++ rest)) whole
      (place_prefix t (later ++ sampled.later) place) in
      stood_together t.start (committed_in t (later ++ before))
      (prefix_at t (later ++ before) place) known.0 (read_values (local t before c).reads)
      (entries_are_history t (later ++ before)) known.1 (sample_agrees t holds later before c run).values

pub tl2_handed : {t : Table} {holds : List Val → Type 0} {log : List Event} (c : ℕ) → LawfulRun t holds log → Tl2Handed t log c
tl2_handed {t = t} {holds = holds} c run = record {
  validated = λ later before event is more. looks_again t before event c more;
  stood = λ later before is.
      subst (λ (es : List Event). Stood t holds c es before) (sym is)
      (stood_at t holds c later before (subst (LawfulRun t holds) is run));
}
