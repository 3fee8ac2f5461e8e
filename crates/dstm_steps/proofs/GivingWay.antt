-- The exchanges of the own status by which an attempt begins and ends to give way.
use Rattle.std.proofs.Common.{◌≡◌, ◌≢◌, ℕ, ◌<◌, ◌∙◌, ◌==◌, List, Option, None, Some, false, refl, sym, subst, eq-eqb, ne_eqb, if◌then◌else◌}
use Rattle.std.proofs.lemmas.Bool.{cond_both}
use Rattle.dstm_core.specs.Events.{Event}
use Rattle.dstm_core.specs.declared.state.Phase.{Phase}
use Rattle.dstm_core.specs.Rules.{after, is_outside, leave}
use Rattle.dstm_model.specs.declared.value.Val.{Val}
use Rattle.dstm_words.specs.Seats.{Home}
use Rattle.dstm_order.specs.Calls.{has_quit}
use Rattle.dstm_order.specs.declared.again.Again.{Again}
use Rattle.dstm_order.specs.declared.again.Again.TheVariants.{Killed}
use Rattle.dstm_order.specs.Efforts.{effort_after}
use Rattle.dstm_order.specs.Order.{Due, next}
use Rattle.dstm_order.specs.Order.Due.{Done}
use Rattle.dstm_order.specs.declared.TheConstants.{MAX_MISSED}
use Rattle.dstm_steps.specs.declared.steps.Steps.{Steps}
use Rattle.dstm_steps.specs.Under.{After, Began, IsMirror, Under, Went, effort_by, now, work_of}
use Rattle.dstm_steps.proofs.Stepping.{after_rest, under_is, went_on, went_out}

-- The event leaves the attempt in this phase, with so many turns left, if it found this code. If not, the
-- attempt is over.
module _ {L : Type 0} {holds : L → List Val → Type 0} {home : Home L} {b : Began} {old new : Steps L} {d : Due}
    {a : Option Again} {e : Event} {left : ℕ} (code : ℕ) (phase : Phase) (u : Under holds home b old d a)
    (went : Went holds home b old new e) (rest : new ≡ record old { seat = new.seat })
    (state : after e.kind home.terms.shape (now home old) e
    ≡ (if e.found == code
    then record (now home old) { phase = phase; pass = None; checked = 0 }
    else leave (now home old)))
    (effort : effort_after e.kind home.terms.shape.manager (now home old) (effort_by old) e
    ≡ record (effort_by old) { left = left }) where
  changed : After home old (record new { left = left }) e
  changed =
      let m = u.mirror in
      after_rest rest refl (subst (IsMirror home.terms.shape old) (sym state) (cond_both (e.found == code) _ _
      (IsMirror home.terms.shape old) (λ _. record { own = m.own; installed = m.installed; rank = m.rank })
      (λ _. record { own = m.own; installed = m.installed; rank = m.rank }))) (effort ∙ rw rest refl)

  pub stays_live : e.found ≡ code → is_outside phase ≡ false → (now home old).stale ≡ false → old.missed < MAX_MISSED →
      Under holds home b (record new { left = left })
      (next e.kind e (work_of b.task) home.terms.shape.manager (now home new) (effort_by (record new { left = left })))
      None
  stays_live is live agreed tries =
      went_on went refl changed (rw (went.state, state, eq-eqb _ _ is) live)
      (rw (went.state, state, eq-eqb _ _ is) agreed) (rw rest tries)

  pub is_killed : e.found ≢ code → (now home old).committed ≡ false → has_quit (Some e) ≡ false →
      Under holds home b (record new { left = left }) Done (Some Killed)
  is_killed other uncommitted no_quit =
      under_is (went_out went refl changed (rw (went.state, state, ne_eqb _ _ other) refl)) refl
      (rw (went.state, state, ne_eqb _ _ other, uncommitted, no_quit) refl)
