-- An attempt that was alone in a record is left by its commit only, and takes few steps.
use Rattle.std.proofs.Common.{◌≡◌, ◌≢◌, ◌⊎◌, ◌∙◌, ◌∷◌, ◌++◌, List, [], ℕ, true, refl, sym, subst, ap, inl, inr, arith, length, append_assoc}
use Rattle.rand_pcg.specs.Lcg.{Lcg}
use Rattle.dstm_records.proofs.Base.{AreMade, Call, Core, Greedy, Outside, Shape, TriesAgain, events_in, events_of, first, generator_by, state_by}
use Rattle.dstm_machines.proofs.Own.{own_event}
use Rattle.dstm_core.specs.Events.{Event}
use Rattle.dstm_core.specs.Runs.{local}
use Rattle.dstm_core.specs.State.{LocalState}
use Rattle.dstm_core.proofs.Pasts.{core_past}
use Rattle.dstm_order.specs.Calls.{IsCall, effort_of, state_after}
use Rattle.dstm_order.specs.Made.{ByCalls}
use Rattle.dstm_order.specs.Tasks.{Task, Work}
use Rattle.dstm_order.specs.Tasks.Task.{Doing}
use Rattle.dstm_progress.specs.Alone.{AreCalls, AreOf, IsAlone, IsUnmet, Made, all_events, generator_after}
use Rattle.dstm_progress.proofs.Bound.{alone_is_bounded}
use Rattle.dstm_progress.proofs.Calls.{alone_is_committed}
use Rattle.dstm_progress.proofs.Own.{state_both}
use Rattle.dstm_progress.proofs.OwnEvents.{whole_state}
use Rattle.dstm_progress.proofs.Prices.{prices_by_count}
use Rattle.dstm_records.specs.Alone.{IsBoundedAlone, WasAlone, as_calls, stepping, with_step}

-- ---- calls that took no step

module _ (s : Shape) (l : LocalState) (g : Lcg) where
  record Kept (all kept : List Made) : Type 0 where
    pub made : AreCalls s l g kept
    pub events : all_events kept ≡ all_events all
    pub generator : generator_after s l g kept ≡ generator_after s l g all

  call_kept : {w : Work} {es : List Event} {all kept : List Made} → Kept all kept →
      IsCall (Doing w) s (state_after s l (all_events all)) (generator_after s l g all) es →
      Kept (record { work = w; events = es } ∷ all) (with_step es (record { work = w; events = es }) kept)
  call_kept {es = []} k call = record { made = k.made; events = k.events; generator = k.generator }
  call_kept {w = w} {es = (e ∷ es)} {all = all} {kept = kept} k call = record {
    made = (
      k.made,
      subst (λ (xs : List Event). IsCall (Doing w) s (state_after s l xs) (generator_after s l g kept) (e ∷ es))
          (sym k.events)
          (subst (λ (h : Lcg). IsCall (Doing w) s (state_after s l (all_events all)) h (e ∷ es)) (sym k.generator) call),
    );
    events = ap (λ (xs : List Event). (e ∷ es) ++ xs) k.events;
    generator =
        ap (λ (xs : List Event). (effort_of s (state_after s l xs) (generator_after s l g kept) (e ∷ es)).generator) k.events
        ∙ ap (λ (h : Lcg). (effort_of s (state_after s l (all_events all)) h (e ∷ es)).generator) k.generator;
  }

  calls_kept : (on : List Made) → AreCalls s l g on → Kept on (stepping on)
  calls_kept [] made = record { made = tt; events = refl; generator = refl }
  calls_kept (x ∷ on) made = call_kept (calls_kept on made.0) made.1

-- ---- the calls on an attempt, among those of its caller

module _ (May : LocalState → Task → Type 0) (s : Shape) (g : Lcg) where
  made_before : (later cs : List Call) → AreMade s first g May (later ++ cs) → AreMade s first g May cs
  made_before [] cs made = made
  made_before (c ∷ later) cs made = made_before later cs made.0

  module _ (cs : List Call) where
    events_on : (on : List Made) → events_in (as_calls on ++ cs) ≡ all_events on ++ events_in cs
    events_on [] = refl
    events_on (x ∷ on) =
        ap (λ (es : List Event). x.events ++ es) (events_on on) ∙ sym (append_assoc x.events (all_events on) (events_in cs))

    state_on : (on : List Made) →
        state_by s first g (as_calls on ++ cs) ≡ state_after s (state_by s first g cs) (all_events on)
    state_on on = ap (state_after s first) (events_on on) ∙ state_both s first (all_events on) (events_in cs)

    generator_on : (on : List Made) →
        generator_by s first g (as_calls on ++ cs) ≡ generator_after s (state_by s first g cs) (generator_by s first g cs) on
    generator_on [] = refl
    generator_on (x ∷ on) =
        ap (λ (l : LocalState). (effort_of s l (generator_by s first g (as_calls on ++ cs)) x.events).generator) (state_on on)
        ∙ ap (λ (h : Lcg). (effort_of s (state_after s (state_by s first g cs) (all_events on)) h x.events).generator)
        (generator_on on)

    calls_on : (on : List Made) → AreMade s first g May (as_calls on ++ cs) →
        AreCalls s (state_by s first g cs) (generator_by s first g cs) on
    calls_on [] made = tt
    calls_on (x ∷ on) made = (
      calls_on on made.0,
      subst (λ (l : LocalState). IsCall (Doing x.work) s l
          (generator_after s (state_by s first g cs) (generator_by s first g cs) on) x.events) (state_on on)
          (subst (λ (h : Lcg). IsCall (Doing x.work) s (state_by s first g (as_calls on ++ cs)) h x.events) (generator_on on)
          made.2),
    )

-- ---- a table's only caller

-- it has made all events
only_made : (s : Shape) (c : ℕ) (es : List Event) → Core s es → s.callers ≡ 1 → c ≡ 0 → AreOf c es
only_made s c [] core one zero = tt
only_made s c (e ∷ es) core one zero =
    (let below = core.1.caller in omega (arith, below, one, zero), only_made s c es core.0 one zero)

-- ---- in a record

module _ {s : Shape} {g : Lcg} {log : List Event} {c : ℕ} (core : Core s log) (by : ByCalls TriesAgain s g log c)
    {on : List Made} (was : WasAlone s log c by.calls on) where
  abbrev calls : List Call
  calls = was.beginning ∷ was.earlier

  begun_by : local s (was.begin ∷ was.before) was.begin.caller ≡ state_by s first g calls
  begun_by =
      whole_state s was.begin.caller (was.begin ∷ was.before)
      ∙ ap (state_after s first) (own_event was.begin was.before
      ∙ ap (λ (es : List Event). was.begin ∷ es) (ap (λ (d : ℕ). events_of d was.before) was.caller ∙ was.own)
      ∙ ap (λ (es : List Event). es ++ events_in was.earlier) (sym was.newest))

  made : AreCalls s (state_by s first g calls) (generator_by s first g calls) on
  made =
      calls_on TriesAgain s g calls on (made_before TriesAgain s g was.later (as_calls on ++ calls)
      (subst (AreMade s first g TriesAgain) was.are by.made))

  kept : Kept s (state_by s first g calls) (generator_by s first g calls) on (stepping on)
  kept = calls_kept s (state_by s first g calls) (generator_by s first g calls) on made

  here : all_events (stepping on) ++ was.begin ∷ was.before ≡ all_events on ++ was.begin ∷ was.before
  here = ap (λ (es : List Event). es ++ was.begin ∷ was.before) kept.events

  is_alone : IsAlone s (generator_by s first g calls) (stepping on) was.begin was.before
  is_alone = record {
    core =
        subst (Core s) (sym here)
        (core_past s was.since (all_events on ++ was.begin ∷ was.before) (subst (Core s) was.log_is core));
    begins = was.begins;
    alone = subst (λ (d : ℕ). AreOf d (all_events (stepping on))) (sym was.caller)
        (subst (AreOf c) (sym kept.events) was.alone);
    made =
        subst (λ (l : LocalState). AreCalls s l (generator_by s first g calls) (stepping on)) (sym begun_by) kept.made;
  }

  core_there : Core s (was.begin ∷ was.before)
  core_there =
      core_past s (all_events on) (was.begin ∷ was.before)
      (core_past s was.since (all_events on ++ was.begin ∷ was.before) (subst (Core s) was.log_is core))

  -- it meets no attempt to which it would give way
  unmet : (s.manager ≢ Greedy) ⊎ (s.callers ≡ 1) → IsUnmet s was.begin.caller was.before
  unmet (inl waits) = inl waits
  unmet (inr one) =
      inr (only_made s was.begin.caller was.before core_there.0 one
      (let below = core_there.1.caller in omega (arith, below, one)))

  pub bounded_alone : (s.manager ≢ Greedy) ⊎ (s.callers ≡ 1) →
      IsBoundedAlone s (all_events on ++ was.begin ∷ was.before) c on
  bounded_alone way = record {
    left = subst (λ (es : List Event). (local s es c).phase ≡ Outside → (local s es c).committed ≡ true) here
        (subst (λ (d : ℕ). (local s (all_events (stepping on) ++ was.begin ∷ was.before) d).phase ≡ Outside →
        (local s (all_events (stepping on) ++ was.begin ∷ was.before) d).committed ≡ true) was.caller
        (alone_is_committed s (generator_by s first g calls) (stepping on) was.begin was.before is_alone (unmet way)));
    steps =
        let few = alone_is_bounded s (generator_by s first g calls) (stepping on) was.begin was.before is_alone
        (unmet way) in
        let counts = prices_by_count s.manager (stepping on) in
        let same = ap length kept.events in
        omega (arith, few, counts, same);
  }
