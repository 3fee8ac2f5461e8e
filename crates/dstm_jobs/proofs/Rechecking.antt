-- A recheck that has not left its attempt ends with a sight of all that the attempt holds.
use Rattle.std.proofs.Common.{◌≡◌, ◌∙◌, ◌⊎◌, ◌++◌, ◌∷◌, ◌==◌, ◌||◌, ℕ, List, [], true, false, None, refl, sym, ap, subst, inl, inr, if◌then◌else◌}
use Rattle.std.proofs.lemmas.Bool.{and_from, cases_Bool, cond_both, eq-eqb, eqb-true}
use Rattle.dstm_machines.proofs.Own.{own_later}
use Rattle.dstm_model.specs.declared.value.Val.{Val}
use Rattle.dstm_core.specs.Events.{Event}
use Rattle.dstm_core.specs.Histories.{read_values, old_values}
use Rattle.dstm_core.specs.Rules.{after, is_outside}
use Rattle.dstm_core.specs.Runs.{local}
use Rattle.dstm_core.specs.State.{LocalState, given}
use Rattle.dstm_core.specs.Traces.{events_of}
use Rattle.dstm_core.specs.declared.event.Kind.{Kind}
use Rattle.dstm_core.specs.declared.event.Kind.TheVariants.{Check, LookNumber, LookSelf, Quit, Validating as ToValidating}
use Rattle.dstm_core.specs.declared.shape.Manager.{Manager}
use Rattle.dstm_core.specs.declared.shape.Shape.{Shape}
use Rattle.dstm_core.specs.declared.state.Phase.{Phase}
use Rattle.dstm_core.specs.declared.state.Phase.TheVariants.{Outside, Running}
use Rattle.dstm_core.specs.declared.state.Read.{Read}
use Rattle.dstm_core.specs.declared.state.Write.{Write}
use Rattle.dstm_progress.proofs.OwnEvents.{after_own}
use Rattle.dstm_order.proofs.Rows.{checks_by, pass_by}
use Rattle.dstm_order.specs.Calls.{Obeys, due_after, effort_of, state_after}
use Rattle.dstm_order.specs.Efforts.{Effort}
use Rattle.dstm_order.specs.Order.{Due, just, next}
use Rattle.dstm_order.specs.Order.Due.{Done}
use Rattle.dstm_order.specs.Tasks.Task.{Doing}
use Rattle.dstm_order.specs.Tasks.Work.{Rechecking}
use Rattle.dstm_order.specs.declared.TheConstants.{MAX_MISSED}
use Rattle.dstm_progress.proofs.Own.{IsNewest, newest_own}
use Rattle.dstm_words.specs.Seats.{Home, IsRunOf}
use Rattle.rand_pcg.specs.Lcg.{Lcg}
use Rattle.dstm_engine.proofs.Plain.{are_plain, is_plain}
use Rattle.dstm_engine.proofs.Rechecking.{NoSelf, begins_pass, sight_keeps}
use Rattle.dstm_engine.specs.Attempts.{completes_pass, is_look_self}
use Rattle.dstm_engine.specs.Callers.{Called, is_live, is_running, shape_of, start_of, state}
use Rattle.dstm_engine.specs.Calls.{Performs}
use Rattle.dstm_store.specs.declared.law.StoreLaw.{StoreLaw}
use Rattle.dstm_tables.specs.Attempts.{seen_last}
use Rattle.dstm_jobs.specs.Rechecks.{SeesAll}
use Rattle.dstm_jobs.specs.Law.{keeps}
use Rattle.dstm_tables.proofs.SeenLast.{seen_last-sight, seen_last-skips}

runs_if_live : (p : Phase) → is_running p ≡ true → p ≡ Running
runs_if_live Running live = refl
runs_if_live p live = absurd (cc)

-- an attempt that is live runs
pub runs : (k : Called StoreLaw) → is_live k ≡ true → (state k).phase ≡ Running
runs k live = runs_if_live (state k).phase live

-- ---- the newest event of a recheck

-- an event after which nothing is due, and the attempt runs, completes a pass
self_last : (s : Shape) (l : LocalState) (e : Event) (m : Manager) (f : Effort) (k : Kind) →
    is_plain Rechecking k ≡ true → (after k s l e).phase ≡ Running → next k e Rechecking m (after k s l e) f ≡ Done →
    (k ≡ LookSelf) × (e.found ≡ given l.phase)
self_last s l e m f LookSelf plain run done = (refl, found (cases_Bool (e.found == given l.phase)))
  where
    found : (e.found == given l.phase ≡ true) ⊎ (e.found == given l.phase ≡ false) → e.found ≡ given l.phase
    found (inl q) = eqb-true e.found (given l.phase) q
    found (inr q) = absurd (let z : Outside ≡ Running = rw q at run in cc)
self_last s l e m f LookNumber plain run done =
    absurd (pass_by (λ (d : Due). d ≡ Done → ⊥) (after LookNumber s l e) (λ z. cc) (λ z. cc) done)
self_last s l e m f Check plain run done =
    absurd (checks_by (λ (d : Due). d ≡ Done → ⊥) (after Check s l e).phase (after Check s l e) (λ z. cc) (λ z. cc)
    (λ z. cc) done)
self_last s l e m f ToValidating plain run done = absurd (by (cases_Bool (e.found == 1)))
  where
    by : (e.found == 1 ≡ true) ⊎ (e.found == 1 ≡ false) → ⊥
    by (inl q) = let z = rw q at run in cc
    by (inr q) = let z = rw q at run in cc
self_last s l e m f k plain run done = absurd (cc)

ends_with_self : (s : Shape) (l : LocalState) (g : Lcg) (e : Event) (es : List Event) →
    Obeys (Doing Rechecking) s l g (e ∷ es) → due_after (Doing Rechecking) s l g (e ∷ es) ≡ Done →
    (state_after s l (e ∷ es)).phase ≡ Running → (e.kind ≡ LookSelf) × (e.found ≡ given (state_after s l es).phase)
ends_with_self s l g e es obeys done run =
    cond_both (is_outside now.phase) Done (if now.stale || (f.missed == MAX_MISSED) then just Quit else due_next)
    (λ (d : Due). d ≡ Done → Ends) (λ out _. absurd (let in_run = ap is_outside run in cc)) (λ _.
    cond_both (now.stale || (f.missed == MAX_MISSED)) (just Quit) due_next
    (λ (d : Due). d ≡ Done → Ends) (λ _ z. absurd (cc)) (λ _ z.
    self_last s (state_after s l es) e s.manager f e.kind (are_plain Rechecking s l g (e ∷ es) refl obeys).0 run z)) done
  where
    now : LocalState
    now = state_after s l (e ∷ es)

    f : Effort
    f = effort_of s l g (e ∷ es)

    due_next : Due
    due_next = next e.kind e Rechecking s.manager now f

    Ends : Type 0
    Ends = (e.kind ≡ LookSelf) × (e.found ≡ given (state_after s l es).phase)

-- ---- a log whose caller's newest event completed a pass

quiet_later : (c : ℕ) (log later before rest : List Event) (e : Event) → log ≡ later ++ e ∷ before →
    e.caller ≡ c → events_of c before ≡ rest → events_of c log ≡ e ∷ rest → events_of c later ≡ []
quiet_later c log later before rest e whole own same all =
    let here : events_of c (e ∷ before) ≡ e ∷ rest =
    rw (eq-eqb e.caller c own) (ap (λ (xs : List Event). e ∷ xs) same) in
    own_later c (e ∷ before) log [] (record { later = later; whole = sym whole }) (all ∙ sym here)

module _ (s : Shape) (start : List Val) (c : ℕ) (log old : List Event) (g : Lcg) where
  -- the log of a caller that has just rechecked its attempt, which runs
  pub covers_all : (es : List Event) → Obeys (Doing Rechecking) s (local s old c) g es →
      due_after (Doing Rechecking) s (local s old c) g es ≡ Done → events_of c log ≡ es ++ events_of c old →
      (local s old c).phase ≡ Running → (local s log c).phase ≡ Running →
      seen_last s start log log c (local s log c).begun
      ≡ read_values s start log (local s log c).reads ++ old_values s start log (local s log c).writes
  covers_all [] obeys done own was live = absurd (begins_pass s (local s old c) g was done)
  covers_all (e ∷ es) obeys done own was live =
      ap (λ (l : List Event). seen_last s start log l c now.begun) n.run
      ∙ seen_last-skips s start log c now.begun n.later (e ∷ n.before) (subst NoSelf (sym none) tt)
      ∙ seen_last-sight s start log c now.begun e n.before n.own (sym begun) completes
      ∙ ap (λ (rs : List Read). read_values s start log rs ++ old_values s start log before.writes) (sym reads)
      ∙ ap (λ (ws : List Write). read_values s start log now.reads ++ old_values s start log ws) (sym writes)
    where
      now : LocalState
      now = local s log c

      n : IsNewest c log e (es ++ events_of c old)
      n = newest_own c log e (es ++ events_of c old) own

      before : LocalState
      before = local s n.before c

      before_is : before ≡ state_after s (local s old c) es
      before_is = after_own s c n.before old es n.rest

      now_is : now ≡ state_after s (local s old c) (e ∷ es)
      now_is = after_own s c log old (e ∷ es) own

      ends : (e.kind ≡ LookSelf) × (e.found ≡ given (state_after s (local s old c) es).phase)
      ends = ends_with_self s (local s old c) g e es obeys done (ap (λ (l : LocalState). l.phase) (sym now_is) ∙ live)

      keeps_it :
          ((after e.kind s (state_after s (local s old c) es) e).reads ≡ (state_after s (local s old c) es).reads)
          × ((after e.kind s (state_after s (local s old c) es) e).writes ≡ (state_after s (local s old c) es).writes)
          × ((after e.kind s (state_after s (local s old c) es) e).begun ≡ (state_after s (local s old c) es).begun)
      keeps_it = sight_keeps s (state_after s (local s old c) es) e e.kind ends.0

      reads : now.reads ≡ before.reads
      reads = ap (λ (l : LocalState). l.reads) now_is ∙ keeps_it.0 ∙ ap (λ (l : LocalState). l.reads) (sym before_is)

      writes : now.writes ≡ before.writes
      writes = ap (λ (l : LocalState). l.writes) now_is ∙ keeps_it.1 ∙ ap (λ (l : LocalState). l.writes) (sym before_is)

      begun : now.begun ≡ before.begun
      begun = ap (λ (l : LocalState). l.begun) now_is ∙ keeps_it.2 ∙ ap (λ (l : LocalState). l.begun) (sym before_is)

      none : events_of c n.later ≡ []
      none = quiet_later c log n.later n.before (es ++ events_of c old) e n.run n.own n.rest own

      completes : completes_pass s before e ≡ true
      completes =
          and_from (is_look_self e.kind) (e.found == given before.phase) (ap is_look_self ends.0)
          (eq-eqb e.found (given before.phase) (ends.1 ∙ ap (λ (l : LocalState). given l.phase) (sym before_is)))

-- so the newest sight of a caller that has rechecked covers all that it holds
pub recheck_sees : (k n : Called StoreLaw) → is_live k ≡ true → Performs keeps (Doing Rechecking) k n None →
    is_live n ≡ true → SeesAll n
recheck_sees k n was p live = record {
  run = subst (λ (h : Home StoreLaw). IsRunOf keeps h.terms n.log) (sym p.same.0) p.run;
  covers =
      covers_all (shape_of n) (start_of n) n.number n.log k.log k.generator p.events obeys done own before (runs n live);
}
  where
    -- as this table tells
    there : (P : Shape → ℕ → Type 0) → P (shape_of k) k.number → P (shape_of n) n.number
    there P is =
        subst (λ (h : Home StoreLaw). P h.terms.shape n.number) (sym p.same.0) (subst (P (shape_of k)) (sym p.same.1) is)

    obeys : Obeys (Doing Rechecking) (shape_of n) (local (shape_of n) k.log n.number) k.generator p.events
    obeys = there (λ s c. Obeys (Doing Rechecking) s (local s k.log c) k.generator p.events) p.call.obeys

    done : due_after (Doing Rechecking) (shape_of n) (local (shape_of n) k.log n.number) k.generator p.events ≡ Done
    done = there (λ s c. due_after (Doing Rechecking) s (local s k.log c) k.generator p.events ≡ Done) p.call.done

    own : events_of n.number n.log ≡ p.events ++ events_of n.number k.log
    own = there (λ s c. events_of c n.log ≡ p.events ++ events_of c k.log) p.own

    before : (local (shape_of n) k.log n.number).phase ≡ Running
    before = there (λ s c. (local s k.log c).phase ≡ Running) (runs k was)
