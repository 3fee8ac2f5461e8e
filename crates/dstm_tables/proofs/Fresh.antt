-- A caller that was just made has begun no attempt, and has committed none.
use Rattle.std.proofs.Common.{◌≡◌, ◌⊎◌, ◌==◌, ◌&&◌, ℕ, true, false, List, [], ◌∷◌, ◌++◌, None, Some, is_some, refl, ap, sym, subst, ◌∙◌, inl, inr, if◌then◌else◌, append-nil}
use Rattle.std.proofs.lemmas.Bool.{cases_Bool, cond_both, eqb-true, eq-eqb}
use Rattle.std.proofs.lemmas.List.Elements.{All-cons, All-nil}
use Rattle.std.proofs.lemmas.Option.{none-some}
use Rattle.dstm_machines.specs.declared.event.Event as trace
use Rattle.dstm_core.specs.Events.{Event}
use Rattle.dstm_core.specs.declared.event.Kind.{Kind}
use Rattle.dstm_core.specs.declared.event.Kind.TheVariants.{Enrol, Install}
use Rattle.dstm_core.specs.declared.shape.Shape.{Shape}
use Rattle.dstm_core.specs.Rules.{after}
use Rattle.dstm_core.specs.Runs.{Core, core, local}
use Rattle.dstm_core.specs.State.{LocalState, first}
use Rattle.dstm_machines.specs.Traces.{events_of}
use Rattle.dstm_machines.proofs.Own.{none_before_only}
use Rattle.dstm_machines.proofs.Runs.{local-events_of}
use Rattle.dstm_opacity.specs.Committed.{has_committed, is_commit}
use Rattle.dstm_opacity.proofs.Stays.{call_adds_none}
use Rattle.dstm_progress.proofs.Ends.{callers_in_range}
use Rattle.rand_pcg.specs.Lcg.{Lcg}
use Rattle.dstm_order.specs.Calls.{IsCall}
use Rattle.dstm_order.specs.Tasks.Task.{Enrolling}
use Rattle.dstm_managers.specs.Choices.{started}
use Rattle.dstm_words.specs.Seats.{Home, IsRunOf}
use Rattle.dstm_engine.specs.Attempts.{done}
use Rattle.dstm_engine.specs.Callers.{Called, is_running, shape_of, start_of, state}
use Rattle.dstm_engine.specs.Makes.{count_let_go, let_go}
use Rattle.dstm_progress.specs.Lives.{TriesByShape, lets_go}
use Rattle.dstm_engine.specs.Tables.{Enrols, Founding, unnumbered}
use Rattle.dstm_engine.proofs.AddingUp.{makes_one}
use Rattle.dstm_order.specs.Retries.{is_new}
use Rattle.dstm_tables.specs.declared.tables.Caller.TheVariants.{Dstm}
use Rattle.dstm_tables.specs.Callers.{AtRest, CameByCalls}
use Rattle.dstm_tables.proofs.Calls.{from_first}
use Rattle.dstm_tables.proofs.Unused.{stays}
use Rattle.dstm_model.specs.declared.value.Val.{Val}

-- an event that stands first among a caller's is that caller's
pub head_own : {K : Type 0} (c : ℕ) (log : List (trace.Event K)) (event : trace.Event K)
    (more : List (trace.Event K)) → events_of c log ≡ event ∷ more → event.caller ≡ c
head_own c [] event more is = absurd (cc)
head_own c (e ∷ log) event more is =
    elim (cases_Bool (e.caller == c)) [
      | inl own ↦
          let here : e ∷ events_of c log ≡ event ∷ more = rw own at is in
          let same : e ≡ event = cc in ap (λ x. x.caller) (sym same) ∙ eqb-true e.caller c own
      | inr other ↦ head_own c log event more (rw other at is)
    ]

-- the only event of the call by which a caller is made
enrols_by : (shape : Shape) (state : LocalState) (generator : Lcg) (event : Event) → state ≡ first →
    IsCall Enrolling shape state generator (event ∷ []) → event.kind ≡ Enrol
enrols_by shape state generator event new call =
    let there : IsCall Enrolling shape first generator (event ∷ []) = subst (λ (l : LocalState). IsCall Enrolling shape l generator (event ∷ [])) new call in
    there.obeys.1.0

enrols_none : (event : Event) (kind : Kind) → kind ≡ Enrol → is_commit kind ≡ false
enrols_none event Enrol is = refl
enrols_none event kind is = ap is_commit is

-- an event that gives a number to a caller that has none has installed nothing
abbrev NoneInstalled : ℕ → LocalState → Type 0
NoneInstalled n state = state.number ≡ Some n → state.installed ≡ 0

installs_none : (kind : Kind) (shape : Shape) (event : Event) (n : ℕ) → NoneInstalled n (after kind shape first event)
installs_none Install shape event n =
    cond_both (event.found == event.expected) _ _ (NoneInstalled n) (λ _ is. absurd (none-some n is)) (λ _ is. refl)
installs_none kind shape event n = λ is. (stays shape first event kind (λ q. cc)).0

module _ {L : Type 0} {holds : L → List Val → Type 0} where
  module _ (f g : Founding L) (seed : ℕ) (k : Called L) (enrols : Enrols holds f g seed k) where
    at_home : k.home ≡ f.home
    at_home = ap (λ (x : Called L). x.home) enrols.caller

    own : enrols.enrol.caller ≡ k.number
    own = head_own k.number k.log enrols.enrol [] enrols.own

    none_there : events_of k.number f.view.log ≡ []
    none_there = none_before_only k.number enrols.log.0 f.view.log enrols.enrol own
        (subst (λ (l : List Event). events_of k.number l ≡ enrols.enrol ∷ []) enrols.log.1 enrols.own)

    only : enrols.steps.events ≡ enrols.enrol ∷ []
    only = sym (append-nil enrols.steps.events) ∙ ap (λ (es : List Event). enrols.steps.events ++ es) (sym none_there)
        ∙ sym enrols.steps.own ∙ enrols.own

    kind : enrols.enrol.kind ≡ Enrol
    kind =
        let shape = f.home.terms.shape in
        enrols_by shape (local shape f.view.log k.number) _ enrols.enrol
        (sym (local-events_of core shape f.view.log k.number) ∙ ap (λ (es : List Event). local shape es k.number) none_there)
        (subst (IsCall Enrolling shape (local shape f.view.log k.number) _) only enrols.steps.call)

    -- the state of a caller that has enrolled
    now : state k ≡ record first { number = Some enrols.enrol.found }
    now =
        let shape = shape_of k in
        sym (local-events_of core shape k.log k.number)
        ∙ ap (λ (es : List Event). local shape es k.number) enrols.own
        ∙ rw (eq-eqb enrols.enrol.caller k.number own) (ap (λ (x : Kind). after x shape first enrols.enrol) kind)

    run : IsRunOf holds k.home.terms k.log
    run = subst (λ (h : Home L). IsRunOf holds h.terms k.log) (sym at_home) enrols.steps.run

    pub fresh_rest : AtRest holds (Dstm k)
    fresh_rest = record {
      run = run;
      enrolled = ((callers_in_range (shape_of k) k.log k.number run.run.core).1 (ap (λ (l : LocalState). is_some l.number) now)).1;
      over = ap (λ (l : LocalState). is_running l.phase) now;
      right = ap (λ (x : Called L). x.fresh) enrols.caller ∙ sym (ap is_new now);
    }

    pub fresh_begun : (state k).begun ≡ 0
    fresh_begun = ap (λ (l : LocalState). l.begun) now

    pub fresh_done : done k ≡ []
    fresh_done =
        let shape = shape_of k in
        let whole : k.log ++ [] ≡ k.log = append-nil k.log in
        rw (← whole) (call_adds_none shape (start_of k) k.log [] k.number (enrols.enrol ∷ [])
        (subst (Core shape) (sym whole) run.run.core) (ap (events_of k.number) whole ∙ enrols.own)
        (All-cons (λ (e : Event). has_committed e ≡ false) enrols.enrol []
        (ap (λ b. b && (enrols.enrol.found == 3)) (enrols_none enrols.enrol enrols.enrol.kind kind))
        (All-nil (λ (e : Event). has_committed e ≡ false))))

    pub fresh_let_go : let_go k ≡ 0
    fresh_let_go = ap count_let_go enrols.own ∙ ap (λ (x : Kind). if lets_go x then 1 else 0) kind

    pub fresh_home : k.home ≡ f.home
    fresh_home = at_home

    pub fresh_generator : k.generator ≡ (started f.home.terms.shape.manager seed).generator
    fresh_generator = ap (λ (x : Called L). x.generator) enrols.caller

    pub fresh_came : CameByCalls seed (Dstm k)
    fresh_came =
        let u : Called L = record (unnumbered f seed) { number = k.number } in
        from_first seed u k none_there refl
        (makes_one (TriesByShape (shape_of u)) holds Enrolling u k None (record { again = tt; opens = λ all. tt }) enrols.steps)

  -- a caller that was just made has installed nothing
  pub fresh_installed : (f g : Founding L) (seed : ℕ) (k : Called L) → Enrols holds f g seed k →
      (state k).installed ≡ 0
  fresh_installed f g seed k enrols = by (cases_Bool (enrols.enrol.caller == k.number))
    where
      shape : Shape
      shape = shape_of k

      now : local shape (enrols.enrol ∷ []) k.number ≡ state k
      now = ap (λ (es : List Event). local shape es k.number) (sym enrols.own) ∙ local-events_of core shape k.log k.number

      by : (enrols.enrol.caller == k.number ≡ true) ⊎ (enrols.enrol.caller == k.number ≡ false) → (state k).installed ≡ 0
      by (inl own) =
          let made : local shape (enrols.enrol ∷ []) k.number ≡ after enrols.enrol.kind shape first enrols.enrol = rw own refl in
          let is : state k ≡ after enrols.enrol.kind shape first enrols.enrol = sym now ∙ made in
          ap (λ (l : LocalState). l.installed) is
          ∙ installs_none enrols.enrol.kind shape enrols.enrol k.number
          (ap (λ (l : LocalState). l.number) (sym is) ∙ (fresh_rest f g seed k enrols).enrolled)
      by (inr other) =
          let made : local shape (enrols.enrol ∷ []) k.number ≡ first = rw other refl in
          ap (λ (l : LocalState). l.installed) (sym now ∙ made)
