-- A table with one caller: what a pass of it has seen, since which none of its attempts has committed, are the values that
-- its transactions have left.
use Rattle.std.proofs.Common.{◌≡◌, ◌≢◌, ◌⊎◌, inl, inr, ℕ, ◌+◌, ◌-◌, ◌*◌, ◌≤◌, Bool, true, false, List, [], ◌∷◌, ◌++◌, Option, Some, None, ap, sym, subst, refl, ◌∙◌, arith, append_assoc, reverse, map, true≢false, ◌&&◌, ◌==◌, is_some}
use Rattle.std.proofs.lemmas.Bool.{cases_Bool, eqb-true}
use Rattle.dstm_opacity.specs.Committed.{Committed, by_caller, committed, committed_in, done_by}
use Rattle.dstm_opacity.proofs.Stays.{entries_are_history}
use Rattle.dstm_opacity.proofs.Told.{each_is_told}
use Rattle.dstm_progress.specs.Disturbed.{count_of}
use Rattle.dstm_engine.specs.Attempts.{SightAt, completes_pass, is_look_self}
use Rattle.dstm_engine.proofs.Rechecking.{in_later}
use Rattle.dstm_core.specs.declared.event.Kind.{Kind}
use Rattle.dstm_core.specs.declared.event.Kind.TheVariants.{LookSelf}
use Rattle.dstm_model.specs.declared.value.Val.{Val}
use Rattle.dstm_model.specs.Map.{Agrees, Entry, state_after}
use Rattle.dstm_core.specs.declared.shape.Shape.{Shape}
use Rattle.dstm_core.specs.declared.state.Phase.TheVariants.{Outside, Running, Validating}
use Rattle.dstm_core.specs.Events.{Event}
use Rattle.dstm_core.specs.Histories.{CoreRun, IsSight, entry_of, history, history_of, is_draw, pass_place, prefix_at, seen, will_of}
use Rattle.dstm_core.specs.Runs.{Core, local}
use Rattle.dstm_core.specs.State.{given, or_zero, own_attempt}
use Rattle.dstm_core.specs.Traces.{IsPastOf}
use Rattle.dstm_core.proofs.Pasts.{core_past}
use Rattle.dstm_core.proofs.Static.{running, static}
use Rattle.dstm_opacity.proofs.Begins.{begun_later, pass_begun}
use Rattle.dstm_opacity.proofs.Draws.{draw_may}
use Rattle.dstm_opacity.proofs.Numbers.{pass_past}
use Rattle.dstm_opacity.proofs.Opacity.{sight_is_seen}
use Rattle.dstm_opacity.proofs.LastPass.{look_self_may}
use Rattle.dstm_model.specs.declared.layout.Layout.{Layout}
use Rattle.dstm_model.specs.Job.{apply_job}
use Rattle.dstm_model.specs.Store.{Store}
use Rattle.dstm_store.specs.Whole.{IsLawful, StandsFor}
use Rattle.dstm_workload.specs.declared.workload.Job.{Job}
use Rattle.dstm_tables.specs.Attempts.{HasCommitted, seen_last}
use Rattle.dstm_jobs.specs.Answers.{IsBlockedWith}
use Rattle.dstm_tables.specs.Tells.{entries_of}
use Rattle.dstm_tables.proofs.Entries.{entries_reverse, one_more}

-- from the attempt of this number on none of a caller has committed
abbrev pub NoneCommitted : Shape → List Event → (c i : ℕ) → Type 0
NoneCommitted s run c i = (j : ℕ) → i ≤ j → j ≤ (local s run c).begun → HasCommitted s run c j → ⊥

both : (a b : Bool) → (a ≡ true → b ≡ true → ⊥) → (a && b) ≡ false
both false b never = refl
both true false never = refl
both true true never = absurd (never refl refl)

-- the only caller has the number 0
only : (s : Shape) (es : List Event) (e : Event) → s.callers ≡ 1 → Core s (e ∷ es) → e.caller ≡ 0
only s es e one core = let below = core.1.caller in omega (arith, one, below)

-- an event of the only caller, in such an attempt, is no Draw of one that commits
no_draw : (s : Shape) (run later es : List Event) (e : Event) (i : ℕ) → run ≡ later ++ e ∷ es → Core s run →
    s.callers ≡ 1 → i ≤ (local s es 0).begun → NoneCommitted s run 0 i →
    (is_draw e.kind && will_of s run (own_attempt s (local s es e.caller))) ≡ false
no_draw s run later es e i whole core one at none =
    both (is_draw e.kind) (will_of s run (own_attempt s (local s es e.caller))) (λ draws commits.
    let here = core_past s later (e ∷ es) (rw (← whole) core) in
    let zeroth = only s es e one here in
    let phase = draw_may s (local s es e.caller) e e.kind draws here.1.allowed in
    let inside = running s e.caller (local s es e.caller) (static s es here.0 e.caller) (outside phase) in
    let number : or_zero (local s es e.caller).number ≡ 0 = ap or_zero inside.0 ∙ zeroth in
    let own : own_attempt s (local s es e.caller) ≡ 0 * s.attempts + ((local s es 0).begun - 1) =
    rw (number, zeroth) refl in
    let more : (local s es 0).begun ≤ (local s run 0).begun =
    rw (← (append_assoc later (e ∷ []) es ∙ sym whole)) (begun_later s (later ++ e ∷ []) es 0) in
    none (local s es 0).begun at more (sym (ap (will_of s run) own) ∙ commits))
  where
    outside : {p : _} → p ≡ Validating → p ≢ Outside
    outside is out = cc

-- so the history has nothing from then on
nothing_since : (s : Shape) (start : List Val) (run later mid es : List Event) (i : ℕ) → run ≡ later ++ (mid ++ es) →
    Core s run → s.callers ≡ 1 → i ≤ (local s es 0).begun → NoneCommitted s run 0 i →
    history s start (will_of s run) run (mid ++ es) ≡ history s start (will_of s run) run es
nothing_since s start run later [] es i whole core one at none = refl
nothing_since s start run later (e ∷ mid) es i whole core one at none =
    let before = begun_later s mid es 0 in
    let skips = no_draw s run later (mid ++ es) e i whole core one (omega (arith, before, at)) none in
    rw skips (nothing_since s start run (later ++ e ∷ []) mid es i
    (whole ∙ sym (append_assoc later (e ∷ []) (mid ++ es))) core one at none)

-- where none has committed since the attempt that saw
pub only_agrees : (s : Shape) (start : List Val) (holds : List Val → Type 0) (run later before : List Event) (sight : Event)
    (i : ℕ) → CoreRun s start holds run → run ≡ later ++ sight ∷ before → s.callers ≡ 1 → IsSight s before sight →
    i ≤ (local s before 0).begun → NoneCommitted s run 0 i →
    Agrees (state_after start (history_of s start run)) (seen s start run before 0)
only_agrees s start holds run later before sight i core whole one is at none =
    let cut : CoreRun s start holds (later ++ sight ∷ before) = subst (CoreRun s start holds) whole core in
    let here = core_past s later (sight ∷ before) cut.core in
    let zeroth : sight.caller ≡ 0 = only s before sight one here in
    let may = look_self_may s (local s before sight.caller) sight sight.kind is.kind here.1.allowed in
    let seen_there = (sight_is_seen s start holds later before sight cut is).values in
    let begun = begun_at (local s before sight.caller).pass refl may.0 may.2 here.0 in
    let place = pass_place 0 before in
    let past = pass_past 0 before in
    let same : prefix_at s start run place ≡ history_of s start run =
    ap reverse (sym (whole_history place past begun)) in
    subst (λ (prefix : List Entry). Agrees (state_after start prefix) (seen s start run before 0)) same
    (subst (λ (c : ℕ). Agrees (state_after start (prefix_at s start run (pass_place c before))) (seen s start run before c))
    zeroth (subst (λ (r : List Event). Agrees (state_after start (prefix_at s start r (pass_place sight.caller before)))
    (seen s start r before sight.caller)) (sym whole) seen_there))
  where
    begun_at : (p : Option ℕ) → (local s before sight.caller).pass ≡ p → (local s before sight.caller).phase ≡ Running →
        is_some (local s before sight.caller).pass ≡ true → Core s before →
        (local s (pass_place 0 before) 0).begun ≡ (local s before 0).begun
    begun_at None is_p phase some core_b = absurd (true≢false (sym some ∙ ap is_some is_p))
    begun_at (Some n) is_p phase some core_b =
        let zeroth : sight.caller ≡ 0 =
        only s before sight one (core_past s later (sight ∷ before) (subst (Core s) whole core.core)) in
        subst (λ (c : ℕ). (local s (pass_place c before) c).begun ≡ (local s before c).begun) zeroth
        (pass_begun s before core_b sight.caller n phase is_p)

    whole_history : (place : List Event) → IsPastOf place before → (local s place 0).begun ≡ (local s before 0).begun →
        history s start (will_of s run) run run ≡ history s start (will_of s run) run place
    whole_history place past begun =
        let all : run ≡ (later ++ sight ∷ past.later) ++ place =
        rw (whole, ← past.whole, ← append_assoc later (sight ∷ past.later) place) refl in
        ap (history s start (will_of s run) run) all
        ∙ nothing_since s start run [] (later ++ sight ∷ past.later) place i all core.core one
        (subst (λ (n : ℕ). i ≤ n) (sym begun) at) none

-- ---- what an only caller has committed is the history

only_committed : (s : Shape) (start : List Val) (will : ℕ → Bool) (run es : List Event) → Core s es → s.callers ≡ 1 →
    by_caller 0 (committed s start will run es) ≡ committed s start will run es
only_committed s start will run [] core one = refl
only_committed s start will run (e ∷ es) core one =
    one_more (is_draw e.kind && will (own_attempt s (local s es e.caller)))
    (record { caller = e.caller; number = e.found; entry = entry_of s start run (local s es e.caller) })
    (committed s start will run es) (only s es e one core) (only_committed s start will run es core.0 one)

pub only_done : (s : Shape) (start : List Val) (run : List Event) → Core s run → s.callers ≡ 1 →
    committed_in s start run ≡ done_by s start run run 0
only_done s start run core one =
    sym (only_committed s start (will_of s run) run run core one) ∙ each_is_told s start run core 0

pub only_history : (s : Shape) (start : List Val) (run : List Event) → Core s run → s.callers ≡ 1 →
    history_of s start run ≡ reverse (map (λ (done : Committed). done.entry) (done_by s start run run 0))
only_history s start run core one = rw (entries_are_history s start run, only_done s start run core one) refl

-- ---- the newest sight of an attempt

pub record NewestSight (s : Shape) (start : List Val) (run events : List Event) (c i : ℕ) : Type 0 where
  pub place : SightAt s events c i
  pub open place use *
  pub values : seen_last s start run events c i ≡ seen s start run before c

-- an event before the newest sight
past_sight : {s : Shape} {start : List Val} {run es : List Event} {e : Event} {c i : ℕ} → NewestSight s start run es c i →
    seen_last s start run (e ∷ es) c i ≡ seen_last s start run es c i → NewestSight s start run (e ∷ es) c i
past_sight {e = e} n same = record { place = in_later (e ∷ []) refl refl n.place; values = same ∙ n.values }

completes : (k : Kind) (b : Bool) → is_look_self k && b ≡ true → (k ≡ LookSelf) × (b ≡ true)
completes LookSelf true is = (refl, refl)
completes LookSelf false is = absurd (true≢false (sym is))
completes k b is = absurd (cc)

at_sight : (s : Shape) (start : List Val) (run es : List Event) (e : Event) (c i : ℕ) → e.caller ≡ c →
    (local s es c).begun ≡ i → completes_pass s (local s es c) e ≡ true →
    seen_last s start run (e ∷ es) c i ≡ seen s start run es c → NewestSight s start run (e ∷ es) c i
at_sight s start run es e c i own attempt is values =
    let found = completes e.kind (e.found == given (local s es c).phase) is in record {
      place = record {
        later = [];
        sight = e;
        before = es;
        log = refl;
        is_one = record {
          kind = found.0;
          found = rw (eqb-true e.found (given (local s es c).phase) found.1, ← own) refl;
        };
        caller = own;
        attempt = attempt;
      };
      values = values;
    }

pub newest_sight : (s : Shape) (start : List Val) (run log : List Event) (c i : ℕ) →
    1 ≤ count_of completes_pass s log c i → NewestSight s start run log c i
newest_sight s start run [] c i some = absurd (omega arith)
newest_sight s start run (e ∷ es) c i some =
    by (cases_Bool (e.caller == c)) (cases_Bool ((local s es c).begun == i)) (cases_Bool (completes_pass s (local s es c) e))
    (newest_sight s start run es c i)
  where
    by : ((e.caller == c) ≡ true) ⊎ ((e.caller == c) ≡ false) →
        (((local s es c).begun == i) ≡ true) ⊎ (((local s es c).begun == i) ≡ false) →
        (completes_pass s (local s es c) e ≡ true) ⊎ (completes_pass s (local s es c) e ≡ false) →
        (1 ≤ count_of completes_pass s es c i → NewestSight s start run es c i) → NewestSight s start run (e ∷ es) c i
    by (inr a) b d further = past_sight (further (rw a at some)) (rw a refl)
    by (inl a) (inr b) d further = past_sight (further (rw b at (rw a at some))) (rw a (rw b refl))
    by (inl a) (inl b) (inr d) further =
        past_sight (further (rw d at (rw b at (rw a at some)))) (rw a (rw b (rw d refl)))
    by (inl a) (inl b) (inl d) further =
        at_sight s start run es e c i (eqb-true e.caller c a) (eqb-true (local s es c).begun i b) d (rw a (rw b (rw d refl)))

-- ---- a job at which an attempt of the only caller stood

-- what its transactions have left
pub only_values : (s : Shape) (start : List Val) (run : List Event) → Core s run → s.callers ≡ 1 →
    state_after start (history_of s start run) ≡ state_after start (entries_of (reverse (done_by s start run run 0)))
only_values s start run core one =
    ap (state_after start) (only_history s start run core one
    ∙ sym (entries_reverse (done_by s start run run 0)))

-- the job is blocked in the store that these values stand for
pub only_blocked : (layout : Layout) (s : Shape) (start : List Val) (run : List Event) (i : ℕ) (job : Job) (store : Store) →
    CoreRun s start (IsLawful layout) run → s.callers ≡ 1 → 1 ≤ count_of completes_pass s run 0 i →
    NoneCommitted s run 0 i → IsBlockedWith layout (seen_last s start run run 0 i) (Some job) →
    StandsFor layout (state_after start (entries_of (reverse (done_by s start run run 0)))) store →
    apply_job job.ops store ≡ None
only_blocked layout s start run i job store core one some none blocked stands =
    let n = newest_sight s start run run 0 i some in
    let map = state_after start (history_of s start run) in
    let there = only_values s start run core.core one in
    let agrees : Agrees map (seen_last s start run run 0 i) = subst (Agrees map) (sym n.values)
    (only_agrees s start (IsLawful layout) run n.later n.before n.sight i core n.log one n.is_one
    (omega (arith, n.attempt)) none) in
    blocked map store (subst (λ (m : List Val). StandsFor layout m store) (sym there) stands) agrees
