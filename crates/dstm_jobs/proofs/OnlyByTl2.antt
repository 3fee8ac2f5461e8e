-- A TL2 table with one caller: what an attempt of it has read that has drawn nothing are the values that its transactions
-- have left.
use Rattle.std.proofs.Common.{◌≡◌, ◌∙◌, ◌==◌, ◌⊎◌, ◌∷◌, ℕ, List, [], Bool, true, false, None, refl, sym, ap, arith, inl, inr, map, reverse, ◌&&◌}
use Rattle.std.proofs.lemmas.Bool.{and_from, and_left, and_right, cases_Bool, cond-false, cond-true, eq-eqb}
use Rattle.dstm_model.specs.declared.value.Val.{Val}
use Rattle.dstm_model.specs.Answers.{Committed, by_caller}
use Rattle.dstm_model.specs.Map.{Agrees, state_after}
use Rattle.dstm_machines.specs.Histories as histories
use Rattle.dstm_tables.specs.Tells.{entries_of}
use Rattle.dstm_tables.proofs.Entries.{entries_reverse, one_more}
use Rattle.dstm_machines.proofs.Own.{local_mine}
use Rattle.dstm_tl2.specs.declared.kind.Kind.{Kind}
use Rattle.dstm_tl2.specs.declared.kind.Kind.TheVariants.{Sample, Draw}
use Rattle.dstm_tl2.specs.Histories.{LawfulRun, commits_at, entry_at, history, history_of, is_draw, is_sample, prefix_at, read_values, sample_place, will_of}
use Rattle.dstm_tl2.specs.Rules.{Event, after}
use Rattle.dstm_tl2.specs.Runs.{Run, local, tl2}
use Rattle.dstm_tl2.specs.State.{LocalState}
use Rattle.dstm_tl2.specs.Words.{Table}
use Rattle.dstm_tl2.proofs.Closing.{sample_agrees}
use Rattle.dstm_tl2.specs.Committed.{committed, committed_in, done_by}
use Rattle.dstm_tl2.proofs.Standing.{entries_are_history}
use Rattle.dstm_tl2.proofs.Told.{each_is_told}
use Rattle.dstm_tl2_order.proofs.Steps.{rests}

-- the only caller has the number 0
only : (t : Table) (es : List Event) (e : Event) → t.callers ≡ 1 → Run t (e ∷ es) → e.caller ≡ 0
only t es e one run = let below = run.1.caller in omega (arith, one, below)

-- an event that leaves nothing drawn is no Draw, and nothing was drawn before it unless it begins an attempt
undrawn_before : (t : Table) (l : LocalState) (e : Event) (k : Kind) → is_sample k ≡ false →
    (after k t l e).drawn ≡ None → (is_draw k ≡ false) × (l.drawn ≡ None)
undrawn_before t l e Sample other none = absurd (cc)
undrawn_before t l e (Draw w) other none = absurd (cc)
undrawn_before t l e k other none = let r = rests t l e k refl refl in (refl, sym r.drawn ∙ none)

sample_draws_none : (k : Kind) → is_sample k ≡ true → is_draw k ≡ false
sample_draws_none Sample is = refl
sample_draws_none k is = absurd (cc)

skip : (t : Table) (will : ℕ → Bool) (es : List Event) (e : Event) → is_draw e.kind ≡ false →
    history t will (e ∷ es) ≡ history t will es
skip t will es e none =
    cond-false (is_draw e.kind && will e.found) (entry_at t e es ∷ history t will es) (history t will es)
    (and_left (is_draw e.kind) (will e.found) none)

-- nothing was committed since its Sample
since_sample_none : (t : Table) (will : ℕ → Bool) (es : List Event) → Run t es → t.callers ≡ 1 →
    (local t es 0).drawn ≡ None → history t will es ≡ history t will (sample_place 0 es)
since_sample_none t will [] run one none = refl
since_sample_none t will (e ∷ es) run one none =
    go (cases_Bool (is_sample e.kind)) (since_sample_none t will es run.0 one)
  where
    own : (e.caller == 0) ≡ true
    own = eq-eqb e.caller 0 (only t es e one run)

    go : (is_sample e.kind ≡ true) ⊎ (is_sample e.kind ≡ false) →
        ((local t es 0).drawn ≡ None → history t will es ≡ history t will (sample_place 0 es)) →
        history t will (e ∷ es) ≡ history t will (sample_place 0 (e ∷ es))
    go (inl q) ih =
        skip t will es e (sample_draws_none e.kind q)
        ∙ ap (history t will) (sym (cond-true ((e.caller == 0) && is_sample e.kind) es (sample_place 0 es)
        (and_from (e.caller == 0) (is_sample e.kind) own q)))
    go (inr q) ih =
        let was = undrawn_before t (local t es 0) e e.kind q
        (ap (λ (l : LocalState). l.drawn) (sym (local_mine tl2 t es e 0 own)) ∙ none) in
        skip t will es e was.0 ∙ ih was.1
        ∙ ap (history t will) (sym (cond-false ((e.caller == 0) && is_sample e.kind) es (sample_place 0 es)
        (and_right (e.caller == 0) (is_sample e.kind) q)))

-- ---- what an only caller has committed is the history

only_committed : (t : Table) (will : ℕ → Bool) (es : List Event) → Run t es → t.callers ≡ 1 →
    by_caller 0 (committed t will es) ≡ committed t will es
only_committed t will [] run one = refl
only_committed t will (e ∷ es) run one =
    one_more (commits_at will e es) (histories.attempt_at (commits_at will) (entry_at t) e es) (committed t will es)
    (only t es e one run) (only_committed t will es run.0 one)

pub only_done : (t : Table) (run : List Event) → Run t run → t.callers ≡ 1 → committed_in t run ≡ done_by t run 0
only_done t run r one = sym (only_committed t (will_of t run) run r one) ∙ each_is_told t run r 0

pub only_values : (t : Table) (run : List Event) → Run t run → t.callers ≡ 1 →
    state_after t.start (history_of t run) ≡ state_after t.start (entries_of (reverse (done_by t run 0)))
only_values t run r one =
    ap (state_after t.start) (entries_are_history t run
    ∙ ap (λ (cs : List Committed). reverse (map (λ (done : Committed). done.entry) cs)) (only_done t run r one)
    ∙ sym (entries_reverse (done_by t run 0)))

-- WHAT ITS ATTEMPT HAS READ
pub only_agrees : (t : Table) (holds : List Val → Type 0) (run : List Event) → LawfulRun t holds run → t.callers ≡ 1 →
    (local t run 0).drawn ≡ None →
    Agrees (state_after t.start (entries_of (reverse (done_by t run 0)))) (read_values (local t run 0).reads)
only_agrees t holds run lawful one none =
    let seen = sample_agrees t holds [] run 0 lawful in
    let same : prefix_at t run (sample_place 0 run) ≡ history_of t run =
    ap reverse (sym (since_sample_none t (will_of t run) run lawful.run one none)) in
    rw (← (ap (state_after t.start) same ∙ only_values t run lawful.run one)) seen.values
