-- A call that has left its attempt: its table has another caller.
use Rattle.std.proofs.Common.{◌++◌, ◌<◌, ◌∙◌, ◌∷◌, ◌≡◌, List, Some, ap, append_assoc, arith, false, inl, inr, subst, sym, true, ℕ}
use Rattle.std.proofs.lemmas.Bool.{cases_order}
use Rattle.dstm_tl2_engine.proofs.Base.{Event, LocalState, NamesOnce, Run, Table, TlAgain, answer_of, events_of, fails, local, objects, state_after, tl2, writes_of}
use Rattle.dstm_machines.proofs.Runs.{run_past}
use Rattle.dstm_tl2.proofs.Alone.{never_fails}
use Rattle.dstm_tl2_order.proofs.Disturbing.{StandsAt, own_stands}
use Rattle.dstm_tl2_order.proofs.Causing.{ended_by}
use Rattle.dstm_machines.proofs.Own.{after_own}

-- A CALL THAT HAS LEFT ITS ATTEMPT HAS FOUND WHAT ANOTHER CALLER HAS DONE, where its events tell writes that name each
-- object once.
pub others_of : (t : Table) (c : ℕ) (log before es : List Event) (again : TlAgain) → Run t log → c < t.callers →
    events_of c log ≡ es ++ events_of c before → answer_of t (local t before c) es ≡ Some again →
    ((event : Event) (later early : List Event) → es ≡ later ++ event ∷ early →
    NamesOnce (objects t) (writes_of event.kind)) → 1 < t.callers
others_of t c log before es again run inside own gives once =
    let ended = ended_by t (local t before c) es again gives in
    by ended.event ended.later ended.before ended.in_call ended.fails
  where
    by : (event : Event) (later early : List Event) → es ≡ later ++ event ∷ early →
        fails event.kind (state_after t (local t before c) early) event ≡ true → 1 < t.callers
    by event later early is fail = elim (cases_order 1 t.callers) [
      | inl q ↦ absurd (one (sym q))
      | inr (inl q) ↦ q
      | inr (inr q) ↦ absurd (omega arith)
    ]
      where
        s : StandsAt c log event (early ++ events_of c before)
        s =
            own_stands c log later event (early ++ events_of c before) (own ∙ ap (λ xs. xs ++ events_of c before) is
            ∙ append_assoc later (event ∷ early) (events_of c before))

        one : t.callers ≡ 1 → ⊥
        one alone =
            let never : fails event.kind (local t s.before event.caller) event ≡ false =
            never_fails t s.before event (run_past tl2 t s.later (event ∷ s.before) (subst (Run t) s.whole run)) alone
            (once event later early is) in
            let state : local t s.before event.caller ≡ state_after t (local t before c) early =
            ap (local t s.before) s.own ∙ after_own tl2 t c s.before before early s.rest in
            let no : fails event.kind (state_after t (local t before c) early) event ≡ false =
            ap (λ (l : LocalState). fails event.kind l event) (sym state) ∙ never in cc
