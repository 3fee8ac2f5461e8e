-- Attempts at a job, one after the other.
use Rattle.std.proofs.Common.{◌≡◌, ◌∙◌, ◌⊎◌, ◌-◌, ◌<◌, ◌≤◌, ◌∷◌, ℕ, List, ap, subst, sym, inl, inr, arith}
use Rattle.std.proofs.lemmas.Bool.{cases_eq}
use Rattle.dstm_model.specs.declared.layout.Layout.{Layout}
use Rattle.dstm_model.specs.Answers.{Committed}
use Rattle.dstm_workload.specs.declared.workload.Job.{Job}
use Rattle.dstm_jobs.specs.declared.style.Style.{Style}
use Rattle.dstm_jobs.specs.declared.trying.Finished.{Finished}
use Rattle.dstm_jobs.specs.Tables.{AtRest, Caller, GoesOn, IsSpentFrom, OneMore, WasKept}
use Rattle.dstm_tables.specs.Callers.{begun, done, round_of}
use Rattle.dstm_jobs.specs.Jobs.{DidJob, StoodAt, rechecks_by}
use Rattle.dstm_tables.specs.Tries.{WasNotWasted}
use Rattle.dstm_crew.specs.Tries.{HasDone, HasNoneLeft, NoneWastedSince, StaysBlocked}
use Rattle.dstm_tables.specs.Tells.{attempts_of}
use Rattle.dstm_tables.proofs.Staying.{few_begun, goes_on, same_attempts, was_later}

-- after attempts that others kept from their commit
pub record Waited (style : Style) (k n : Caller) : Type 0 where
  pub on : GoesOn k n
  pub none_wasted : NoneWastedSince style k n (begun n)
  pub same_done : done n ≡ done k

-- what was not wasted before another attempt was not
pub earlier : (style : Style) (k : Caller) {n m : Caller} (most : ℕ) → AtRest n → GoesOn n m → most ≤ (begun n) →
    NoneWastedSince style k n most → NoneWastedSince style k m most
earlier style k {n = n} {m = m} most rest on few none i after before =
    was_later (rechecks_by style 1024) n m i on (omega arith) (let range = few_begun n rest in omega arith) (none i after before)

-- nor was that attempt
with_last : (style : Style) (k : Caller) {n m : Caller} → AtRest n → OneMore n m →
    WasNotWasted (rechecks_by style 1024) m (begun m) → NoneWastedSince style k n (begun n) →
    NoneWastedSince style k m (begun m)
with_last style k {n = n} {m = m} rest made last none i after before = by (cases_eq i (begun m))
  where
    below : (i ≡ (begun m) → ⊥) → i ≤ (begun n)
    below other = let b = made.begun in omega arith

    by : (i ≡ (begun m)) ⊎ (i ≡ (begun m) → ⊥) → WasNotWasted (rechecks_by style 1024) m i
    by (inl is) = subst (WasNotWasted (rechecks_by style 1024) m) (sym is) last
    by (inr other) = earlier style k (begun n) rest made.on (omega arith) none i after (below other)

pub waited_more : {style : Style} {k n m : Caller} → Waited style k n → WasKept (rechecks_by style 1024) n m →
    Waited style k m
waited_more {style = style} {k = k} {n = n} {m = m} w was = record {
  on = goes_on k n m w.on was.made.on;
  none_wasted = with_last style k w.on.rest was.made (inr (was.disturbed, was.aborted, was.sighted)) w.none_wasted;
  same_done = was.same_done ∙ w.same_done;
}

pub waited_done : {style : Style} {layout : Layout} {job : Job} {k n m : Caller} {finished : Finished} →
    Waited style k n → DidJob style layout job n m finished → HasDone style layout job k m finished
waited_done {style = style} {k = k} {n = n} {m = m} w was = record {
  on = goes_on k n m w.on was.made.on;
  none_wasted = with_last style k w.on.rest was.made (inl (was.committed, was.few_sights)) w.none_wasted;
  by = was.by;
  newest = was.newest ∙ ap (λ (rest : List Committed). was.by ∷ rest) w.same_done;
  is = was.is;
  few_reads = was.few_reads;
}

pub waited_spent : {style : Style} {k n m : Caller} → Waited style k n → IsSpentFrom n m → HasNoneLeft style k m
waited_spent {style = style} {k = k} {n = n} {m = m} w was = record {
  on = goes_on k n m w.on was.on;
  none_wasted = λ i after before.
      earlier style k (begun n) w.on.rest was.on (omega arith) w.none_wasted i after (let b = was.begun in omega arith);
  spent = was.spent;
  same_done = was.same_done ∙ w.same_done;
}

pub waited_blocked : {style : Style} {layout : Layout} {job : Job} {k n m : Caller} → Waited style k n →
    StoodAt style 1024 layout job n m → StaysBlocked style layout job k m
waited_blocked {style = style} {k = k} {n = n} {m = m} w was = record {
  branches = was.branches;
  on = goes_on k n m w.on was.made.on;
  last = (begun n);
  is_last = was.made.begun;
  none_wasted = earlier style k (begun n) w.on.rest was.made.on (omega arith) w.none_wasted;
  stood = record { given_up = was.given_up; blocked = was.blocked; inside = was.inside };
  same_done = was.same_done ∙ w.same_done;
}

-- another attempt leaves fewer
pub fewer_left : {k n m : Caller} → GoesOn k n → OneMore n m →
    attempts_of (round_of m) - (begun m) < attempts_of (round_of n) - (begun n)
fewer_left {n = n} {m = m} on made =
    let same : attempts_of (round_of m) ≡ attempts_of (round_of n) = same_attempts n m made.on in
    let b = made.begun in let few = few_begun m made.on.rest in omega arith
