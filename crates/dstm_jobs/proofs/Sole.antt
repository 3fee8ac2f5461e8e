-- A try of a table's only caller, by DSTM.
use Rattle.std.proofs.Common.{◌≡◌, ◌∙◌, ◌+◌, ◌≤◌, ◌∷◌, ℕ, List, [], Some, None, refl, sym, ap, subst, arith, reverse, Bool, if◌then◌else◌}
use Rattle.dstm_model.specs.declared.value.Val.{Val}
use Rattle.dstm_model.specs.declared.layout.Layout.{Layout}
use Rattle.dstm_model.specs.Map.{state_after}
use Rattle.dstm_opacity.specs.Committed.{Committed, done_by}
use Rattle.dstm_progress.specs.Disturbed.{count_of}
use Rattle.dstm_core.specs.Histories.{CoreRun}
use Rattle.dstm_core.specs.Runs.{local}
use Rattle.dstm_core.specs.declared.shape.Shape.{Shape}
use Rattle.dstm_mem.specs.Memory.{value_in, with_set}
use Rattle.dstm_mem.proofs.WithSet.{with_set-nothing}
use Rattle.dstm_mem.proofs.Pairs.{value_in-same}
use Rattle.dstm_words.specs.declared.terms.Terms.{Terms}
use Rattle.dstm_engine.specs.Attempts.{Commits, completes_pass, looks, sights}
use Rattle.dstm_engine.specs.Callers.{Called, handed, law_of, shape_of, start_of, state, written}
use Rattle.dstm_engine.specs.Transactions.{BeginsAnew}
use Rattle.dstm_store.specs.declared.law.StoreLaw.{StoreLaw}
use Rattle.dstm_store.specs.Whole.{IsLawful, StandsFor}
use Rattle.dstm_workload.specs.declared.workload.Job.{Job}
use Rattle.dstm_tables.specs.Attempts.{HasCommitted, seen_last}
use Rattle.dstm_jobs.specs.Answers.{IsBlockedWith}
use Rattle.dstm_tables.specs.Tells.{entries_of}
use Rattle.dstm_tables.specs.Tells as told
use Rattle.dstm_tables.proofs.Made.{has_committed}
use Rattle.dstm_jobs.proofs.OnlyByDstm.{NoneCommitted, only_blocked}
use Rattle.dstm_jobs.specs.declared.style.Style.{Style}
use Rattle.dstm_jobs.specs.Tables.{AtRest, Caller, OneMore}
use Rattle.dstm_tables.specs.declared.tables.Caller.TheVariants.{Dstm}
use Rattle.dstm_tables.specs.Callers as callers
use Rattle.dstm_jobs.specs.Jobs.{StoodAt}
use Rattle.dstm_jobs.specs.OnlyCallers.{HasGivenUp, StoodAlone}
use Rattle.dstm_jobs.specs.Law.{keeps}
use Rattle.dstm_tables.proofs.StayingByDstm.{in_range}

-- its number is 0
pub zeroth : (n : Called StoreLaw) → AtRest (Dstm n) → (shape_of n).callers ≡ 1 → n.number ≡ 0
zeroth n rest one = let range = (in_range n rest).0 in omega (arith, one, range)

-- the job is blocked in the store that the caller's transactions have left
pub stood_alone : (style : Style) (layout : Layout) (job : Job) (k n : Called StoreLaw) → (shape_of k).callers ≡ 1 →
    (law_of k).layout ≡ layout → StoodAt style 1 layout job (Dstm k) (Dstm n) → StoodAlone style layout job (Dstm k) (Dstm n)
stood_alone style layout job k n one law was = record {
  branches = was.branches;
  made = was.made;
  given_up = was.given_up;
  aborted = was.aborted;
  same_done = was.same_done;
  blocked = λ store stands.
      only_blocked layout s (start_of n) n.log (state n).begun job store core only
      (at_zero (λ c. 1 ≤ count_of completes_pass s n.log c (state n).begun) was.given_up.sights) none
      (at_zero (λ c. IsBlockedWith layout (seen_last s (start_of n) n.log n.log c (state n).begun) (Some job)) was.blocked)
      (at_zero (λ c. StandsFor layout (state_after (start_of n) (entries_of (reverse (done_by s (start_of n) n.log n.log c)))) store)
      stands);
  inside = was.inside;
  unused = was.unused;
}
  where
    s : Shape
    s = shape_of n

    only : (shape_of n).callers ≡ 1
    only = ap (λ (t : Terms StoreLaw). t.shape.callers) was.made.on.seen.0 ∙ one

    number : n.number ≡ 0
    number = zeroth n was.made.on.rest only

    at_zero : (P : ℕ → Type 0) → P n.number → P 0
    at_zero P is = subst P number is

    core : CoreRun (shape_of n) (start_of n) (IsLawful layout) n.log
    core = rw (← (ap (λ (t : Terms StoreLaw). t.law.value.layout) was.made.on.seen.0 ∙ law)) was.made.on.rest.run.run

    none : NoneCommitted (shape_of n) n.log 0 (state n).begun
    none j from to committed =
        let last : j ≡ (state n).begun = omega (arith, from, ap (λ (c : ℕ). (local (shape_of n) n.log c).begun) number) in
        was.uncommitted (subst (HasCommitted (shape_of n) n.log n.number) last
        (subst (λ (c : ℕ). HasCommitted (shape_of n) n.log c j) (sym number) committed))

-- ---- an entry that names no object

nothing_named : (pairs : List (ℕ × Val)) → ((o : ℕ) → value_in pairs o ≡ None) → pairs ≡ []
nothing_named [] none = refl
nothing_named (p ∷ ps) none = absurd (let some = value_in-same p ps p.0 refl in let unnamed = none p.0 in cc)

-- a transaction that opened nothing
pub opened_none : {k n : Caller} {before : List Committed} (by : Committed) → OneMore k n → callers.done n ≡ by ∷ before →
    before ≡ callers.done k → ((o : ℕ) → value_in by.entry.reads o ≡ None) →
    ((o : ℕ) → value_in by.entry.writes o ≡ None) → told.HasCommitted (callers.round_of n) (callers.number_of n) (callers.begun n) →
    told.HasFewSights 0 (callers.round_of n) (callers.number_of n) (callers.begun n) → HasGivenUp k n by.number
opened_none by made newest before unread unwritten committed few = record {
  made = made;
  by = by;
  newest = newest ∙ ap (λ (ds : List Committed). by ∷ ds) before;
  drew = refl;
  nothing_read = nothing_named by.entry.reads unread;
  nothing_written = nothing_named by.entry.writes unwritten;
  committed = committed;
  few_sights = few;
}

-- ---- a transaction that opens nothing

-- nothing is set, so a lawful map stays so
pub stays_lawful : (b : Called StoreLaw) (map : List Val) → ((o : ℕ) → written b o ≡ None) → keeps (law_of b) map →
    keeps (law_of b) (with_set map (written b))
stays_lawful b map none lawful = subst (keeps (law_of b)) (sym (with_set-nothing map (written b) none)) lawful

pub gave_up : (k b n : Called StoreLaw) (number : ℕ) → BeginsAnew keeps k b → OneMore (Dstm k) (Dstm n) →
    Commits b n number → sights n ≤ looks n + 0 → HasGivenUp (Dstm k) (Dstm n) number
gave_up k b n number begins made commits few =
    opened_none (record { caller = b.number; number = number; entry = commits.entry }) made commits.done begins.same_done
    (λ o. commits.reads o ∙ begins.unread o)
    (λ o. commits.writes o ∙ ap (λ (b' : Bool). if b' then handed b o else None) (begins.unopened o))
    (has_committed n made.on.rest.run made.on.rest.enrolled commits.status) few
