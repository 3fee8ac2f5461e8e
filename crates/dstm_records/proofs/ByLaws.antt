-- What holds of each caller of a round, since it has made its events by calls.
use Rattle.std.proofs.Common.{ℕ, List}
use Rattle.rand_pcg.specs.Lcg.{Lcg}
use Rattle.dstm_core.specs.Events.{Event}
use Rattle.dstm_core.specs.State.{LocalState}
use Rattle.dstm_core.specs.declared.shape.Shape.{Shape}
use Rattle.dstm_progress.specs.Lives.{OpensNoneToRead, TriesByShape}
use Rattle.dstm_managers.specs.Choices.{started}
use Rattle.dstm_order.proofs.Weaker.{by_weaker}
use Rattle.dstm_order.specs.Made as made
use Rattle.dstm_order.specs.Retries.{TriesAgain}
use Rattle.dstm_order.specs.Tasks.{Task}
use Rattle.dstm_progress.proofs.Keeping.{retries_keep}
use Rattle.dstm_progress.proofs.Unread.{nothing_is_stale}
use Rattle.dstm_jobs.specs.Law.{keeps}
use Rattle.dstm_tables.specs.Tells.{ByCalls}
use Rattle.dstm_jobs.specs.Tables as known
use Rattle.dstm_records.proofs.Base.{Dstm, Round, Tl2}
use Rattle.dstm_records.specs.Laws.{EachIsBoundedWhenAlone, EachIsNeverStale, EachIsSafeWhenOldest, EachKeepsItsRank, EachKillsAsChosen, EachWasHandedRightly, IsBoundedWhenAlone, IsNeverStale, IsSafeWhenOldest, KeepsItsRank, KillsAsChosen, WasHandedRightly}
use Rattle.dstm_records.proofs.AloneAttempts.{bounded_alone}
use Rattle.dstm_records.proofs.Callers.{of_each}
use Rattle.dstm_records.proofs.HandedByDstm.{dstm_handed}
use Rattle.dstm_records.proofs.HandedByTl2.{tl2_handed}
use Rattle.dstm_records.proofs.OldestAttempts.{safe_when_oldest}
use Rattle.dstm_records.proofs.Patience.{all_chosen}

-- it makes a transaction again until it commits
again : {s : Shape} {g : Lcg} {log : List Event} {c : ℕ} → made.ByCalls (TriesByShape s) s g log c → made.ByCalls TriesAgain s g log c
again {s = s} {g = g} {log = log} {c = c} by =
    by_weaker (TriesByShape s) TriesAgain (λ (l : LocalState) (t : Task) tries. tries.again) s g log c by

handed : (seed : ℕ) (round : Round) (c : ℕ) → known.IsRun round → ByCalls seed round c → WasHandedRightly round c
handed seed (Dstm r) c run by =
    dstm_handed r.terms.shape r.terms.start.value.items (keeps r.terms.law.value) run.run (again by)
handed seed (Tl2 r) c run by = tl2_handed c run.run

kills : (seed : ℕ) (round : Round) (c : ℕ) → known.IsRun round → ByCalls seed round c → KillsAsChosen seed round c
kills seed (Dstm r) c run by = all_chosen r.terms.shape (started r.terms.shape.manager seed).generator (again by)
kills seed (Tl2 r) c run by = tt

ranks : (seed : ℕ) (round : Round) (c : ℕ) → known.IsRun round → ByCalls seed round c → KeepsItsRank round c
ranks seed (Dstm r) c run by =
    retries_keep r.terms.shape (started r.terms.shape.manager seed).generator r.log c run.run.core (again by)
ranks seed (Tl2 r) c run by = tt

alone : (seed : ℕ) (round : Round) (c : ℕ) → known.IsRun round → ByCalls seed round c → IsBoundedWhenAlone seed round c
alone seed (Dstm r) c run calls = λ by on was waits.
    bounded_alone run.run.core by was waits
alone seed (Tl2 r) c run calls = tt

safe : (seed : ℕ) (round : Round) (c : ℕ) → known.IsRun round → ByCalls seed round c → IsSafeWhenOldest round c
safe seed (Dstm r) c run by = λ greedy was. safe_when_oldest run.run.core greedy was
safe seed (Tl2 r) c run by = tt

never_stale : (seed : ℕ) (round : Round) (c : ℕ) → known.IsRun round → ByCalls seed round c → IsNeverStale round c
never_stale seed (Dstm r) c run by = λ all.
    let s = r.terms.shape in
    let g = (started s.manager seed).generator in
    nothing_is_stale s g r.log c run.run.core
    (by_weaker (TriesByShape s) OpensNoneToRead (λ (l : LocalState) (t : Task) tries. tries.opens all) s g r.log c by)
never_stale seed (Tl2 r) c run by = tt

pub each_was_handed : EachWasHandedRightly
each_was_handed = of_each (λ seed. WasHandedRightly) handed

pub each_kills_as_chosen : EachKillsAsChosen
each_kills_as_chosen = of_each KillsAsChosen kills

pub each_keeps_its_rank : EachKeepsItsRank
each_keeps_its_rank = of_each (λ seed. KeepsItsRank) ranks

pub each_is_bounded_when_alone : EachIsBoundedWhenAlone
each_is_bounded_when_alone = of_each IsBoundedWhenAlone alone

pub each_is_safe_when_oldest : EachIsSafeWhenOldest
each_is_safe_when_oldest = of_each (λ seed. IsSafeWhenOldest) safe

pub each_is_never_stale : EachIsNeverStale
each_is_never_stale = of_each (λ seed. IsNeverStale) never_stale
