-- Laws of the records of a run: what the calls of the callers of each round come to.
use Rattle.std.specs.Prelude.{◌≡◌, ◌≢◌, ◌⊎◌, ℕ, ◌<◌, true, List, ◌∷◌, ◌++◌, All}
use Rattle.dstm_machines.specs.Traces.{Each, events_of}
use Rattle.dstm_core.specs.Events.{Event}
use Rattle.dstm_core.specs.Runs.{local}
use Rattle.dstm_core.specs.declared.event.Kind.TheVariants.{Kill}
use Rattle.dstm_core.specs.declared.shape.Manager.TheVariants.{Greedy}
use Rattle.dstm_managers.specs.Choices.{started}
use Rattle.dstm_order.specs.Made as made
use Rattle.dstm_order.specs.Retries.{KeepsRank, TriesAgain}
use Rattle.dstm_progress.specs.Alone.{Made, all_events}
use Rattle.dstm_progress.specs.Lives.{HasReadNothing}
use Rattle.dstm_progress.specs.Oldest.{IsUntouched}
use Rattle.dstm_tl2.specs.Sharing.{table_of}
use Rattle.dstm_workload.specs.Workload.{IsValidWorkload}
use Rattle.dstm_workload.specs.declared.workload.Workload.{Workload}
use Rattle.dstm_options.specs.declared.options.Options.{Options}
use Rattle.dstm_jobs.specs.Tables.{Round}
use Rattle.dstm_tables.specs.declared.tables.Round.TheVariants.{Dstm, Tl2}
use Rattle.dstm_tables.specs.Tells.{ByCalls, callers_of}
use Rattle.dstm_records.specs.Alone.{IsBoundedAlone, WasAlone}
use Rattle.dstm_records.specs.Handed.{DstmHanded, Tl2Handed}
use Rattle.dstm_records.specs.Oldest.{WasOldest}
use Rattle.dstm_records.specs.Patience.{WasChosen}
use Rattle.dstm_records.specs.Records.{AreFirstRounds, seed_for}

-- In a run of a valid workload, however it ended: of each round that has a record, each caller of its table runs by the seed
-- of a worker of the workload, and this is so of it.
abbrev pub OfEachCaller : ((seed : ℕ) → Round → ℕ → Type 0) → Type 0
OfEachCaller Says =
    (workload : Workload) (options : Options) (rounds : List Round) → IsValidWorkload workload →
    AreFirstRounds workload options rounds →
    All (λ round. (c : ℕ) → c < callers_of round →
    (worker : ℕ) × (worker < workload.workers) × Says (seed_for options worker) round c) rounds

-- EACH CALLER IS BY CALLS, from the generator of its seed on
abbrev pub EachIsByCalls : Type 0
EachIsByCalls = OfEachCaller ByCalls

-- WHAT ATTEMPTS WERE HANDED was validated, and stood together
abbrev pub WasHandedRightly : Round → ℕ → Type 0
WasHandedRightly (Dstm r) c = DstmHanded r.terms.shape r.terms.start.value.items r.log c
WasHandedRightly (Tl2 r) c = Tl2Handed (table_of r.terms) r.log c

abbrev pub EachWasHandedRightly : Type 0
EachWasHandedRightly = OfEachCaller (λ seed. WasHandedRightly)

-- A KILL IS THE MANAGER'S CHOICE, after the rounds of waiting that it wants; TL2 has none
abbrev pub KillsAsChosen : (seed : ℕ) → Round → ℕ → Type 0
KillsAsChosen seed (Dstm r) c =
    Each (λ event own. event.kind ≡ Kill →
    WasChosen r.terms.shape (started r.terms.shape.manager seed).generator own) (events_of c r.log)
KillsAsChosen seed (Tl2 r) c = Unit {0}

abbrev pub EachKillsAsChosen : Type 0
EachKillsAsChosen = OfEachCaller KillsAsChosen

-- AN ATTEMPT THAT IS ALONE, under a manager that waits for enemies of bounded patience, or of its table's only caller,
-- is left by its commit only, and takes few steps
abbrev pub IsBoundedWhenAlone : (seed : ℕ) → Round → ℕ → Type 0
IsBoundedWhenAlone seed (Dstm r) c =
    (by : made.ByCalls TriesAgain r.terms.shape (started r.terms.shape.manager seed).generator r.log c) (on : List Made)
    (was : WasAlone r.terms.shape r.log c by.calls on) →
    (r.terms.shape.manager ≢ Greedy) ⊎ (r.terms.shape.callers ≡ 1) →
    IsBoundedAlone r.terms.shape (all_events on ++ was.begin ∷ was.before) c on
IsBoundedWhenAlone seed (Tl2 r) c = Unit {0}

abbrev pub EachIsBoundedWhenAlone : Type 0
EachIsBoundedWhenAlone = OfEachCaller IsBoundedWhenAlone

-- THE OLDEST IS LEFT ALONE, under Greedy: while an attempt is under way that began while its transaction was the oldest live
-- one, it does not wait, and no other caller changes its status
abbrev pub IsSafeWhenOldest : Round → ℕ → Type 0
IsSafeWhenOldest (Dstm r) c =
    r.terms.shape.manager ≡ Greedy → (was : WasOldest r.terms.shape r.log c) →
    IsUntouched r.terms.shape (was.since ++ was.begin ∷ was.before) c
IsSafeWhenOldest (Tl2 r) c = Unit {0}

abbrev pub EachIsSafeWhenOldest : Type 0
EachIsSafeWhenOldest = OfEachCaller (λ seed. IsSafeWhenOldest)

-- A RETRY STAYS THE SAME TRANSACTION: it draws no stamp and keeps its rank; TL2 has neither
abbrev pub KeepsItsRank : Round → ℕ → Type 0
KeepsItsRank (Dstm r) c =
    Each (λ event before. event.caller ≡ c → KeepsRank (local r.terms.shape before c) event) r.log
KeepsItsRank (Tl2 r) c = Unit {0}

abbrev pub EachKeepsItsRank : Type 0
EachKeepsItsRank = OfEachCaller (λ seed. KeepsItsRank)

-- WHERE ALL OPENS ARE FOR WRITING NO ATTEMPT IS STALE: at no time it has recorded a read; by TL2 reads stay reads
abbrev pub IsNeverStale : Round → ℕ → Type 0
IsNeverStale (Dstm r) c =
    r.terms.shape.all_write ≡ true → (later before : List Event) → r.log ≡ later ++ before →
    HasReadNothing (local r.terms.shape before c)
IsNeverStale (Tl2 r) c = Unit {0}

abbrev pub EachIsNeverStale : Type 0
EachIsNeverStale = OfEachCaller (λ seed. IsNeverStale)
