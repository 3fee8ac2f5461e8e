-- What is known of a table by its log, by its engine. Attempt i of a caller is the one after whose beginning it has begun
-- i: its attempts are numbered from 1.
use Rattle.std.specs.Prelude.{◌≡◌, ◌⊎◌, ℕ, ◌≤◌, Bool, true, false, not, List, ◌∷◌, ◌++◌, map, reverse, Some}
use Rattle.dstm_model.specs.declared.value.Val.{Val}
use Rattle.dstm_model.specs.Answers.{Committed}
use Rattle.dstm_model.specs.Map.{Agrees, Entry, state_after}
use Rattle.dstm_machines.specs.Traces.{IsPastOf, events_of}
-- DSTM
use Rattle.dstm_core.specs.Events as core_events
use Rattle.dstm_core.specs.Histories as core_histories
use Rattle.dstm_core.specs.Runs as core
use Rattle.dstm_opacity.specs.Committed as core_answers
use Rattle.dstm_engine.specs.Makes.{count_let_go}
use Rattle.dstm_progress.specs.Lives.{TriesByShape}
use Rattle.dstm_managers.specs.Choices.{started}
use Rattle.dstm_order.specs.Made as made
use Rattle.dstm_order.specs.Order as order
use Rattle.dstm_progress.specs.Disturbed as causes
use Rattle.dstm_words.specs.Seats as words
use Rattle.dstm_words.specs.declared.terms.Terms as core_terms
use Rattle.dstm_tables.specs.Attempts as attempts
-- TL2
use Rattle.dstm_tl2.specs.declared.kind.Kind.{Kind}
use Rattle.dstm_tl2.specs.declared.kind.Kind.TheVariants.{LookAgain}
use Rattle.dstm_tl2.specs.Committed as tl2_answers
use Rattle.dstm_tl2.specs.Histories as tl2_histories
use Rattle.dstm_tl2.specs.Rules as tl2_rules
use Rattle.dstm_tl2.specs.Runs as tl2
use Rattle.dstm_tl2.specs.Sharing as tl2_sharing
use Rattle.dstm_tl2.specs.State as tl2_state
use Rattle.dstm_tl2.specs.declared.terms.Terms as tl2_terms
use Rattle.dstm_tl2_order.specs.Ended as tl2_causes
use Rattle.dstm_tl2_order.specs.Made as tl2_made
use Rattle.dstm_tl2_order.specs.Made.{LocksItsWrites}
use Rattle.dstm_tl2_order.specs.Order as tl2_order
-- both
use Rattle.dstm_tables.specs.declared.tables.Round.{Round}
use Rattle.dstm_tables.specs.declared.tables.Round.TheVariants.{Dstm, Tl2}

-- the entries of transactions
abbrev pub entries_of : List Committed → List Entry
entries_of committed = map (λ done. done.entry) committed

abbrev pub is_look_again : Kind → Bool
is_look_again LookAgain = true
is_look_again kind = false

module _ {L : Type 0} where
  -- ---- its table

  -- what was in the objects when it was made
  abbrev pub start_of : Round L → List Val
  start_of (Dstm r) = r.terms.start.value.items
  start_of (Tl2 r) = r.terms.start.value.items

  abbrev pub callers_of : Round L → ℕ
  callers_of (Dstm r) = r.terms.shape.callers
  callers_of (Tl2 r) = r.terms.callers

  abbrev pub attempts_of : Round L → ℕ
  attempts_of (Dstm r) = r.terms.shape.attempts
  attempts_of (Tl2 r) = r.terms.attempts

  -- its law
  abbrev pub law_told : Round L → L
  law_told (Dstm r) = r.terms.law.value
  law_told (Tl2 r) = r.terms.law.value

  -- objects that are only read are opened for writing too
  abbrev pub writes_all : Round L → Bool
  writes_all (Dstm r) = r.terms.shape.all_write
  writes_all (Tl2 r) = false

  -- reads can be let go: by DSTM, where reads stay reads
  abbrev pub lets_go : Round L → Bool
  lets_go (Dstm r) = not r.terms.shape.all_write
  lets_go (Tl2 r) = false

  -- a caller that has used no locator has enough for an attempt; TL2 has none
  abbrev pub HasLocators : Round L → Type 0
  HasLocators (Dstm r) = r.terms.shape.objects ≤ r.terms.shape.locators
  HasLocators (Tl2 r) = Unit {0}

  -- what happened on it is a run of the engine, of a table that was told this
  abbrev pub IsRun : (holds : L → List Val → Type 0) → Round L → Type 0
  IsRun holds (Dstm r) = words.IsRunOf holds r.terms r.log
  IsRun holds (Tl2 r) = tl2_sharing.IsRunOf holds r.terms r.log

  -- ---- two logs of one table

  -- it is the same table, and its log went on
  abbrev pub IsPast : (before after : Round L) → Type 0
  IsPast (Dstm a) (Dstm b) = (b.terms ≡ a.terms) × IsPastOf a.log b.log
  IsPast (Tl2 a) (Tl2 b) = (b.terms ≡ a.terms) × IsPastOf a.log b.log
  IsPast a b = ⊥

  -- caller c made the same events in both
  abbrev pub SameOwn : ℕ → (one other : Round L) → Type 0
  SameOwn c (Dstm a) (Dstm b) = events_of c b.log ≡ events_of c a.log
  SameOwn c (Tl2 a) (Tl2 b) = events_of c b.log ≡ events_of c a.log
  SameOwn c a b = ⊥

  -- ---- what was committed

  -- the transactions that committed, the newest first
  abbrev pub all_done : Round L → List Committed
  all_done (Dstm r) = core_answers.committed_in r.terms.shape r.terms.start.value.items r.log
  all_done (Tl2 r) = tl2_answers.committed_in (tl2_sharing.table_of r.terms) r.log

  -- the same in the order of the numbers that they drew
  abbrev pub committed_of : Round L → List Committed
  committed_of round = reverse (all_done round)

  -- what it has in its objects then
  abbrev pub values_of : Round L → List Val
  values_of round = state_after (start_of round) (entries_of (committed_of round))

  -- those of one caller, as its own events tell, the newest first
  abbrev pub done_of : Round L → ℕ → List Committed
  done_of (Dstm r) c = core_answers.done_by r.terms.shape r.terms.start.value.items r.log r.log c
  done_of (Tl2 r) c = tl2_answers.done_by (tl2_sharing.table_of r.terms) r.log c

  -- ---- the attempts of a caller

  abbrev pub begun_of : Round L → ℕ → ℕ
  begun_of (Dstm r) c = (core.local r.terms.shape r.log c).begun
  begun_of (Tl2 r) c = (tl2.local (tl2_sharing.table_of r.terms) r.log c).begun

  -- its number is the one that its own enrolment found
  abbrev pub IsEnrolled : Round L → ℕ → Type 0
  IsEnrolled (Dstm r) c = (core.local r.terms.shape r.log c).number ≡ Some c
  IsEnrolled (Tl2 r) c = (tl2.local (tl2_sharing.table_of r.terms) r.log c).number ≡ Some c

  -- how many locators caller c has used; TL2 has none
  abbrev pub used_by : Round L → ℕ → ℕ
  used_by (Dstm r) c = (core.local r.terms.shape r.log c).installed
  used_by (Tl2 r) c = 0

  -- how many reads caller c has let go; under TL2 nobody lets one go
  abbrev pub let_go_by : Round L → ℕ → ℕ
  let_go_by (Dstm r) c = count_let_go (events_of c r.log)
  let_go_by (Tl2 r) c = 0

  -- it has no attempt left, or too few locators for another one
  abbrev pub IsSpent : Round L → ℕ → Type 0
  IsSpent (Dstm r) c = attempts.IsSpent r.terms.shape (core.local r.terms.shape r.log c)
  IsSpent (Tl2 r) c = (tl2.local (tl2_sharing.table_of r.terms) r.log c).begun ≡ r.terms.attempts

  -- caller c can begin no other attempt
  abbrev pub CannotBegin : Round L → ℕ → Type 0
  CannotBegin (Dstm r) c = order.is_spent r.terms.shape (core.local r.terms.shape r.log c) ≡ true
  CannotBegin (Tl2 r) c = tl2_order.is_spent (tl2_sharing.table_of r.terms) (tl2.local (tl2_sharing.table_of r.terms) r.log c) ≡ true

  -- attempt i of caller c has committed
  abbrev pub HasCommitted : Round L → (c i : ℕ) → Type 0
  HasCommitted (Dstm r) c i = attempts.HasCommitted r.terms.shape r.log c i
  HasCommitted (Tl2 r) c i = tl2_causes.HasCommitted (tl2_sharing.table_of r.terms) r.log c i

  -- it was aborted, as its status under DSTM tells; under TL2 it has none
  abbrev pub WasAborted : Round L → (c i : ℕ) → Type 0
  WasAborted (Dstm r) c i = attempts.WasAborted r.terms.shape r.log c i
  WasAborted (Tl2 r) c i = Unit {0}

  -- others disturbed it
  abbrev pub WasDisturbed : Round L → (c i : ℕ) → Type 0
  WasDisturbed (Dstm r) c i = causes.Disturbed r.terms.shape r.log c i
  WasDisturbed (Tl2 r) c i = tl2_causes.Disturbed (tl2_sharing.table_of r.terms) r.log c i

  -- it was given up: under DSTM after it had made sure so many times that what it had read stands, under TL2 before it drew
  abbrev pub WasGivenUpAfter : (rechecks : ℕ) → Round L → (c i : ℕ) → Type 0
  WasGivenUpAfter rechecks (Dstm r) c i = attempts.WasGivenUpAfter rechecks r.terms.shape r.log c i
  WasGivenUpAfter rechecks (Tl2 r) c i = tl2_causes.HasNoDraw (tl2_sharing.table_of r.terms) r.log c i

  -- it made sure that what it had read stands by its opens and its commit, and at most so many times beside: under DSTM it had
  -- so few sights; under TL2 nothing else makes sure of it
  abbrev pub HasFewSights : (more : ℕ) → Round L → (c i : ℕ) → Type 0
  HasFewSights more (Dstm r) c i = attempts.HasFewSights more r.terms.shape r.log c i
  HasFewSights more (Tl2 r) c i = Unit {0}

  -- it committed, made sure of by its opens and its commit alone; or it was aborted, made sure of so many times more at most
  abbrev pub WasSighted : (rechecks : ℕ) → Round L → (c i : ℕ) → Type 0
  WasSighted rechecks round c i =
      (HasCommitted round c i × HasFewSights 0 round c i) ⊎ (WasAborted round c i × HasFewSights rechecks round c i)

  -- what it has read: under DSTM what its newest sight covers
  abbrev pub seen_of : Round L → (c i : ℕ) → List (ℕ × Val)
  seen_of (Dstm r) c i = attempts.seen_last r.terms.shape r.terms.start.value.items r.log r.log c i
  seen_of (Tl2 r) c i = tl2_causes.reads_of (tl2_sharing.table_of r.terms) r.log c i

  -- ---- the calls of a caller

  -- Caller c's own events are those of calls that obey the order of steps, one after the other from nothing: under DSTM with the
  -- generator of this seed, each transaction again until it committed, and none opens for reading where all opens are for
  -- writing; under TL2 each locks no more than is written.
  abbrev pub ByCalls : (seed : ℕ) → Round L → ℕ → Type 0
  ByCalls seed (Dstm r) c =
      made.ByCalls (TriesByShape r.terms.shape) r.terms.shape (started r.terms.shape.manager seed).generator r.log c
  ByCalls seed (Tl2 r) c = tl2_made.ByCalls LocksItsWrites (tl2_sharing.table_of r.terms) r.log c

  -- ---- what attempts saw

  -- Under DSTM, whatever a completed pass covered are values of one moment: those of the state after the transactions that drew
  -- their numbers before the pass began.
  abbrev pub DstmSightsAgree : core_terms.Terms L → List core_events.Event → Type 0
  DstmSightsAgree terms log =
      (later before : List core_events.Event) (sight : core_events.Event) → log ≡ later ++ sight ∷ before →
      core_histories.IsSight terms.shape before sight →
      Agrees
      (state_after terms.start.value.items
      (core_histories.prefix_at terms.shape terms.start.value.items log (core_histories.pass_place sight.caller before)))
      (core_histories.seen terms.shape terms.start.value.items log before sight.caller)

  -- Under TL2, a look that found the word of its lock again has read a value. All that was read then, this read with it, are
  -- values of one moment: those of the state after the transactions that drew their numbers before the attempt's Sample.
  abbrev pub Tl2SightsAgree : tl2_terms.Terms L → List tl2_rules.Event → Type 0
  Tl2SightsAgree terms log =
      (later before : List tl2_rules.Event) (sight : tl2_rules.Event) → log ≡ later ++ sight ∷ before →
      is_look_again sight.kind ≡ true →
      sight.found ≡ (tl2_state.look_of (tl2.local (tl2_sharing.table_of terms) before sight.caller)).word →
      Agrees
      (state_after terms.start.value.items
      (tl2_histories.prefix_at (tl2_sharing.table_of terms) log (tl2_histories.sample_place sight.caller before)))
      (tl2_histories.read_values (tl2.local (tl2_sharing.table_of terms) (sight ∷ before) sight.caller).reads)

  -- WHAT ATTEMPTS SAW, of those that abort as much as of those that commit, are values of one moment
  abbrev pub SightsAgree : Round L → Type 0
  SightsAgree (Dstm r) = DstmSightsAgree r.terms r.log
  SightsAgree (Tl2 r) = Tl2SightsAgree r.terms r.log
