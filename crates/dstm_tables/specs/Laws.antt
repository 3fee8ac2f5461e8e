-- Laws of what is known of a table, under each engine.
use Rattle.std.specs.Prelude.{◌≡◌, ◌<◌, ◌≤◌, ℕ, List}
use Rattle.std.specs.List.{AllByRecursion}
use Rattle.dstm_model.specs.declared.value.Val.{Val}
use Rattle.dstm_model.specs.Answers.{NumbersFall, by_caller}
use Rattle.dstm_model.specs.Map.{IsLegal}
use Rattle.dstm_tables.specs.declared.tables.Round.{Round}
use Rattle.dstm_tables.specs.Tells.{ByCalls, HasCommitted, HasFewSights, IsPast, IsRun, IsSpent, SameOwn, SightsAgree, WasAborted, WasDisturbed, WasGivenUpAfter, all_done, begun_of, callers_of, committed_of, done_of, entries_of, let_go_by, seen_of, start_of}

module _ {L : Type 0} where
  -- what is known of caller c in one log is so in another one
  pub record StaysIn (before after : Round L) (c : ℕ) : Type 0 where
    pub done : done_of after c ≡ done_of before c
    pub begun : begun_of after c ≡ begun_of before c
    pub let_go : let_go_by after c ≡ let_go_by before c
    pub spent : IsSpent before c → IsSpent after c
    pub committed : (i : ℕ) → 0 < i → i ≤ begun_of before c → HasCommitted before c i → HasCommitted after c i
    pub disturbed : (i : ℕ) → WasDisturbed before c i → WasDisturbed after c i
    pub aborted : (i : ℕ) → 0 < i → i ≤ begun_of before c → WasAborted before c i → WasAborted after c i
    pub given_up : (rechecks i : ℕ) → WasGivenUpAfter rechecks before c i → WasGivenUpAfter rechecks after c i
    pub sighted : (more i : ℕ) → HasFewSights more before c i → HasFewSights more after c i
    pub saw : (i : ℕ) → seen_of after c i ≡ seen_of before c i
    pub calls : (seed : ℕ) → ByCalls seed before c → ByCalls seed after c

  -- What was committed on a table: of each caller what its own events tell, in the order of the numbers, legal from the first
  -- values.
  pub record IsHistory (round : Round L) : Type 0 where
    pub parts : (c : ℕ) → by_caller c (all_done round) ≡ done_of round c
    pub falls : NumbersFall (all_done round)
    pub within : AllByRecursion (λ done. done.caller < callers_of round) (all_done round)
    pub legal : IsLegal (start_of round) (entries_of (committed_of round))

module _ (L : Type 0) (holds : L → List Val → Type 0) where
  -- what is known of a caller as it was taken back is so in the record of its table
  abbrev pub StaysAtClose : Type 0
  StaysAtClose =
      (before after : Round L) (c : ℕ) → IsRun holds after → c < callers_of before → IsPast before after →
      SameOwn c before after → StaysIn before after c

  abbrev pub HistoriesAreWhole : Type 0
  HistoriesAreWhole = (round : Round L) → IsRun holds round → IsHistory round

  -- what attempts saw are values of one moment, under each engine
  abbrev pub SightsAreValues : Type 0
  SightsAreValues = (round : Round L) → IsRun holds round → SightsAgree round
