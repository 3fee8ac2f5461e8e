-- Meetings: the choices about one enemy, with the ranks fixed, from the first on, as the rounds pass.
use Rattle.std.specs.Prelude.{◌≡◌, ◌≢◌, ℕ, ◌+◌, ◌≤◌, List, [], ◌∷◌, length, sum}
use Rattle.dstm_core.specs.declared.shape.Manager.{Manager}
use Rattle.dstm_core.specs.declared.shape.Manager.TheVariants.{Polite, Karma, Polka, Greedy}
use Rattle.dstm_core.specs.declared.status.Status.{Status}
use Rattle.dstm_managers.specs.declared.decider.Choice.{Choice}
use Rattle.dstm_managers.specs.declared.decider.Choice.TheVariants.{Kill, Wait}
use Rattle.dstm_managers.specs.Choices.{choice, most_turns_of}

-- what a choice finds: the enemy's status, and the next word
pub record Moment : Type 0 where
  pub status : Status
  pub word : ℕ

-- the turns of this wait, and those of the later ones
abbrev pub waits_then : Choice → List ℕ → List ℕ
waits_then (Wait turns) later = turns ∷ later
waits_then _ later = []

-- the turns of each wait, from this round on, until a choice is no wait
abbrev pub waits_from : Manager → (own enemy round : ℕ) → List Moment → List ℕ
waits_from manager own enemy round [] = []
waits_from manager own enemy round (moment ∷ later) =
    waits_then (choice manager own enemy moment.status round moment.word)
    (waits_from manager own enemy (round + 1) later)

-- the turns of each wait of a meeting
abbrev pub waits_of : Manager → (own enemy : ℕ) → List Moment → List ℕ
waits_of manager own enemy moments = waits_from manager own enemy 0 moments

-- the enemy's rank is one that an attempt can have. A stamp may be any number, and Polite looks at no rank.
abbrev pub IsRank : Manager → ℕ → Type 0
IsRank Karma enemy = enemy ≤ 1023
IsRank Polka enemy = enemy ≤ 1023
IsRank _ enemy = Unit {0}

-- the greatest number of rounds of waiting for one enemy
abbrev pub most_rounds : Manager → ℕ
most_rounds Polite = 8
most_rounds Karma = 1024
most_rounds Polka = 1024
most_rounds Greedy = 0

-- the greatest number of turns of waiting for one enemy
abbrev pub most_turns : Manager → ℕ
most_turns Polite = 1020
most_turns Karma = 4096
most_turns Polka = 260351
most_turns Greedy = 0

-- the waits of each meeting are few, and so are their turns in all
pub record IsBounded (manager : Manager) (waits : List ℕ) : Type 0 where
  pub rounds : length waits ≤ most_rounds manager
  pub turns : sum waits ≤ most_turns manager

abbrev pub EveryMeetingIsBounded : Type 0
EveryMeetingIsBounded =
    (manager : Manager) (own enemy : ℕ) (moments : List Moment) → IsRank manager enemy →
    IsBounded manager (waits_of manager own enemy moments)

-- after so many rounds the enemy is aborted, unless the manager never waits in rounds
abbrev pub PatienceEnds : Type 0
PatienceEnds =
    (manager : Manager) (own enemy word : ℕ) (status : Status) → manager ≢ Greedy → IsRank manager enemy →
    choice manager own enemy status (most_rounds manager) word ≡ Kill

-- each wait has at least a turn, and not too many for its round
abbrev pub EveryWaitIsBounded : Type 0
EveryWaitIsBounded =
    (manager : Manager) (own enemy round word turns : ℕ) (status : Status) →
    choice manager own enemy status round word ≡ Wait turns →
    (1 ≤ turns) × (turns ≤ most_turns_of manager round)
