-- How long a meeting waits. What is waited from a round on is at most the difference of its mark to the mark
-- of the last round.
use Rattle.std.proofs.Common.{◌≡◌, ℕ, ◌+◌, ◌-◌, ◌*◌, ◌^◌, ◌≤◌, min, List, [], ◌∷◌, length, sum, refl, arith}
use Rattle.std.proofs.Math.Pow.{pow_mono}
use Rattle.std.proofs.lemmas.Grind.{common_steps, pow_more}
use Rattle.std.proofs.lemmas.List.Sums.{sum_by-cons}
use Rattle.std.proofs.lemmas.Nat.{pow_pos}
use Rattle.dstm_core.specs.declared.shape.Manager.{Manager}
use Rattle.dstm_core.specs.declared.shape.Manager.TheVariants.{Polite, Karma, Polka, Greedy}
use Rattle.dstm_core.specs.declared.status.Status.{Status}
use Rattle.dstm_managers.specs.declared.decider.Choice.{Choice}
use Rattle.dstm_managers.specs.declared.decider.Choice.TheVariants.{Kill, Wait, GiveWay}
use Rattle.dstm_managers.specs.Choices.{choice, most_turns_of}
use Rattle.dstm_managers.specs.Meetings.{Moment, waits_then, waits_from, waits_of, IsRank, most_rounds, IsBounded}

-- the greatest number of turns of the rounds before this one, counted from the mark of round 0
abbrev pub mark : Manager → ℕ → ℕ
mark Polite round = 4 * 2 ^ round
mark Karma round = 4 * round
mark Polka round = 2 ^ min round 8 + 256 * (round - 8)
mark Greedy round = 0

-- the marks rise by each round's greatest number of turns
pub mark-next :
    (manager : Manager) (round : ℕ) → most_turns_of manager round + mark manager round ≤ mark manager (round + 1)
mark-next Polite round = grind (arith, pow_more 2 round)
mark-next Karma round = omega arith
mark-next Polka round = grind (arith, pow_more 2 round)
mark-next Greedy round = omega arith

-- no round's mark is above that of the last one
pub mark-last :
    (manager : Manager) (round : ℕ) → round ≤ most_rounds manager →
    mark manager round ≤ mark manager (most_rounds manager)
mark-last Polite round before = let h : 2 ^ round ≤ 2 ^ 8 = pow_mono before in omega (arith, h)
mark-last Karma round before = omega arith
mark-last Polka round before =
    let below : min round 8 ≤ 8 = omega arith in
    let h : 2 ^ min round 8 ≤ 2 ^ 8 = pow_mono below in omega (arith, h)
mark-last Greedy round before = omega arith

-- a wait is not after the last round
pub round-left :
    (manager : Manager) (own enemy round word turns : ℕ) (status : Status) → IsRank manager enemy →
    choice manager own enemy status round word ≡ Wait turns → round + 1 ≤ most_rounds manager
round-left Polite own enemy round word turns status rank waits = grind (arith, common_steps)
round-left Karma own enemy round word turns status rank waits = grind (arith, common_steps)
round-left Polka own enemy round word turns status rank waits = grind (arith, common_steps)
round-left Greedy own enemy round word turns status rank waits = grind (arith, common_steps)

-- a wait has at most the turns of its round
pub turns-bounded :
    (manager : Manager) (own enemy round word turns : ℕ) (status : Status) →
    choice manager own enemy status round word ≡ Wait turns → turns ≤ most_turns_of manager round
turns-bounded Polite own enemy round word turns status waits = grind (arith, common_steps, pow_pos)
turns-bounded Karma own enemy round word turns status waits = grind (arith, common_steps)
turns-bounded Polka own enemy round word turns status waits = grind (arith, common_steps, pow_pos)
turns-bounded Greedy own enemy round word turns status waits = grind (arith, common_steps)

-- what is waited from a round on stays within the rounds that are left, and their turns
pub record StaysWithin (manager : Manager) (round : ℕ) (waits : List ℕ) : Type 0 where
  pub rounds : length waits + round ≤ most_rounds manager
  pub turns : sum waits + mark manager round ≤ mark manager (most_rounds manager)

-- nothing is waited
none_within : (manager : Manager) (round : ℕ) → round ≤ most_rounds manager → StaysWithin manager round []
none_within manager round before =
    let last = mark-last manager round before in
    record { rounds = omega (arith, before); turns = omega (arith, last) }

-- one choice, and what is waited later
within_then :
    (manager : Manager) (round : ℕ) (answer : Choice) (later : List ℕ) → round ≤ most_rounds manager →
    ((turns : ℕ) → answer ≡ Wait turns → turns ≤ most_turns_of manager round) →
    ((turns : ℕ) → answer ≡ Wait turns → StaysWithin manager (round + 1) later) →
    StaysWithin manager round (waits_then answer later)
within_then manager round Kill later before few within = none_within manager round before
within_then manager round GiveWay later before few within = none_within manager round before
within_then manager round (Wait turns) later before few within =
    let rest = within turns refl in
    let most = few turns refl in
    let next = mark-next manager round in
    record {
      rounds = grind (arith, rest.rounds);
      turns = grind (arith, sum_by-cons (λ n. n) turns later, rest.turns, most, next);
    }

-- the waits of a meeting, from a round on
pub waits_within :
    (manager : Manager) (own enemy round : ℕ) (moments : List Moment) → IsRank manager enemy →
    round ≤ most_rounds manager → StaysWithin manager round (waits_from manager own enemy round moments)
waits_within manager own enemy round [] rank before = none_within manager round before
waits_within manager own enemy round (moment ∷ later) rank before =
    within_then manager round (choice manager own enemy moment.status round moment.word)
    (waits_from manager own enemy (round + 1) later) before
    (λ turns waits. turns-bounded manager own enemy round moment.word turns moment.status waits)
    (λ turns waits. waits_within manager own enemy (round + 1) later rank
    (round-left manager own enemy round moment.word turns moment.status rank waits))

-- a whole meeting
pub waits_bounded :
    (manager : Manager) (own enemy : ℕ) (moments : List Moment) → IsRank manager enemy →
    IsBounded manager (waits_of manager own enemy moments)
waits_bounded manager own enemy moments rank =
    from manager (waits_within manager own enemy 0 moments rank (omega arith))
  where
    from : (m : Manager) {waits : List ℕ} → StaysWithin m 0 waits → IsBounded m waits
    from Polite within = record { rounds = omega (arith, within.rounds); turns = omega (arith, within.turns) }
    from Karma within = record { rounds = omega (arith, within.rounds); turns = omega (arith, within.turns) }
    from Polka within = record { rounds = omega (arith, within.rounds); turns = omega (arith, within.turns) }
    from Greedy within = record { rounds = omega (arith, within.rounds); turns = omega (arith, within.turns) }
