-- What each manager does about an enemy.
use Rattle.std.specs.Prelude.{ℕ, ◌+◌, ◌*◌, ◌%◌, ◌^◌, ◌||◌, Bool, true, false, nat_lt, nat_le, min, if◌then◌else◌}
use Rattle.dstm_core.specs.declared.shape.Manager.{Manager}
use Rattle.dstm_core.specs.declared.shape.Manager.TheVariants.{Polite, Karma, Polka, Greedy}
use Rattle.dstm_core.specs.declared.status.Status.{Status}
use Rattle.dstm_core.specs.declared.status.Status.TheVariants as status
use Rattle.rand_core.specs.Pcg32Seed.{pcg32_seed}
use Rattle.rand_pcg.specs.Lcg.{Lcg}
use Rattle.rand_pcg.specs.Pcg.{pcg32, pcg32_of_seed}
use Rattle.dstm_managers.specs.declared.decider.Choice.{Choice}
use Rattle.dstm_managers.specs.declared.decider.Choice.TheVariants.{Kill, Wait, GiveWay}

-- what a contract sees of a decider
pub record DeciderState : Type 0 where
  pub manager : Manager
  pub generator : Lcg

-- a new decider, whose words are those of the generator that the seed gives
abbrev pub started : Manager → ℕ → DeciderState
started manager seed = record {
  manager = manager;
  generator = pcg32_of_seed (pcg32_seed 16 seed);
}

-- the next word of its generator
abbrev pub next_word : DeciderState → ℕ
next_word decider = (pcg32 decider.generator).0

-- the decider without that word
abbrev pub without_word : DeciderState → DeciderState
without_word decider = record decider { generator = (pcg32 decider.generator).1 }

abbrev pub is_waiting : Status → Bool
is_waiting status.Waiting = true
is_waiting _ = false

-- whether an enemy of this rank and status is aborted, after so many rounds of waiting for it
abbrev pub kills : Manager → (own enemy : ℕ) → Status → (round : ℕ) → Bool
kills Polite own enemy status round = nat_le 8 round
kills Karma own enemy status round = nat_lt enemy (round + own)
kills Polka own enemy status round = nat_lt enemy (round + own)
kills Greedy own enemy status round = nat_lt own enemy || is_waiting status

-- the greatest number of turns of the wait after so many rounds, under a manager that waits
abbrev pub most_turns_of : Manager → (round : ℕ) → ℕ
most_turns_of Polite round = 4 * 2 ^ round
most_turns_of Karma round = 4
most_turns_of Polka round = 2 ^ min round 8
most_turns_of Greedy round = 0

-- what is done about an enemy that is not aborted
abbrev pub patience : Manager → (round word : ℕ) → Choice
patience Polite round word = Wait (1 + word % (4 * 2 ^ round))
patience Karma round word = Wait 4
patience Polka round word = Wait (1 + word % 2 ^ min round 8)
patience Greedy round word = GiveWay

-- what is done about an enemy, where this is the next word
abbrev pub choice : Manager → (own enemy : ℕ) → Status → (round word : ℕ) → Choice
choice manager own enemy status round word =
    if kills manager own enemy status round then Kill else patience manager round word

-- a wait of a random length takes a word, and nothing else does
abbrev pub takes_word : Manager → Choice → Bool
takes_word Polite (Wait turns) = true
takes_word Polka (Wait turns) = true
takes_word _ _ = false

-- the decider after a choice
abbrev pub decider_after : DeciderState → Choice → DeciderState
decider_after decider choice =
    if takes_word decider.manager choice then without_word decider else decider
