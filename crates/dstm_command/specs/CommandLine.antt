-- What the words of a command line ask for.
use Rattle.std.specs.Prelude.{ℕ, ◌≤◌, ◌&&◌, ◌||◌, Bool, true, not, List, [], ◌∷◌, Option, None, Some, is_some, option_map, option_and_then, codes, nat_le, if◌then◌else◌}
use Rattle.std.specs.List.{list_any}
use Rattle.std.specs.Str.{bytes_eq}
use Rattle.dstm_core.specs.declared.shape.Manager.{Manager}
use Rattle.dstm_core.specs.declared.shape.Manager.TheVariants.{Polite, Karma, Polka, Greedy}
use Rattle.dstm_options.specs.declared.options.Engine.{Engine}
use Rattle.dstm_options.specs.declared.options.Engine.TheVariants.{Dstm, Tl2}
use Rattle.dstm_options.specs.declared.options.Options.{Options as Chosen}
use Rattle.dstm_text.specs.Number.{number_of}
use Rattle.dstm_command.specs.declared.command.Command.{Command}
use Rattle.dstm_command.specs.declared.command.Command.TheVariants.{Run, Check, Gen, Demo}
use Rattle.dstm_command.specs.declared.command.GenSpec.{GenSpec}
use Rattle.dstm_command.specs.Options.{Given, Table, Text, flag, is_given, options_in, valued, value_of}

-- ---- values

-- the plain decimal from `least` to `most` that a text spells
abbrev pub number_in : ℕ → ℕ → Text → Option ℕ
number_in least most text =
    option_and_then (λ n. if nat_le least n && nat_le n most then Some n else None) (number_of text)

-- a seed is any number of 64 bits
abbrev pub seed_of : Text → Option ℕ
seed_of = number_in 0 18446744073709551615

abbrev pub manager_of : Text → Option Manager
manager_of text =
    if bytes_eq (codes "polite") text then Some Polite
    else (if bytes_eq (codes "karma") text then Some Karma
    else (if bytes_eq (codes "polka") text then Some Polka
    else (if bytes_eq (codes "greedy") text then Some Greedy else None)))

abbrev pub engine_of : Text → Option Engine
engine_of text =
    if bytes_eq (codes "dstm") text then Some Dstm
    else (if bytes_eq (codes "tl2") text then Some Tl2 else None)

-- ---- the options of `run`

-- `--engine E`, `--manager M`, `--seed S`, `--all-write` and `--release`
abbrev pub run_options : Table
run_options = valued (codes "engine") ∷ valued (codes "manager") ∷ valued (codes "seed") ∷ flag (codes "all-write")
    ∷ flag (codes "release") ∷ []

-- what a value says, or the default where there is none
abbrev pub value_or : {X : Type 0} → X → (Text → Option X) → Option Text → Option X
value_or default read None = Some default
value_or default read (Some text) = read text

-- there is a word that means something under DSTM alone: a manager, `--all-write` or `--release`
abbrev pub is_for_dstm : Given → Bool
is_for_dstm given =
    is_some (value_of (codes "manager") given) || is_given (codes "all-write") given || is_given (codes "release") given

-- TL2 takes no such word
abbrev pub suits : Engine → (for_dstm : Bool) → Bool
suits Dstm for_dstm = true
suits Tl2 for_dstm = not for_dstm

abbrev pub run_with : Engine → Manager → ℕ → Given → Chosen
run_with engine manager seed given = record {
  manager = manager;
  seed = seed;
  all_write = is_given (codes "all-write") given;
  release = is_given (codes "release") given;
  engine = engine;
}

-- the options with their values read: without one the engine dstm, polka, the seed 0, and the flags off
abbrev pub run_of : Given → Option Chosen
run_of given = option_and_then (λ engine. option_and_then (λ manager. option_and_then (λ seed.
    if suits engine (is_for_dstm given) then Some (run_with engine manager seed given) else None)
    (value_or 0 seed_of (value_of (codes "seed") given)))
    (value_or Polka manager_of (value_of (codes "manager") given)))
    (value_or Dstm engine_of (value_of (codes "engine") given))

-- ---- commands

abbrev pub spec_with : ℕ → ℕ → ℕ → GenSpec
spec_with seed count workers = record { seed = seed; count = count; workers = workers }

-- a seed, a count from 0 to 20,000 and from 1 to 32 workers
abbrev pub spec_of : Text → Text → Text → Option GenSpec
spec_of seed count workers = option_and_then (λ s. option_and_then (λ c.
    option_map (λ w. spec_with s c w) (number_in 1 32 workers))
    (number_in 0 20000 count)) (seed_of seed)

-- `SEED COUNT WORKERS`
abbrev pub spec_in : List Text → Option GenSpec
spec_in (seed ∷ count ∷ workers ∷ []) = spec_of seed count workers
spec_in _ = None

abbrev pub check_in : List Text → Option Command
check_in [] = Some Check
check_in (word ∷ words) = None

abbrev pub command_named : Text → List Text → Option Command
command_named name words =
    if bytes_eq (codes "run") name
    then option_map Run (option_and_then run_of (options_in run_options words))
    else (if bytes_eq (codes "check") name then check_in words
    else (if bytes_eq (codes "gen") name then option_map Gen (spec_in words)
    else (if bytes_eq (codes "demo") name then option_map Demo (spec_in words) else None)))

-- a generated workload has at most 20,000 transactions, and from 1 to 32 workers
pub record IsSmall (spec : GenSpec) : Type 0 where
  pub few_transactions : spec.count ≤ 20000
  pub some_worker : 1 ≤ spec.workers
  pub few_workers : spec.workers ≤ 32

-- what a command generates is small
abbrev pub IsSmallCommand : Command → Type 0
IsSmallCommand (Gen spec) = IsSmall spec
IsSmallCommand (Demo spec) = IsSmall spec
IsSmallCommand command = Unit {0}

-- the word is `--`
abbrev pub is_two_hyphens : Text → Bool
is_two_hyphens word = bytes_eq word (codes "--")

-- the command of a line whose first word is the program's name; a line with a word `--` has none
abbrev pub command_of : List Text → Option Command
command_of [] = None
command_of (program ∷ []) = None
command_of (program ∷ name ∷ words) =
    if list_any is_two_hyphens words then None else command_named name words
