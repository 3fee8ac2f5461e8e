-- Private: how a command ends, and how its parts fail.
use Rattle.std.specs.Prelude.{◌≡◌, ℕ, true, List, [], Option, None, IfSome, Result, Ok, Err}
use Rattle.std.specs.Io.KnownBytes.{Appends, Keeps}
use Rattle.dstm_io.specs.Count.{Rises}
use Rattle.dstm_io.specs.Sink.{AppendsPart}
use Rattle.dstm_command.specs.declared.command.Command.{Command}
use Rattle.dstm_cli.specs.declared.failure.Failure.{Failure}
use Rattle.dstm_cli.specs.declared.failure.Failure.TheVariants.{Usage, ReadFault}
use Rattle.dstm_cli.specs.declared.failure.Failure.TheVariants.{WriteFault, Memory}
use Rattle.dstm_jobs.specs.Tables.{Round}
use Rattle.dstm_cli.specs.Command.{reads_input, Refuses, Answers}

-- What happened to the source, to the sink and to the rounds of a command: the bytes left at the one and taken by the other,
-- which are unknown where they are not told, their counts of faults, and the records that were added.
pub record Happened : Type 0 where
  pub left_before : Option (List ℕ)
  pub left_after : Option (List ℕ)
  pub read_faults_before : ℕ
  pub read_faults_after : ℕ
  pub taken_before : Option (List ℕ)
  pub taken_after : Option (List ℕ)
  pub write_faults_before : ℕ
  pub write_faults_after : ℕ
  pub records : List Round

-- How reading fails, where `Refuses` tells which inputs are refused and why: the source, which had these bytes left, met
-- a fault, its input is refused, or memory ran out.
abbrev pub Fails : (List ℕ → Failure → Type 0) → Option (List ℕ) → (faults_before faults_after : ℕ) → Failure → Type 0
Fails Refuses left before after Usage = ⊥
Fails Refuses left before after ReadFault = Rises before after
Fails Refuses left before after WriteFault = ⊥
Fails Refuses left before after Memory = Unit {0}
Fails Refuses left before after failure = IfSome left (λ input. Refuses input failure)

-- it wrote nothing and added no record
abbrev pub DidNothing : Happened → Type 0
DidNothing what = Keeps what.taken_before what.taken_after × (what.records ≡ [])

-- how a command ends
abbrev pub EndsAs : Option Command → Happened → Result ℕ Failure → Type 0
EndsAs command what (Ok status) =
    (text : List ℕ) × (Answers command (what.left_before, what.left_after) what.records text status
    × Appends what.taken_before what.taken_after text)
EndsAs command what (Err Usage) = (command ≡ None) × DidNothing what
EndsAs command what (Err WriteFault) =
    Rises what.write_faults_before what.write_faults_after
    × ((text : List ℕ) × ((status : ℕ) × (Answers command (what.left_before, what.left_after) what.records text status
    × AppendsPart what.taken_before what.taken_after text)))
EndsAs command what (Err Memory) = Keeps what.taken_before what.taken_after
EndsAs command what (Err failure) =
    (reads_input command ≡ true)
    × Fails (Refuses command) what.left_before what.read_faults_before what.read_faults_after failure
    × DidNothing what
