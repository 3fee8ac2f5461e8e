-- What the commands read, what they write, and with which status they end.
use Rattle.std.specs.Prelude.{◌≡◌, ℕ, ◌+◌, Bool, true, false, nat_le, if◌then◌else◌, String, string_bytes, List, []}
use Rattle.std.specs.Prelude.{◌++◌, ◌⊎◌}
use Rattle.std.specs.Prelude.{length, map, sum, Option, Some, None, IfSome, Result, Ok, Err, IsOk, codes, decimal}
use Rattle.std.specs.Global.{Global}
use Rattle.dstm_text.specs.Lines.{lines_of, split_lines}
use Rattle.dstm_command.specs.declared.command.Command.{Command}
use Rattle.dstm_command.specs.declared.command.Command.TheVariants.{Run, Check, Gen, Demo}
use Rattle.dstm_command.specs.declared.command.GenSpec.{GenSpec}
use Rattle.dstm_command.specs.CommandLine.{command_of}
use Rattle.dstm_core.specs.declared.shape.Manager.TheVariants.{Polka}
use Rattle.dstm_gen.specs.Words.{words_of_seed}
use Rattle.dstm_gen.specs.Generated.{generated}
use Rattle.dstm_workload.specs.declared.workload.Workload.{Workload}
use Rattle.dstm_workload.specs.declared.refused.Refused.{Refused as Refusal}
use Rattle.dstm_workload.specs.Reading.{workload_of}
use Rattle.dstm_workload.specs.Workload.{IsValidWorkload}
use Rattle.dstm_workload.specs.Writing.{text_of_workload}
use Rattle.dstm_report.specs.declared.report.Report.{Report}
use Rattle.dstm_report.specs.declared.verdict.Verdict.{Verdict}
use Rattle.dstm_report.specs.declared.verdict.Verdict.TheVariants.{Lawful, NotLawful}
use Rattle.dstm_report.specs.Reading.{report_of, IsHeld}
use Rattle.dstm_report.specs.Text.{report_text}
use Rattle.dstm_report.specs.Lawful.{IsLawful, Tells}
use Rattle.dstm_options.specs.declared.options.Engine.TheVariants.{Dstm}
use Rattle.dstm_options.specs.declared.options.Options.{Options}
use Rattle.dstm_jobs.specs.Tables.{Round}
use Rattle.dstm_records.specs.Records.{AreFirstRounds, StandFor}
use Rattle.dstm_cli.specs.declared.failure.Failure.{Failure}
use Rattle.dstm_cli.specs.declared.failure.Failure.TheVariants.{TooLong, Refused, NoReport, ReportForm}

-- the command that words ask for, the first of which is the program's name
abbrev pub asked : List (String Global) → Option Command
asked words = command_of (map string_bytes words)

-- ---- what a command reads

-- what the lines of an input stand for, if it has at most so many bytes
abbrev pub read_within : {A : Type 0} → ℕ → (List (List ℕ) → Result A Failure) → List ℕ → Result A Failure
read_within limit read input = if nat_le (length input) limit then read (lines_of input) else Err TooLong

abbrev pub or_refused : Result Workload Refusal → Result Workload Failure
or_refused (Ok workload) = Ok workload
or_refused (Err refused) = Err (Refused refused)

-- `run` reads a workload
abbrev pub run_input : List ℕ → Result Workload Failure
run_input = read_within 4194304 (λ lines. or_refused (workload_of lines))

-- a report beside its workload
abbrev pub beside : Workload → Result Report ℕ → Result (Workload × Report) Failure
beside workload (Ok report) = Ok (workload, report)
beside workload (Err line) = Err (ReportForm line)

-- the report on a workload, among so many lines in all, where these stand behind the line `---`
abbrev pub reported : ℕ → Option (List (List ℕ)) → Workload → Result (Workload × Report) Failure
reported count None workload = Err (NoReport (count + 1))
reported count (Some behind) workload = beside workload (report_of workload.version behind)

abbrev pub then_reported : ℕ → Option (List (List ℕ)) → Result Workload Refusal → Result (Workload × Report) Failure
then_reported count behind (Ok workload) = reported count behind workload
then_reported count behind (Err refused) = Err (Refused refused)

-- a workload and a report on it, before and behind the first line `---`
abbrev pub case_of : List (List ℕ) → Result (Workload × Report) Failure
case_of lines =
    then_reported (length lines) (split_lines (codes "---") lines).1 (workload_of (split_lines (codes "---") lines).0)

-- the text of a workload, the line `---` and the text of a report
abbrev pub case_text : Workload → Report → List ℕ
case_text workload report = text_of_workload workload ++ codes "---\n" ++ report_text report

-- `check` reads a workload and a report on it
abbrev pub check_input : List ℕ → Result (Workload × Report) Failure
check_input = read_within 8388608 case_of

-- the command reads an input
abbrev pub reads_input : Option Command → Bool
reads_input (Some (Run options)) = true
reads_input (Some Check) = true
reads_input command = false

-- the command refuses an input for this reason: there is too much of it, or it does not stand for what is read
abbrev pub Refuses : Option Command → List ℕ → Failure → Type 0
Refuses (Some (Run options)) input failure = run_input input ≡ Err failure
Refuses (Some Check) input failure = check_input input ≡ Err failure
Refuses command input failure = ⊥

-- ---- how a command runs a workload

-- as `run` does where its words say nothing
abbrev pub default_options : Options
default_options = record { manager = Polka; seed = 0; all_write = false; release = false; engine = Dstm }

-- ---- what a command writes

-- the text is that of a report that is lawful for the workload, and that its version can hold; the records stand for it
abbrev pub IsReportOf : Workload → Options → List Round → List ℕ → Type 0
IsReportOf workload options records text =
    (report : Report) × (IsLawful workload report × StandFor workload options records report
    × IsHeld report × (text ≡ report_text report))

abbrev pub verdict_text : Verdict → List ℕ
verdict_text Lawful = codes "lawful\n"
verdict_text (NotLawful line) = codes "not lawful: line " ++ decimal line ++ codes "\n"

abbrev pub verdict_status : Verdict → ℕ
verdict_status Lawful = 0
verdict_status (NotLawful line) = 6

abbrev pub workload_for : GenSpec → Workload
workload_for spec = generated (words_of_seed spec.seed) spec.count spec.workers

abbrev pub demo_text : ℕ → ℕ → Verdict → List ℕ
demo_text count total verdict =
    codes "transactions " ++ decimal count ++ codes "\ntotal " ++ decimal total ++ codes "\n" ++ verdict_text verdict

-- The text of `demo`. There is a lawful report for the generated workload, for which the records stand, and its balances
-- have this sum.
pub record IsDemo (spec : GenSpec) (records : List Round) (text : List ℕ) : Type 0 where
  pub report : Report
  pub lawful : IsLawful (workload_for spec) report
  pub stand : StandFor (workload_for spec) default_options records report
  pub balances : IfSome report.bank (λ bank. sum bank ≡ 8000)
  pub is : text ≡ demo_text spec.count 8000 Lawful

-- All bytes that were left before are taken, and this holds of them. A source may not tell them: then nothing is said.
abbrev pub OfAll : Option (List ℕ) × Option (List ℕ) → (List ℕ → Type 0) → Type 0
OfAll left P = IfSome left.0 (λ input. (left.1 ≡ Some []) × P input)

-- the input stands for a valid workload, the text is that of a lawful report on it, for which
-- the records stand
abbrev pub HasRun : Options → Option (List ℕ) × Option (List ℕ) → List Round → List ℕ → Type 0
HasRun options left records text = (workload : Workload) × (IsReportOf workload options records text ×
    (IsValidWorkload workload × OfAll left (λ input. run_input input ≡ Ok workload)))

-- the input stands for a workload and a report, and the text and the status are those of the verdict on it
abbrev pub HasJudged : Option (List ℕ) × Option (List ℕ) → List ℕ → ℕ → Type 0
HasJudged left text status =
    (verdict : Verdict) × ((text ≡ verdict_text verdict) × (status ≡ verdict_status verdict)
    × ((case : Workload × Report) × (Tells case.0 case.1 verdict × OfAll left (λ input. check_input input ≡ Ok case))))

-- The command writes this text, and then ends with this status. Of its source, `left` are the bytes before and after;
-- `records` are those of the rounds that it has added.
abbrev pub Answers : Option Command → Option (List ℕ) × Option (List ℕ) → List Round → List ℕ → ℕ → Type 0
Answers None left records text status = ⊥
Answers (Some (Run options)) left records text status = (status ≡ 0) × HasRun options left records text
Answers (Some Check) left records text status = (records ≡ []) × HasJudged left text status
Answers (Some (Gen spec)) left records text status =
    (records ≡ []) × (status ≡ 0) × (text ≡ text_of_workload (workload_for spec))
Answers (Some (Demo spec)) left records text status = (status ≡ 0) × IsDemo spec records text

-- The records are those of the first rounds of a run of the valid workload that the command runs, one behind the other.
-- Where it runs none, or its input was not read, there are none.
abbrev pub WereClosed : Option Command → Option (List ℕ) × Option (List ℕ) → List Round → Type 0
WereClosed (Some (Run options)) left records =
    (records ≡ []) ⊎ ((workload : Workload) × (AreFirstRounds workload options records
    × (IsValidWorkload workload × OfAll left (λ input. run_input input ≡ Ok workload))))
WereClosed (Some (Demo spec)) left records = AreFirstRounds (workload_for spec) default_options records
WereClosed command left records = records ≡ []

-- ---- when a command answers

-- the bytes are known, and this holds of them
abbrev pub IsKnown : Option (List ℕ) → (List ℕ → Type 0) → Type 0
IsKnown None P = ⊥
IsKnown (Some input) P = P input

-- the command reads nothing, or its input stands for what it reads
abbrev pub CanAnswer : Option Command → Option (List ℕ) → Type 0
CanAnswer None left = ⊥
CanAnswer (Some (Run options)) left = IsKnown left (λ input. IsOk (run_input input))
CanAnswer (Some Check) left = IsKnown left (λ input. IsOk (check_input input))
CanAnswer (Some (Gen spec)) left = Unit {0}
CanAnswer (Some (Demo spec)) left = Unit {0}
