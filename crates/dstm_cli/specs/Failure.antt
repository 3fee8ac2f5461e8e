-- How a failure is told: by the status of the program and by a line of text.
use Rattle.std.specs.Prelude.{◌≡◌, ℕ, ◌⊎◌, List, ◌++◌, Option, codes, decimal}
use Rattle.std.specs.Io.KnownBytes.{Appends}
use Rattle.dstm_command.specs.declared.command.WordsError.{WordsError}
use Rattle.dstm_command.specs.declared.command.WordsError.TheVariants as words
use Rattle.dstm_io.specs.Count.{Rises}
use Rattle.dstm_io.specs.Sink.{AppendsPart}
use Rattle.dstm_io.specs.declared.transfer.ReadError.{ReadError}
use Rattle.dstm_io.specs.declared.transfer.ReadError.TheVariants as reads
use Rattle.dstm_report.specs.declared.error.ReportError.{ReportError}
use Rattle.dstm_report.specs.declared.error.ReportError.TheVariants as reports
use Rattle.dstm_workload.specs.declared.refused.WorkloadError.{WorkloadError}
use Rattle.dstm_workload.specs.declared.refused.WorkloadError.TheVariants as workloads
use Rattle.dstm_workload.specs.Answers.{text_of}
use Rattle.dstm_cli.specs.declared.failure.Failure.{Failure}
use Rattle.dstm_cli.specs.declared.failure.Failure.TheVariants.{Usage, ReadFault, TooLong, Refused, NoReport}
use Rattle.dstm_cli.specs.declared.failure.Failure.TheVariants.{ReportForm, WriteFault, Memory}

abbrev pub status_of : Failure → ℕ
status_of Usage = 1
status_of TooLong = 2
status_of (Refused refused) = 2
status_of (NoReport line) = 2
status_of (ReportForm line) = 2
status_of ReadFault = 3
status_of WriteFault = 4
status_of Memory = 5

-- the line that says what stands at a number: a text, the number, a colon and the reason
abbrev pub numbered : List ℕ → ℕ → List ℕ → List ℕ
numbered text number reason = text ++ decimal number ++ codes ": " ++ reason ++ codes "\n"

abbrev pub message_of : Failure → List ℕ
message_of Usage = codes "usage: dstm run, check, gen or demo\n"
message_of TooLong = codes "dstm: input too long\n"
message_of (Refused refused) = numbered (codes "dstm: line ") refused.line (text_of refused.why)
message_of (NoReport line) = numbered (codes "dstm: line ") line (codes "no report")
message_of (ReportForm line) = numbered (codes "dstm: report line ") line (codes "form")
message_of ReadFault = codes "dstm: read fault\n"
message_of WriteFault = codes "dstm: write fault\n"
message_of Memory = codes "dstm: out of memory\n"

-- a sink took the text whole; or it met a fault, and took a part of the text and nothing else
abbrev pub TakesOrFaults : Option (List ℕ) → Option (List ℕ) → (faults_old faults_new : ℕ) → List ℕ → Type 0
TakesOrFaults old new faults_old faults_new text =
    (Appends old new text × (faults_new ≡ faults_old)) ⊎ (AppendsPart old new text × Rises faults_old faults_new)

-- ---- the failures that the errors of the crates below become

abbrev pub of_words : WordsError → Failure
of_words words.Usage = Usage
of_words (words.Memory e) = Memory

abbrev pub of_read : ReadError → Failure
of_read reads.Fault = ReadFault
of_read reads.TooLong = TooLong
of_read (reads.Memory e) = Memory

abbrev pub of_workload : WorkloadError → Failure
of_workload (workloads.Refused refused) = Refused refused
of_workload (workloads.Memory e) = Memory

abbrev pub of_report : ReportError → Failure
of_report (reports.Form line) = ReportForm line
of_report (reports.Memory e) = Memory
