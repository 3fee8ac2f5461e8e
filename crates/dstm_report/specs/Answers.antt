-- What the reader of reports answers, beside what its text stands for.
use Rattle.std.specs.Prelude.{◌≡◌, ℕ, Result, Err}
use Rattle.dstm_text.specs.Answers.{GivesBy}
use Rattle.dstm_report.specs.declared.error.ReportError.{ReportError}
use Rattle.dstm_report.specs.declared.error.ReportError.TheVariants as errors

-- memory ran out
abbrev pub IsMemory : ReportError → Type 0
IsMemory (errors.Memory e) = Unit {0}
IsMemory (errors.Form line) = ⊥

-- an error tells a line of which this holds, unless memory ran out
abbrev pub TellsLine : (ℕ → Type 0) → ReportError → Type 0
TellsLine P (errors.Memory e) = Unit {0}
TellsLine P (errors.Form line) = P line

-- an error tells how reading ends, unless memory ran out
abbrev pub Fails : {Y : Type 0} → ReportError → Result Y ℕ → Type 0
Fails (errors.Memory e) read = Unit {0}
Fails (errors.Form line) read = read ≡ Err line

-- an answer is what reading gives, unless memory ran out
abbrev pub Gives : {X : Type 0} → Result X ReportError → Result X ℕ → Type 0
Gives result read = GivesBy Fails (λ x. x) result read
