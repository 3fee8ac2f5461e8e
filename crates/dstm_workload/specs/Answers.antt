-- What a reader answers, beside what its text stands for.
use Rattle.std.specs.Prelude.{◌≡◌, ℕ, List, Result, Err, codes}
use Rattle.dstm_text.specs.Answers.{GivesBy as GivesSeen}
use Rattle.dstm_workload.specs.declared.refused.Why.{Why}
use Rattle.dstm_workload.specs.declared.refused.Why.TheVariants.{Header, Bytes, Unknown, Missing, Extra, Number}
use Rattle.dstm_workload.specs.declared.refused.Why.TheVariants.{OutOfRange, Twice, Late, Undeclared, TooMany}
use Rattle.dstm_workload.specs.declared.refused.Refused.{Refused}
use Rattle.dstm_workload.specs.declared.refused.WorkloadError.{WorkloadError}
use Rattle.dstm_workload.specs.declared.refused.WorkloadError.TheVariants as errors

-- how a reason is printed
abbrev pub text_of : Why → List ℕ
text_of Header = codes "header"
text_of Bytes = codes "bytes"
text_of Unknown = codes "unknown"
text_of Missing = codes "missing"
text_of Extra = codes "extra"
text_of Number = codes "number"
text_of OutOfRange = codes "out of range"
text_of Twice = codes "twice"
text_of Late = codes "late"
text_of Undeclared = codes "undeclared"
text_of TooMany = codes "too many"

abbrev pub refused : ℕ → Why → Refused
refused line why = record { line = line; why = why }

-- an error tells how reading ends, unless memory ran out
abbrev pub Fails : {Y : Type 0} → WorkloadError → Result Y Refused → Type 0
Fails (errors.Memory e) read = Unit {0}
Fails (errors.Refused r) read = read ≡ Err r

-- an answer, seen by view, is what reading gives, unless memory ran out
abbrev pub GivesBy : {X Y : Type 0} → (X → Y) → Result X WorkloadError → Result Y Refused → Type 0
GivesBy view result read = GivesSeen Fails view result read

abbrev pub Gives : {X : Type 0} → Result X WorkloadError → Result X Refused → Type 0
Gives result read = GivesBy (λ x. x) result read

-- memory ran out
abbrev pub IsMemory : WorkloadError → Type 0
IsMemory (errors.Memory e) = Unit {0}
IsMemory (errors.Refused r) = ⊥
