-- Which texts are read as which workload, and where the others are refused.
use Rattle.std.specs.Prelude.{◌≡◌, IsOk, ℕ, ◌+◌, Bool, false, not, List, [], ◌∷◌, ◌++◌, length, map, filter}
use Rattle.std.specs.Prelude.{Option, Some, None, Result, Ok, Err, unwrap_or, slice_index_or, codes}
use Rattle.std.specs.List.{filter_map}
use Rattle.std.specs.Option.{option_map}
use Rattle.std.specs.Str.{bytes_eq}
use Rattle.dstm_text.specs.Lines.{fields_of}
use Rattle.dstm_text.specs.Number.{number_of}
use Rattle.dstm_workload.specs.declared.refused.Why.{Why}
use Rattle.dstm_workload.specs.declared.refused.Why.TheVariants.{Header}
use Rattle.dstm_workload.specs.declared.refused.Refused.{Refused}
use Rattle.dstm_workload.specs.declared.known.Bank.{Bank}
use Rattle.dstm_workload.specs.declared.known.Known.{Known}
use Rattle.dstm_workload.specs.Entry.{Entry}
use Rattle.dstm_workload.specs.declared.workload.Job.{Job}
use Rattle.dstm_workload.specs.declared.workload.Workload.{Workload}
use Rattle.dstm_workload.specs.Answers.{refused}
use Rattle.dstm_workload.specs.Known.{layout_of, jobs_in}
use Rattle.dstm_workload.specs.Entries.{is_comment, header_of, entry_of, worker_count}

-- ---- what lines have told, found among all of them

-- the fields of the lines that are no comments
abbrev pub told_lines : List (List ℕ) → List (List (List ℕ))
told_lines lines = map fields_of (filter (λ line. not (is_comment line)) lines)

abbrev pub begins_with : List ℕ → List (List ℕ) → Bool
begins_with name [] = false
begins_with name (field ∷ fields) = bytes_eq field name

-- the lines that begin with this word
abbrev pub lines_with : List ℕ → List (List ℕ) → List (List (List ℕ))
lines_with name lines = filter (begins_with name) (told_lines lines)

abbrev pub first_of : {A : Type 0} → List A → Option A
first_of [] = None
first_of (x ∷ xs) = Some x

-- the number that the field at a place spells
abbrev pub number_in : ℕ → List (List ℕ) → ℕ
number_in place fields = unwrap_or (number_of (slice_index_or fields place [])) 0

-- the number that stands behind a word, in the first line that begins with it
abbrev pub size_told : List ℕ → List (List ℕ) → Option ℕ
size_told name lines = option_map (number_in 1) (first_of (lines_with name lines))

abbrev pub bank_in : List (List ℕ) → Bank
bank_in fields = record { accounts = number_in 1 fields; opening = number_in 2 fields }

abbrev pub known_of : List (List ℕ) → Known
known_of lines = record {
  version = first_of (filter_map header_of (told_lines lines));
  workers = size_told (codes "workers") lines;
  bank = option_map bank_in (first_of (lines_with (codes "bank") lines));
  list = size_told (codes "list") lines;
  tree = size_told (codes "tree") lines;
  transactions = length (lines_with (codes "tx") lines);
}

-- ---- the workload

-- what each line tells, given the lines before it, in the place of the line after those
abbrev pub line_tells : List (List ℕ) → List ℕ → Result (Option Entry) Why
line_tells before line = entry_of (known_of before) (length before + 1) line

abbrev pub onto : List Job → Result (List Job) Refused → Result (List Job) Refused
onto jobs (Ok more) = Ok (jobs ++ more)
onto jobs (Err r) = Err r

-- a line's jobs before those of the lines after it, or where it is refused
abbrev pub followed_by : ℕ → Result (Option Entry) Why → Result (List Job) Refused → Result (List Job) Refused
followed_by line (Ok told) more = onto (jobs_in told) more
followed_by line (Err why) more = Err (refused line why)

-- the jobs of the lines that follow others, or the first of them that is refused
abbrev pub jobs_after : List (List ℕ) → List (List ℕ) → Result (List Job) Refused
jobs_after before [] = Ok []
jobs_after before (line ∷ lines) =
    followed_by (length before + 1) (line_tells before line) (jobs_after (before ++ line ∷ []) lines)

abbrev pub workload_with : ℕ → Option ℕ → Known → List Job → Result Workload Refused
workload_with last None known jobs = Err (refused (last + 1) Header)
workload_with last (Some version) known jobs =
    Ok (record { version = version; workers = worker_count known; layout = layout_of known; jobs = jobs })

abbrev pub made_of : List (List ℕ) → Result (List Job) Refused → Result Workload Refused
made_of lines (Ok jobs) = workload_with (length lines) (known_of lines).version (known_of lines) jobs
made_of lines (Err r) = Err r

-- what the lines of a text stand for
abbrev pub workload_of : List (List ℕ) → Result Workload Refused
workload_of lines = made_of lines (jobs_after [] lines)

-- ---- the first line that is refused

-- each of these lines, which follow others, is read
abbrev pub AreRead : List (List ℕ) → List (List ℕ) → Type 0
AreRead before [] = Unit {0}
AreRead before (line ∷ lines) = IsOk (line_tells before line) × AreRead (before ++ line ∷ []) lines

-- one of the lines that follow others has the reason, given all lines before it, and those before it
-- are read
pub record IsFirstRefused (before lines : List (List ℕ)) (r : Refused) : Type 0 where
  pub front : List (List ℕ)
  pub line : List ℕ
  pub after : List (List ℕ)
  pub are : lines ≡ front ++ line ∷ after
  pub place : r.line ≡ length (before ++ front) + 1
  pub reason : line_tells (before ++ front) line ≡ Err r.why
  pub earlier : AreRead before front

-- all lines are read, and none is a header
pub record HasNoHeader (lines : List (List ℕ)) (r : Refused) : Type 0 where
  pub read : AreRead [] lines
  pub none : (known_of lines).version ≡ None
  pub is : r ≡ refused (length lines + 1) Header
