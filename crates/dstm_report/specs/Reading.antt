-- Which lines are read as which report of a version, and at which line others are refused.
use Rattle.std.specs.Prelude.{◌≡◌, ℕ, ◌+◌, ◌-◌, ◌<◌, ◌≤◌, ◌^◌, ◌⊎◌, List, ◌++◌, length, take, IfSome, Result, All}
use Rattle.dstm_model.specs.declared.reply.Reply.{Reply}
use Rattle.dstm_model.specs.declared.reply.Reply.TheVariants.{Number, Absent, Never}
use Rattle.dstm_model.specs.declared.state.Item.{Item}
use Rattle.dstm_text.specs.Lines.{lines_of}
use Rattle.dstm_report.specs.declared.report.Row.{Row}
use Rattle.dstm_report.specs.declared.report.Report.{Report}
use Rattle.dstm_report.specs.Text.{report_text}
use Rattle.dstm_report.specs.Parser.{parsed}

-- ---- what a version can hold

-- the version has the reply, and its number is in range
abbrev pub HasReply : ℕ → Reply → Type 0
HasReply version (Number n) = n ≤ 18446744073709551615
HasReply version Absent = 2 ≤ version
HasReply version Never = 3 ≤ version
HasReply version reply = Unit {0}

-- a row has 1 to 8 replies of the version, and its numbers are in range
pub record HasRow (version : ℕ) (row : Row) : Type 0 where
  pub line : row.line ≤ 18446744073709551615
  pub worker : row.worker ≤ 4294967295
  pub round : row.round ≤ 18446744073709551615
  pub number : row.number ≤ 18446744073709551615
  pub some : 1 ≤ length row.replies
  pub few : length row.replies ≤ 8
  pub replies : All (HasReply version) row.replies

-- the numbers of a row that a run chooses fit 64 bits, and so does the line
pub record FitsRow (row : Row) : Type 0 where
  pub line : row.line < 2 ^ 64
  pub round : row.round < 2 ^ 64
  pub number : row.number < 2 ^ 64

-- in version 1 a key has no value other than 0
pub record HasItem (version : ℕ) (item : Item) : Type 0 where
  pub key : item.key ≤ 18446744073709551615
  pub value : item.value ≤ 18446744073709551615
  pub keys_alone : version ≡ 1 → item.value ≡ 0

abbrev pub IsNumber : ℕ → Type 0
IsNumber n = n ≤ 18446744073709551615

-- the version of the report can hold it
pub record IsHeld (report : Report) : Type 0 where
  pub version : report.version ≤ 18446744073709551615
  pub rows : All (HasRow report.version) report.rows
  pub bank : IfSome report.bank (All IsNumber)
  pub list : IfSome report.list (All IsNumber)
  pub tree : IfSome report.tree (All (HasItem report.version))
  pub count : report.count ≤ 18446744073709551615

-- ---- lines

-- the lines are those of the report's text; it is of the version, which can hold it
pub record AreLinesOf (version : ℕ) (report : Report) (lines : List (List ℕ)) : Type 0 where
  pub same_version : report.version ≡ version
  pub held : IsHeld report
  pub printed : lines ≡ lines_of (report_text report)

-- the lines begin the text of some report of the version
pub record BeginReport (version : ℕ) (lines : List (List ℕ)) : Type 0 where
  pub report : Report
  pub behind : List (List ℕ)
  pub whole : AreLinesOf version report (lines ++ behind)

-- the lines up to this one begin no report's text, and those before it do
pub record IsFirstMisplaced (version : ℕ) (lines : List (List ℕ)) (line : ℕ) : Type 0 where
  pub before : BeginReport version (take (line - 1) lines)
  pub none : ¬ (BeginReport version (take line lines))

-- the lines begin a report's text, and are none: it is missed in the line behind the last
pub record EndEarly (version : ℕ) (lines : List (List ℕ)) (line : ℕ) : Type 0 where
  pub started : BeginReport version lines
  pub none : ¬ ((report : Report) × AreLinesOf version report lines)
  pub behind : line ≡ length lines + 1

-- where the lines are first refused
abbrev pub AreRefusedAt : ℕ → List (List ℕ) → ℕ → Type 0
AreRefusedAt version lines line = IsFirstMisplaced version lines line ⊎ EndEarly version lines line

-- The same as a function: what lines are read as. The laws `read_where_printed` and `refused_where_none_begins` say what
-- it gives.
unfoldable pub report_of : ℕ → List (List ℕ) → Result Report ℕ
report_of version lines = parsed version lines
