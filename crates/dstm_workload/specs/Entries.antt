-- What one line tells, given what the lines before it have told.
use Rattle.std.specs.Prelude.{ℕ, ◌-◌, ◌==◌, Bool, true, false, ◌&&◌, ◌||◌, nat_lt, nat_le, List, [], ◌∷◌, Option}
use Rattle.std.specs.Prelude.{Some, None, Result, Ok, Err, is_some, unwrap_or, codes, if◌then◌else◌}
use Rattle.std.specs.Str.{bytes_eq}
use Rattle.std.specs.List.{list_all}
use Rattle.dstm_text.specs.Lines.{fields_of, line_feed}
use Rattle.dstm_text.specs.Number.{number_of}
use Rattle.dstm_workload.specs.declared.refused.Why.{Why}
use Rattle.dstm_workload.specs.declared.refused.Why.TheVariants.{Header, Bytes, Unknown, Missing, Twice, Late, TooMany}
use Rattle.dstm_workload.specs.declared.word.Word.{Word}
use Rattle.dstm_workload.specs.declared.word.Word.TheVariants as word
use Rattle.dstm_workload.specs.declared.known.Known.{Known}
use Rattle.dstm_workload.specs.Entry.{Entry}
use Rattle.dstm_workload.specs.Entry as entry
use Rattle.dstm_workload.specs.Words.{word_of}
use Rattle.dstm_text.specs.Results.{◌>>=◌}
use Rattle.dstm_workload.specs.Fields.{number_at, end_at}
use Rattle.dstm_workload.specs.Operations.{operands_at, ops_at}
use Rattle.dstm_workload.specs.Table.{Kind, WorkerCount, AccountCount, Opening, ListSize, TreeSize, Operands}

-- a line that begins with `#`
abbrev pub is_comment : List ℕ → Bool
is_comment [] = false
is_comment (b ∷ line) = b == 35

-- a byte that a line may hold
abbrev pub is_printable : ℕ → Bool
is_printable b = nat_le 32 b && nat_le b 126

-- a byte of a text whose lines are all printable
abbrev pub is_clean : ℕ → Bool
is_clean b = is_printable b || b == line_feed

abbrev pub are_printable : List (List ℕ) → Bool
are_printable lines = list_all (λ line. list_all is_printable line) lines

-- the version of the header with these fields: `dstm` and 1, 2 or 3
abbrev pub version_in : Option ℕ → Option ℕ
version_in None = None
version_in (Some n) = if nat_le 1 n && nat_le n 3 then Some n else None

abbrev pub header_of : List (List ℕ) → Option ℕ
header_of (name ∷ version ∷ []) =
    if bytes_eq name (codes "dstm") then version_in (number_of version) else None
header_of fields = None

abbrev pub header_at : Option ℕ → Result Entry Why
header_at None = Err Header
header_at (Some version) = Ok (entry.Version version)

-- ---- declarations

-- a declaration may come: there is no transaction yet, and it was not made before
abbrev pub free_for : Known → Bool → Result Bool Why
free_for known declared =
    if nat_lt 0 known.transactions then Err Late else if declared then Err Twice else Ok true

-- a declaration: what is declared already, its numbers, and what they tell
pub record Declaration : Type 0 where
  pub made : Known → Bool
  pub kinds : List Kind
  pub tells : Operands kinds → Entry

abbrev pub workers : Declaration
workers = record {
  made = λ known. is_some known.workers;
  kinds = WorkerCount ∷ [];
  tells = λ n. entry.Workers n.0;
}

abbrev pub bank : Declaration
bank = record {
  made = λ known. is_some known.bank;
  kinds = AccountCount ∷ Opening ∷ [];
  tells = λ n. entry.Bank (record { accounts = n.0; opening = n.1.0 });
}

abbrev pub list : Declaration
list = record { made = λ known. is_some known.list; kinds = ListSize ∷ []; tells = λ n. entry.List n.0 }

abbrev pub tree : Declaration
tree = record { made = λ known. is_some known.tree; kinds = TreeSize ∷ []; tells = λ n. entry.Tree n.0 }

unfoldable pub declaration_at : Declaration → ℕ → Known → List (List ℕ) → Result Entry Why
declaration_at declaration version known fields = do
  free ← free_for known (declaration.made known)
  numbers ← operands_at version known declaration.kinds fields
  end ← end_at numbers.1
  Ok (declaration.tells numbers.0)

-- ---- transactions

-- how many workers there are
abbrev pub worker_count : Known → ℕ
worker_count known = unwrap_or known.workers 1

abbrev pub room_for_job : Known → Result Bool Why
room_for_job known = if nat_lt known.transactions 20000 then Ok true else Err TooMany

unfoldable pub transaction_at : ℕ → Known → ℕ → List (List ℕ) → Result Entry Why
transaction_at version known line fields = do
  room ← room_for_job known
  worker ← number_at 0 (worker_count known - 1) fields
  ops ← ops_at version known worker.1
  Ok (entry.Transaction (record { line = line; worker = worker.0; ops = ops }))

-- ---- lines

abbrev pub body_of : ℕ → Known → ℕ → List (List ℕ) → Option Word → Result Entry Why
body_of version known line fields (Some word.Workers) = declaration_at workers version known fields
body_of version known line fields (Some word.Bank) = declaration_at bank version known fields
body_of version known line fields (Some word.List) = declaration_at list version known fields
body_of version known line fields (Some word.Tree) = declaration_at tree version known fields
body_of version known line fields (Some word.Tx) = transaction_at version known line fields
body_of version known line fields (Some other) = Err Unknown
body_of version known line fields None = Err Unknown

-- a line behind the header
unfoldable pub body_at : ℕ → Known → ℕ → List (List ℕ) → Result Entry Why
body_at version known line [] = Err Missing
body_at version known line (field ∷ fields) = body_of version known line fields (word_of version field)

abbrev pub told_by : Option ℕ → Known → ℕ → List (List ℕ) → Result Entry Why
told_by None known line fields = header_at (header_of fields)
told_by (Some version) known line fields = body_at version known line fields

abbrev pub something : Result Entry Why → Result (Option Entry) Why
something (Ok e) = Ok (Some e)
something (Err why) = Err why

-- what a line tells, if it has fields
abbrev pub fields_tell : Known → ℕ → List ℕ → List (List ℕ) → Result (Option Entry) Why
fields_tell known line text [] = Ok None
fields_tell known line text (field ∷ fields) =
    if list_all is_printable text
    then something (told_by known.version known line (field ∷ fields))
    else Err Bytes

-- what the line with this number tells; a comment and a line without fields tell nothing
unfoldable pub entry_of : Known → ℕ → List ℕ → Result (Option Entry) Why
entry_of known line text = if is_comment text then Ok None else fields_tell known line text (fields_of text)
