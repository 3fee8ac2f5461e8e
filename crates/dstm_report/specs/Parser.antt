-- Private: how the reader goes through lines. What it comes to stands in Reading.antt; no contract that others read
-- cites these definitions.
use Rattle.std.specs.Prelude.{ℕ, ◌+◌, ◌-◌, ◌==◌, Bool, false, nat_lt, nat_le, ◌&&◌, if◌then◌else◌}
use Rattle.std.specs.Prelude.{List, [], ◌∷◌, ◌++◌, Option, Some, None, Result, Ok, Err, codes}
use Rattle.std.specs.Option.{option_map, option_or}
use Rattle.std.specs.Str.{bytes_eq}
use Rattle.dstm_model.specs.declared.reply.Reply.{Reply}
use Rattle.dstm_model.specs.declared.reply.Reply.TheVariants.{Moved, Poor, Number, Yes, No, Full, Absent, Never}
use Rattle.dstm_model.specs.declared.state.Item.{Item}
use Rattle.dstm_text.specs.Options.{◌>>=◌}
use Rattle.dstm_text.specs.Lines.{pieces, space}
use Rattle.dstm_text.specs.Number.{number_of}
use Rattle.dstm_report.specs.declared.draft.Draft.{Draft}
use Rattle.dstm_report.specs.declared.draft.Part.{Part}
use Rattle.dstm_report.specs.declared.draft.Part.TheVariants as part
use Rattle.dstm_report.specs.declared.report.Row.{Row}
use Rattle.dstm_report.specs.declared.report.Report.{Report}

-- ---- words

-- stands between a key and its value
abbrev pub colon : ℕ
colon = 58

-- stands between a round and a number
abbrev pub dot : ℕ
dot = 46

-- the words after the first, which is this one
abbrev pub after_word : List ℕ → List (List ℕ) → Option (List (List ℕ))
after_word text [] = None
after_word text (word ∷ words) = if bytes_eq word text then Some words else None

abbrev pub up_to : ℕ → Option ℕ → Option ℕ
up_to most None = None
up_to most (Some n) = if nat_le n most then Some n else None

-- the number that a word spells, at most this one
abbrev pub number_in : ℕ → List ℕ → Option ℕ
number_in most word = up_to most (number_of word)

-- a number, and the words after it
abbrev pub number_at : ℕ → List (List ℕ) → Option (ℕ × List (List ℕ))
number_at most [] = None
number_at most (word ∷ words) = do
  n ← number_in most word
  Some (n, words)

-- no word is left
abbrev pub at_end : List (List ℕ) → Option (List (List ℕ))
at_end [] = Some []
at_end (word ∷ words) = None

-- two numbers with a separator between them
abbrev pub both_numbers : List (List ℕ) → Option (ℕ × ℕ)
both_numbers (a ∷ b ∷ []) = do
  n ← number_in 18446744073709551615 a
  m ← number_in 18446744073709551615 b
  Some (n, m)
both_numbers words = None

abbrev pub pair_of : ℕ → List ℕ → Option (ℕ × ℕ)
pair_of separator word = both_numbers (pieces separator word)

-- `ROUND.NUMBER`, and the words after it
abbrev pub place_at : List (List ℕ) → Option ((ℕ × ℕ) × List (List ℕ))
place_at [] = None
place_at (word ∷ words) = do
  place ← pair_of dot word
  Some (place, words)

-- ---- rows

-- the words that stand for replies; `none` belongs to versions 2 and 3, `never` to version 3
abbrev pub known_reply : ℕ → List ℕ → Option Reply
known_reply version word =
    if bytes_eq word (codes "ok") then Some Moved
    else if bytes_eq word (codes "poor") then Some Poor
    else if bytes_eq word (codes "true") then Some Yes
    else if bytes_eq word (codes "false") then Some No
    else if bytes_eq word (codes "full") then Some Full
    else if bytes_eq word (codes "none") && nat_le 2 version then Some Absent
    else if bytes_eq word (codes "never") && nat_le 3 version then Some Never
    else None

abbrev pub number_reply : Option ℕ → Option Reply
number_reply None = None
number_reply (Some n) = Some (Number n)

abbrev pub reply_of : ℕ → List ℕ → Option Reply
reply_of version word = option_or (known_reply version word) (number_reply (number_in 18446744073709551615 word))

-- a reply behind a `;`
abbrev pub further_reply : ℕ → List ℕ → List ℕ → Option Reply
further_reply version mark word = if bytes_eq mark (codes ";") then reply_of version word else None

-- further replies, where there is room for so many
abbrev pub further_replies : ℕ → ℕ → List (List ℕ) → Option (List Reply)
further_replies version room [] = Some []
further_replies version room (mark ∷ []) = None
further_replies version room (mark ∷ word ∷ words) =
    if nat_lt 0 room then (do
      reply ← further_reply version mark word
      replies ← further_replies version (room - 1) words
      Some (reply ∷ replies))
    else None

abbrev pub replies_of : ℕ → List (List ℕ) → Option (List Reply)
replies_of version [] = None
replies_of version (word ∷ words) = do
  reply ← reply_of version word
  replies ← further_replies version 7 words
  Some (reply ∷ replies)

-- `LINE WORKER ROUND.NUMBER REPLY ; REPLY ..`
unfoldable pub row_of : ℕ → List (List ℕ) → Option Row
row_of version words = do
  line ← number_at 18446744073709551615 words
  worker ← number_at 4294967295 line.1
  place ← place_at worker.1
  replies ← replies_of version place.1
  Some (record { line = line.0; worker = worker.0; round = place.0.0; number = place.0.1; replies = replies })

-- ---- what a structure holds

abbrev pub numbers_of : List (List ℕ) → Option (List ℕ)
numbers_of [] = Some []
numbers_of (word ∷ words) = do
  n ← number_in 18446744073709551615 word
  ns ← numbers_of words
  Some (n ∷ ns)

-- version 1 knows the tree's keys alone
abbrev pub item_of : ℕ → List ℕ → Option Item
item_of version word =
    if version == 1 then option_map (λ key. record { key = key; value = 0 }) (number_in 18446744073709551615 word)
    else option_map (λ pair. record { key = pair.0; value = pair.1 }) (pair_of colon word)

abbrev pub items_of : ℕ → List (List ℕ) → Option (List Item)
items_of version [] = Some []
items_of version (word ∷ words) = do
  item ← item_of version word
  items ← items_of version words
  Some (item ∷ items)

-- the count of an `end` line
unfoldable pub count_of : List (List ℕ) → Option ℕ
count_of words = do
  count ← number_at 18446744073709551615 words
  end ← at_end count.1
  Some count.0

-- ---- lines

-- the part of a report to which a line belongs that begins with this word
abbrev pub part_of : List ℕ → Part
part_of word =
    if bytes_eq word (codes "bank") then part.Bank
    else if bytes_eq word (codes "list") then part.List
    else if bytes_eq word (codes "tree") then part.Tree
    else if bytes_eq word (codes "end") then part.End
    else part.Rows

-- the parts stand in this order
abbrev pub rank : Part → ℕ
rank part.Rows = 0
rank part.Bank = 1
rank part.List = 2
rank part.Tree = 3
rank part.End = 4

-- rows stand behind rows, and any other part once, behind all that stand before it
abbrev pub can_follow : Part → Part → Bool
can_follow last next = if rank next == 0 then rank last == 0 else nat_lt (rank last) (rank next)

-- what was read, with one line more
abbrev pub with_row : Draft → Row → Draft
with_row draft row = record draft { report = record draft.report { rows = draft.report.rows ++ row ∷ [] } }

abbrev pub with_bank : Draft → List ℕ → Draft
with_bank draft numbers = record { part = part.Bank; report = record draft.report { bank = Some numbers } }

abbrev pub with_list : Draft → List ℕ → Draft
with_list draft numbers = record { part = part.List; report = record draft.report { list = Some numbers } }

abbrev pub with_tree : Draft → List Item → Draft
with_tree draft items = record { part = part.Tree; report = record draft.report { tree = Some items } }

abbrev pub with_count : Draft → ℕ → Draft
with_count draft count = record { part = part.End; report = record draft.report { count = count } }

-- a line of a part; `words` are all its words, and `rest` those behind the first
abbrev pub add_part : Part → List (List ℕ) → List (List ℕ) → Draft → Option Draft
add_part part.Rows words rest draft = option_map (with_row draft) (row_of draft.report.version words)
add_part part.Bank words rest draft = option_map (with_bank draft) (numbers_of rest)
add_part part.List words rest draft = option_map (with_list draft) (numbers_of rest)
add_part part.Tree words rest draft = option_map (with_tree draft) (items_of draft.report.version rest)
add_part part.End words rest draft = option_map (with_count draft) (count_of rest)

abbrev pub add_words : List (List ℕ) → Draft → Option Draft
add_words [] draft = None
add_words (word ∷ rest) draft =
    if can_follow draft.part (part_of word) then add_part (part_of word) (word ∷ rest) rest draft else None

-- the draft with a line more, if the line can stand there
abbrev pub add_line : List ℕ → Draft → Option Draft
add_line text draft = add_words (pieces space text) draft

-- ---- reports

-- a line that cannot stand in its place is told by its number
abbrev pub or_line : {A : Type 0} → ℕ → Option A → Result A ℕ
or_line line None = Err line
or_line line (Some x) = Ok x

-- the report is whole behind its `end`
abbrev pub finished : Draft → Option Report
finished draft = if rank draft.part == 4 then Some draft.report else None

-- goes on with what was read, unless a line was refused
abbrev pub then_on : Result Draft ℕ → (Draft → Result Report ℕ) → Result Report ℕ
then_on (Err line) next = Err line
then_on (Ok draft) next = next draft

-- the report that these lines complete, of which the first has this number
abbrev pub completed : List (List ℕ) → ℕ → Draft → Result Report ℕ
completed [] line draft = or_line line (finished draft)
completed (text ∷ texts) line draft = then_on (or_line line (add_line text draft)) (completed texts (line + 1))

-- `dstm report VERSION`
unfoldable pub header_of : List (List ℕ) → Option ℕ
header_of words = do
  report ← after_word (codes "dstm") words
  version ← after_word (codes "report") report
  number ← number_at 18446744073709551615 version
  end ← at_end number.1
  Some number.0

abbrev pub is_version : ℕ → Option ℕ → Bool
is_version version None = false
is_version version (Some n) = n == version

-- nothing but the header was read
abbrev pub blank : ℕ → Draft
blank version = record {
  part = part.Rows;
  report = record { version = version; rows = []; bank = None; list = None; tree = None; count = 0 };
}

-- what the lines of a text stand for in a version
abbrev pub parsed : ℕ → List (List ℕ) → Result Report ℕ
parsed version [] = Err 1
parsed version (text ∷ texts) =
    if is_version version (header_of (pieces space text)) then completed texts 2 (blank version) else Err 1
