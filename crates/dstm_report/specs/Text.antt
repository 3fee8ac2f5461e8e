-- The text of a report. Each line ends with a line feed, and one space stands between its fields.
use Rattle.std.specs.Prelude.{ℕ, ◌==◌, if◌then◌else◌, List, [], ◌∷◌, ◌++◌, Option, Some, None, codes, decimal}
use Rattle.std.specs.List.{flat_map}
use Rattle.dstm_model.specs.declared.reply.Reply.{Reply}
use Rattle.dstm_model.specs.declared.reply.Reply.TheVariants.{Moved, Poor, Number, Yes, No, Full, Absent, Never}
use Rattle.dstm_model.specs.declared.state.Item.{Item}
use Rattle.dstm_report.specs.declared.report.Row.{Row}
use Rattle.dstm_report.specs.declared.report.Report.{Report}

-- a field with the space before it
abbrev pub field : List ℕ → List ℕ
field text = codes " " ++ text

abbrev pub line : List ℕ → List ℕ
line text = text ++ codes "\n"

abbrev pub reply_text : Reply → List ℕ
reply_text Moved = codes "ok"
reply_text Poor = codes "poor"
reply_text (Number n) = decimal n
reply_text Yes = codes "true"
reply_text No = codes "false"
reply_text Full = codes "full"
reply_text Absent = codes "none"
reply_text Never = codes "never"

-- a reply behind another
abbrev pub further_text : Reply → List ℕ
further_text reply = codes " ; " ++ reply_text reply

-- replies with ` ; ` between two
abbrev pub replies_text : List Reply → List ℕ
replies_text [] = []
replies_text (reply ∷ replies) = reply_text reply ++ flat_map further_text replies

-- `LINE WORKER ROUND.NUMBER REPLIES`
abbrev pub row_text : Row → List ℕ
row_text row =
    line (decimal row.line ++ field (decimal row.worker) ++ field (decimal row.round ++ codes "." ++ decimal row.number)
    ++ field (replies_text row.replies))

abbrev pub number_field : ℕ → List ℕ
number_field number = field (decimal number)

-- a structure's name and what it holds; no line where it is not declared
abbrev pub numbers_text : List ℕ → Option (List ℕ) → List ℕ
numbers_text name None = []
numbers_text name (Some numbers) = line (name ++ flat_map number_field numbers)

-- version 1 knows the tree's keys alone
abbrev pub item_text : ℕ → Item → List ℕ
item_text version item = if version == 1 then decimal item.key else decimal item.key ++ codes ":" ++ decimal item.value

abbrev pub item_field : ℕ → Item → List ℕ
item_field version item = field (item_text version item)

abbrev pub items_text : ℕ → List ℕ → Option (List Item) → List ℕ
items_text version name None = []
items_text version name (Some items) = line (name ++ flat_map (item_field version) items)

abbrev pub report_text : Report → List ℕ
report_text report =
    line (codes "dstm report" ++ field (decimal report.version))
    ++ flat_map row_text report.rows
    ++ numbers_text (codes "bank") report.bank
    ++ numbers_text (codes "list") report.list
    ++ items_text report.version (codes "tree") report.tree
    ++ line (codes "end" ++ field (decimal report.count))
