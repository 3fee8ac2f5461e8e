-- The text of a report that its version can hold is read as that report.
use Rattle.std.proofs.Common.{◌≡◌, ℕ, ◌+◌, ◌-◌, ◌<◌, ◌≤◌, true, false, eqb, ltb, cond, List, [], ◌∷◌, ◌++◌, map}
use Rattle.std.proofs.Common.{length, get_or, Option, Some, None, Ok, codes, decimal, refl, ap, sym, subst, ◌∙◌}
use Rattle.std.proofs.Common.{append_assoc, arith, ⊎_elim}
use Rattle.std.specs.Prelude.{IfSome}
use Rattle.std.specs.List.{All, flat_map}
use Rattle.std.specs.Option.{option_map, option_or}
use Rattle.std.specs.Char.{is_ascii_digit}
use Rattle.std.proofs.lemmas.Bool.{cases_Bool, cond-true, cond-false, le-leb, lt-ltb, eq-eqb, eqb-true}
use Rattle.std.proofs.lemmas.List.{append-nil}
use Rattle.std.proofs.lemmas.List.Elements.{All-head, All-tail}
use Rattle.dstm_model.specs.declared.reply.Reply.{Reply}
use Rattle.dstm_model.specs.declared.reply.Reply.TheVariants.{Number, Absent, Never}
use Rattle.dstm_model.specs.declared.state.Item.{Item}
use Rattle.dstm_text.specs.Lines.{pieces, lines_of}
use Rattle.dstm_report.specs.declared.draft.Draft.{Draft}
use Rattle.dstm_report.specs.declared.draft.Part.{Part}
use Rattle.dstm_report.specs.declared.draft.Part.TheVariants as part
use Rattle.dstm_report.specs.declared.draft.TheConstants.{MAX_NUMBER, MAX_WORKER, MAX_REPLIES, COLON, DOT}
use Rattle.dstm_report.specs.declared.report.Row.{Row}
use Rattle.dstm_report.specs.declared.report.Report.{Report}
use Rattle.dstm_text.specs.Options.{◌>>=◌}
use Rattle.dstm_report.specs.Parser.{number_in, number_at, pair_of, both_numbers, known_reply}
use Rattle.dstm_report.specs.Parser.{number_reply, reply_of, further_replies, replies_of, row_of}
use Rattle.dstm_report.specs.Parser.{numbers_of, item_of, items_of, count_of, part_of, rank, can_follow, with_row}
use Rattle.dstm_report.specs.Parser.{with_bank, with_list, with_tree, with_count, add_part, add_words, add_line}
use Rattle.dstm_report.specs.Parser.{or_line, then_on, completed, header_of, is_version, blank, parsed}
use Rattle.dstm_report.specs.Reading.{HasReply, HasRow, HasItem, IsNumber, IsHeld}
use Rattle.dstm_report.specs.Text.{field, line, reply_text, further_text, replies_text, row_text, number_field}
use Rattle.dstm_report.specs.Text.{numbers_text, item_text, item_field, items_text, report_text}
use Rattle.dstm_report.proofs.Words.{is_free, free-append, pieces_word, pieces_last, lines_of-line, Printed}
use Rattle.dstm_report.proofs.Words.{decimal_free, decimal_ne, number_in-decimal}

bind_read : {A B : Type 0} {o : Option A} (f : A → Option B) (x : A) → o ≡ Some x → (o >>= f) ≡ f x
bind_read {A} {B} f x e = ap (λ (p : Option A). p >>= f) e

-- ---- words

-- a word has neither a space nor a line feed
pub record IsWord (word : List ℕ) : Type 0 where
  pub in_line : is_free 10 word ≡ true
  pub in_words : is_free 32 word ≡ true

word-append : {a b : List ℕ} → IsWord a → IsWord b → IsWord (a ++ b)
word-append {a = a} {b = b} first second = record {
  in_line = free-append 10 a b first.in_line second.in_line;
  in_words = free-append 32 a b first.in_words second.in_words;
}

decimal_word : Printed → (n : ℕ) → n ≤ MAX_NUMBER → IsWord (decimal n)
decimal_word printed n small =
    record { in_line = decimal_free printed 10 n refl small; in_words = decimal_free printed 32 n refl small }

number_at-decimal : Printed → (most n : ℕ) (words : List (List ℕ)) → n ≤ most → most ≤ MAX_NUMBER →
    number_at most (decimal n ∷ words) ≡ Some (n, words)
number_at-decimal printed most n words small range = bind_read _ n (number_in-decimal printed most n small range)

-- two numbers with a separator between them
abbrev pub pair_word : ℕ → ℕ → ℕ → List ℕ
pair_word c a b = decimal a ++ (c ∷ []) ++ decimal b

pair_read : Printed → (c a b : ℕ) → is_ascii_digit c ≡ false → a ≤ MAX_NUMBER → b ≤ MAX_NUMBER →
    pair_of c (pair_word c a b) ≡ Some (a, b)
pair_read printed c a b none small_a small_b =
    ap (λ (text : List ℕ). both_numbers (pieces c text)) (append_assoc (decimal a) (c ∷ []) (decimal b))
    ∙ ap both_numbers (pieces_word c (decimal a) (decimal b) (decimal_free printed c a none small_a)
    ∙ ap (λ (ps : List (List ℕ)). decimal a ∷ ps) (pieces_last c (decimal b) (decimal_free printed c b none small_b)))
    ∙ bind_read _ a (number_in-decimal printed MAX_NUMBER a small_a (omega arith))
    ∙ bind_read _ b (number_in-decimal printed MAX_NUMBER b small_b (omega arith))

-- ---- replies

reply_is_word : Printed → (version : ℕ) (reply : Reply) → HasReply version reply → IsWord (reply_text reply)
reply_is_word printed version (Number n) has = decimal_word printed n has
reply_is_word printed version reply has = record { in_line = refl; in_words = refl }

unknown_number : Printed → (version n : ℕ) → n ≤ MAX_NUMBER → known_reply version (decimal n) ≡ None
unknown_number printed version n small =
    let ok = decimal_ne printed n 111 (codes "k") refl small in
    let poor = decimal_ne printed n 112 (codes "oor") refl small in
    let yes = decimal_ne printed n 116 (codes "rue") refl small in
    let no = decimal_ne printed n 102 (codes "alse") refl small in
    let full = decimal_ne printed n 102 (codes "ull") refl small in
    let absent = decimal_ne printed n 110 (codes "one") refl small in
    let never = decimal_ne printed n 110 (codes "ever") refl small in
    rw (ok, poor, yes, no, full, absent, never) refl

reply_read : Printed → (version : ℕ) (reply : Reply) → HasReply version reply →
    reply_of version (reply_text reply) ≡ Some reply
reply_read printed version (Number n) has =
    ap (λ (o : Option Reply). option_or o (number_reply (number_in MAX_NUMBER (decimal n))))
    (unknown_number printed version n has)
    ∙ ap number_reply (number_in-decimal printed MAX_NUMBER n has (omega arith))
reply_read printed version Absent has = rw (le-leb 2 version has) refl
reply_read printed version Never has = rw (le-leb 3 version has) refl
reply_read printed version reply has = refl

-- the words behind the first reply
abbrev pub further_words : List Reply → List (List ℕ)
further_words [] = []
further_words (reply ∷ replies) = codes ";" ∷ reply_text reply ∷ further_words replies

further_pieces : Printed → (version : ℕ) (word : List ℕ) (replies : List Reply) → IsWord word →
    All (HasReply version) replies → pieces 32 (word ++ flat_map further_text replies) ≡ word ∷ further_words replies
further_pieces printed version word [] is_word has =
    ap (pieces 32) (append-nil word) ∙ pieces_last 32 word is_word.in_words
further_pieces printed version word (reply ∷ replies) is_word has =
    let here = All-head (HasReply version) reply replies has in
    let rest = reply_text reply ++ flat_map further_text replies in
    pieces_word 32 word (59 ∷ 32 ∷ rest) is_word.in_words
    ∙ ap (λ (ps : List (List ℕ)). word ∷ ps) (pieces_word 32 (59 ∷ []) rest refl
    ∙ ap (λ (ps : List (List ℕ)). codes ";" ∷ ps)
    (further_pieces printed version (reply_text reply) replies (reply_is_word printed version reply here)
    (All-tail (HasReply version) reply replies has)))

further_free : Printed → (version : ℕ) (replies : List Reply) → All (HasReply version) replies →
    is_free 10 (flat_map further_text replies) ≡ true
further_free printed version [] has = refl
further_free printed version (reply ∷ replies) has =
    let here = reply_is_word printed version reply (All-head (HasReply version) reply replies has) in
    free-append 10 (further_text reply) (flat_map further_text replies)
    (free-append 10 (codes " ; ") (reply_text reply) refl here.in_line)
    (further_free printed version replies (All-tail (HasReply version) reply replies has))

further_read : Printed → (version room : ℕ) (replies : List Reply) → All (HasReply version) replies →
    length replies ≤ room → further_replies version room (further_words replies) ≡ Some replies
further_read printed version room [] has few = refl
further_read printed version room (reply ∷ replies) has few =
    let next = further_replies version (room - 1) (further_words replies) in
    cond-true (ltb 0 room) _ None (lt-ltb 0 room (omega arith))
    ∙ ap (λ (o : Option Reply). o >>= λ r. (next >>= λ rs. Some (r ∷ rs)))
    (reply_read printed version reply (All-head (HasReply version) reply replies has))
    ∙ ap (λ (o : Option (List Reply)). o >>= λ rs. Some (reply ∷ rs))
    (further_read printed version (room - 1) replies (All-tail (HasReply version) reply replies has) (omega arith))

replies_read : Printed → (version : ℕ) (reply : Reply) (replies : List Reply) →
    All (HasReply version) (reply ∷ replies) → length (reply ∷ replies) ≤ MAX_REPLIES →
    replies_of version (reply_text reply ∷ further_words replies) ≡ Some (reply ∷ replies)
replies_read printed version reply replies has few =
    let next = further_replies version (MAX_REPLIES - 1) (further_words replies) in
    ap (λ (o : Option Reply). o >>= λ r. (next >>= λ rs. Some (r ∷ rs)))
    (reply_read printed version reply (All-head (HasReply version) reply replies has))
    ∙ ap (λ (o : Option (List Reply)). o >>= λ rs. Some (reply ∷ rs))
    (further_read printed version (MAX_REPLIES - 1) replies (All-tail (HasReply version) reply replies has)
    (omega arith))

-- ---- rows

abbrev pub row_line : Row → List ℕ
row_line row =
    decimal row.line ++ field (decimal row.worker) ++ field (decimal row.round ++ codes "." ++ decimal row.number)
    ++ field (replies_text row.replies)

abbrev pub row_words : Row → Reply → List Reply → List (List ℕ)
row_words row reply replies =
    decimal row.line ∷ decimal row.worker ∷ pair_word DOT row.round row.number ∷ reply_text reply
    ∷ further_words replies

four_words : (a b c d : List ℕ) → ((a ++ (32 ∷ b)) ++ (32 ∷ c)) ++ (32 ∷ d) ≡ a ++ (32 ∷ (b ++ (32 ∷ (c ++ (32 ∷ d)))))
four_words a b c d = append_assoc (a ++ (32 ∷ b)) (32 ∷ c) (32 ∷ d) ∙ append_assoc a (32 ∷ b) ((32 ∷ c) ++ (32 ∷ d))

pair_is_word : Printed → (c a b : ℕ) → IsWord (c ∷ []) → a ≤ MAX_NUMBER → b ≤ MAX_NUMBER → IsWord (pair_word c a b)
pair_is_word printed c a b mark small_a small_b =
    word-append (word-append (decimal_word printed a small_a) mark) (decimal_word printed b small_b)

place_is_word : Printed → {version : ℕ} {row : Row} → HasRow version row → IsWord (pair_word DOT row.round row.number)
place_is_word printed {row = row} has =
    pair_is_word printed DOT row.round row.number (record { in_line = refl; in_words = refl }) has.round has.number

pub row_pieces : Printed → {version : ℕ} {row : Row} (reply : Reply) (replies : List Reply) → HasRow version row →
    row.replies ≡ reply ∷ replies → pieces 32 (row_line row) ≡ row_words row reply replies
row_pieces printed {version = version} {row = row} reply replies has is =
    let place = pair_word DOT row.round row.number in
    let told = reply_text reply ++ flat_map further_text replies in
    let all = subst (λ (rs : List Reply). All (HasReply version) rs) is has.replies in
    ap (λ (rs : List Reply). pieces 32
    (decimal row.line ++ field (decimal row.worker) ++ field place ++ field (replies_text rs))) is
    ∙ ap (pieces 32) (four_words (decimal row.line) (decimal row.worker) place told)
    ∙ pieces_word 32 (decimal row.line) _ (decimal_word printed row.line has.line).in_words
    ∙ ap (λ (ps : List (List ℕ)). decimal row.line ∷ ps)
    (pieces_word 32 (decimal row.worker) _ (decimal_word printed row.worker (omega (arith, has.worker))).in_words
    ∙ ap (λ (ps : List (List ℕ)). decimal row.worker ∷ ps)
    (pieces_word 32 place told (place_is_word printed has).in_words
    ∙ ap (λ (ps : List (List ℕ)). place ∷ ps) (further_pieces printed version (reply_text reply) replies
    (reply_is_word printed version reply (All-head (HasReply version) reply replies all))
    (All-tail (HasReply version) reply replies all))))

row_read : Printed → {version : ℕ} {row : Row} (reply : Reply) (replies : List Reply) → HasRow version row →
    row.replies ≡ reply ∷ replies → row_of version (row_words row reply replies) ≡ Some row
unfolding row_of
row_read printed {version = version} {row = row} reply replies has is =
    let words = reply_text reply ∷ further_words replies in
    let place = pair_word DOT row.round row.number in
    let all = subst (λ (rs : List Reply). All (HasReply version) rs) is has.replies in
    let few : length (reply ∷ replies) ≤ MAX_REPLIES =
    subst (λ (rs : List Reply). length rs ≤ MAX_REPLIES) is has.few in
    bind_read _ (row.line, decimal row.worker ∷ place ∷ words)
    (number_at-decimal printed MAX_NUMBER row.line (decimal row.worker ∷ place ∷ words) has.line (omega arith))
    ∙ bind_read _ (row.worker, place ∷ words)
    (number_at-decimal printed MAX_WORKER row.worker (place ∷ words) has.worker (omega arith))
    ∙ bind_read _ ((row.round, row.number), words) (bind_read _ (row.round, row.number)
    (pair_read printed DOT row.round row.number refl has.round has.number))
    ∙ bind_read _ (reply ∷ replies) (replies_read printed version reply replies all few)
    ∙ ap (λ (rs : List Reply). Some
    (record { line = row.line; worker = row.worker; round = row.round; number = row.number; replies = rs })) (sym is)

row_free : Printed → {version : ℕ} {row : Row} (reply : Reply) (replies : List Reply) → HasRow version row →
    row.replies ≡ reply ∷ replies → is_free 10 (row_line row) ≡ true
row_free printed {version = version} {row = row} reply replies has is =
    let place = pair_word DOT row.round row.number in
    let all = subst (λ (rs : List Reply). All (HasReply version) rs) is has.replies in
    let told : is_free 10 (reply_text reply ++ flat_map further_text replies) ≡ true =
    free-append 10 (reply_text reply) (flat_map further_text replies)
    (reply_is_word printed version reply (All-head (HasReply version) reply replies all)).in_line
    (further_free printed version replies (All-tail (HasReply version) reply replies all)) in
    free-append 10 (decimal row.line ++ field (decimal row.worker) ++ field place) (field (replies_text row.replies))
    (free-append 10 (decimal row.line ++ field (decimal row.worker)) (field place)
    (free-append 10 (decimal row.line) (field (decimal row.worker)) (decimal_word printed row.line has.line).in_line
    (decimal_word printed row.worker (omega (arith, has.worker))).in_line) (place_is_word printed has).in_line)
    (subst (λ (rs : List Reply). is_free 10 (replies_text rs) ≡ true) (sym is) told)

-- a row has a first reply
pub first_reply : {version : ℕ} {row : Row} → HasRow version row →
    (reply : Reply) × (replies : List Reply) × (row.replies ≡ reply ∷ replies)
first_reply {row = row} has = some_first row.replies has.some
  where
    some_first : (rs : List Reply) → 1 ≤ length rs → (reply : Reply) × (replies : List Reply) × (rs ≡ reply ∷ replies)
    some_first [] some = absurd (omega arith)
    some_first (reply ∷ replies) some = (reply, replies, refl)

-- ---- what a structure holds

pub fields_pieces : {X : Type 0} (text : X → List ℕ) (word : List ℕ) (xs : List X) → IsWord word →
    All (λ x. IsWord (text x)) xs → pieces 32 (word ++ flat_map (λ x. field (text x)) xs) ≡ word ∷ map text xs
fields_pieces text word [] is_word all = ap (pieces 32) (append-nil word) ∙ pieces_last 32 word is_word.in_words
fields_pieces {X} text word (x ∷ xs) is_word all =
    let Word : X → Type 0 = λ y. IsWord (text y) in
    pieces_word 32 word (text x ++ flat_map (λ y. field (text y)) xs) is_word.in_words
    ∙ ap (λ (ps : List (List ℕ)). word ∷ ps)
    (fields_pieces text (text x) xs (All-head Word x xs all) (All-tail Word x xs all))

fields_free : {X : Type 0} (text : X → List ℕ) (xs : List X) → All (λ x. IsWord (text x)) xs →
    is_free 10 (flat_map (λ x. field (text x)) xs) ≡ true
fields_free text [] all = refl
fields_free {X} text (x ∷ xs) all =
    let Word : X → Type 0 = λ y. IsWord (text y) in
    free-append 10 (field (text x)) (flat_map (λ y. field (text y)) xs) (All-head Word x xs all).in_line
    (fields_free text xs (All-tail Word x xs all))

pub number_words : Printed → (numbers : List ℕ) → All IsNumber numbers → All (λ n. IsWord (decimal n)) numbers
number_words printed numbers all k d lt = decimal_word printed (get_or numbers k d) (all k d lt)

numbers_read : Printed → (numbers : List ℕ) → All IsNumber numbers → numbers_of (map decimal numbers) ≡ Some numbers
numbers_read printed [] all = refl
numbers_read printed (n ∷ numbers) all =
    bind_read _ n (number_in-decimal printed MAX_NUMBER n (All-head IsNumber n numbers all) (omega arith))
    ∙ bind_read _ numbers (numbers_read printed numbers (All-tail IsNumber n numbers all))

item_is_word : Printed → {version : ℕ} {item : Item} → HasItem version item → IsWord (item_text version item)
item_is_word printed {version = version} {item = item} has =
    ⊎_elim (λ yes. subst IsWord (sym (cond-true (eqb version 1) (decimal item.key) _ yes))
    (decimal_word printed item.key has.key))
    (λ no. subst IsWord (sym (cond-false (eqb version 1) (decimal item.key) (pair_word COLON item.key item.value) no))
    (pair_is_word printed COLON item.key item.value (record { in_line = refl; in_words = refl }) has.key has.value))
    (cases_Bool (eqb version 1))

item_read : Printed → {version : ℕ} {item : Item} → HasItem version item →
    item_of version (item_text version item) ≡ Some item
item_read printed {version = version} {item = item} has =
    ⊎_elim (λ yes. ap (item_of version) (cond-true (eqb version 1) (decimal item.key) _ yes)
    ∙ cond-true (eqb version 1) _ _ yes
    ∙ ap (option_map (λ (key : ℕ). record { key = key; value = 0 }))
    (number_in-decimal printed MAX_NUMBER item.key has.key (omega arith))
    ∙ ap (λ (value : ℕ). Some (record { key = item.key; value = value }))
    (sym (has.keys_alone (eqb-true version 1 yes)))) (λ no.
    ap (item_of version) (cond-false (eqb version 1) (decimal item.key) (pair_word COLON item.key item.value) no)
    ∙ cond-false (eqb version 1) _ _ no
    ∙ ap (option_map (λ (pair : ℕ × ℕ). record { key = pair.0; value = pair.1 }))
    (pair_read printed COLON item.key item.value refl has.key has.value)) (cases_Bool (eqb version 1))

pub item_words : Printed → (version : ℕ) (items : List Item) → All (HasItem version) items →
    All (λ item. IsWord (item_text version item)) items
item_words printed version items all k d lt = item_is_word printed (all k d lt)

items_read : Printed → (version : ℕ) (items : List Item) → All (HasItem version) items →
    items_of version (map (item_text version) items) ≡ Some items
items_read printed version [] all = refl
items_read printed version (item ∷ items) all =
    bind_read _ item (item_read printed (All-head (HasItem version) item items all))
    ∙ bind_read _ items (items_read printed version items (All-tail (HasItem version) item items all))

-- ---- the lines of the text

abbrev pub numbers_lines : List ℕ → Option (List ℕ) → List (List ℕ)
numbers_lines name None = []
numbers_lines name (Some numbers) = (name ++ flat_map number_field numbers) ∷ []

abbrev pub items_lines : ℕ → List ℕ → Option (List Item) → List (List ℕ)
items_lines version name None = []
items_lines version name (Some items) = (name ++ flat_map (item_field version) items) ∷ []

abbrev pub header_line : ℕ → List ℕ
header_line version = codes "dstm report" ++ field (decimal version)

abbrev pub end_text : ℕ → List ℕ
end_text count = codes "end" ++ field (decimal count)

rows_lines : Printed → (version : ℕ) (rows : List Row) (rest : List ℕ) → All (HasRow version) rows →
    lines_of (flat_map row_text rows ++ rest) ≡ map row_line rows ++ lines_of rest
rows_lines printed version [] rest all = refl
rows_lines printed version (row ∷ rows) rest all =
    let has = All-head (HasRow version) row rows all in
    let first = first_reply has in
    ap lines_of (append_assoc (row_text row) (flat_map row_text rows) rest)
    ∙ lines_of-line (row_line row) (flat_map row_text rows ++ rest) (row_free printed first.0 first.1 has first.2)
    ∙ ap (λ (ls : List (List ℕ)). row_line row ∷ ls)
    (rows_lines printed version rows rest (All-tail (HasRow version) row rows all))

numbers_lines_of : Printed → (name : List ℕ) (numbers : Option (List ℕ)) (rest : List ℕ) → IsWord name →
    IfSome numbers (All IsNumber) →
    lines_of (numbers_text name numbers ++ rest) ≡ numbers_lines name numbers ++ lines_of rest
numbers_lines_of printed name None rest is_word all = refl
numbers_lines_of printed name (Some numbers) rest is_word all =
    lines_of-line (name ++ flat_map number_field numbers) rest
    (free-append 10 name (flat_map number_field numbers) is_word.in_line
    (fields_free decimal numbers (number_words printed numbers all)))

items_lines_of : Printed → (version : ℕ) (name : List ℕ) (items : Option (List Item)) (rest : List ℕ) → IsWord name →
    IfSome items (All (HasItem version)) →
    lines_of (items_text version name items ++ rest) ≡ items_lines version name items ++ lines_of rest
items_lines_of printed version name None rest is_word all = refl
items_lines_of printed version name (Some items) rest is_word all =
    lines_of-line (name ++ flat_map (item_field version) items) rest
    (free-append 10 name (flat_map (item_field version) items) is_word.in_line
    (fields_free (item_text version) items (item_words printed version items all)))

end_lines : Printed → (count : ℕ) → count ≤ MAX_NUMBER → lines_of (line (end_text count)) ≡ end_text count ∷ []
end_lines printed count small =
    ap lines_of (sym (append-nil (line (end_text count))))
    ∙ lines_of-line (end_text count) []
    (free-append 10 (codes "end") (field (decimal count)) refl (decimal_word printed count small).in_line)

six_parts : (a b c d e f : List ℕ) → ((((a ++ b) ++ c) ++ d) ++ e) ++ f ≡ a ++ (b ++ (c ++ (d ++ (e ++ f))))
six_parts a b c d e f = simp append_assoc

abbrev pub lines_behind_header : Report → List (List ℕ)
lines_behind_header report =
    map row_line report.rows ++ (numbers_lines (codes "bank") report.bank ++ (numbers_lines (codes "list") report.list
    ++ (items_lines report.version (codes "tree") report.tree ++ (end_text report.count ∷ []))))

pub report_lines : Printed → {report : Report} → IsHeld report →
    lines_of (report_text report) ≡ header_line report.version ∷ lines_behind_header report
report_lines printed {report = report} held =
    let rows = flat_map row_text report.rows in
    let bank = numbers_text (codes "bank") report.bank in
    let list = numbers_text (codes "list") report.list in
    let tree = items_text report.version (codes "tree") report.tree in
    let end = line (end_text report.count) in
    ap lines_of (six_parts (line (header_line report.version)) rows bank list tree end)
    ∙ lines_of-line (header_line report.version) (rows ++ (bank ++ (list ++ (tree ++ end))))
    (free-append 10 (codes "dstm report") (field (decimal report.version)) refl
    (decimal_word printed report.version held.version).in_line)
    ∙ ap (λ (ls : List (List ℕ)). header_line report.version ∷ ls)
    (rows_lines printed report.version report.rows (bank ++ (list ++ (tree ++ end))) held.rows
    ∙ ap (λ (ls : List (List ℕ)). map row_line report.rows ++ ls)
    (numbers_lines_of printed (codes "bank") report.bank (list ++ (tree ++ end))
    (record { in_line = refl; in_words = refl }) held.bank
    ∙ ap (λ (ls : List (List ℕ)). numbers_lines (codes "bank") report.bank ++ ls)
    (numbers_lines_of printed (codes "list") report.list (tree ++ end)
    (record { in_line = refl; in_words = refl }) held.list
    ∙ ap (λ (ls : List (List ℕ)). numbers_lines (codes "list") report.list ++ ls)
    (items_lines_of printed report.version (codes "tree") report.tree end
    (record { in_line = refl; in_words = refl }) held.tree
    ∙ ap (λ (ls : List (List ℕ)). items_lines report.version (codes "tree") report.tree ++ ls)
    (end_lines printed report.count held.count)))))

-- ---- the lines complete the report

abbrev draft_at : Part → ℕ → List Row → Option (List ℕ) → Option (List ℕ) → Option (List Item) → Draft
draft_at p version rows bank list tree = record {
  part = p;
  report = record { version = version; rows = rows; bank = bank; list = list; tree = tree; count = 0 };
}

-- wherever the lines begin, they complete the draft to this report
Completes : List (List ℕ) → Draft → Report → Type 0
Completes texts draft report = (n : ℕ) → completed texts n draft ≡ Ok report

add_more : (text : List ℕ) (texts : List (List ℕ)) (draft more : Draft) (report : Report) →
    add_line text draft ≡ Some more → Completes texts more report → Completes (text ∷ texts) draft report
unfolding Completes
add_more text texts draft more report added completes n =
    ap (λ (o : Option Draft). then_on (or_line n o) (completed texts (n + 1))) added ∙ completes (n + 1)

rows_complete : Printed → (version : ℕ) (rows done : List Row) (texts : List (List ℕ)) (report : Report) →
    All (HasRow version) rows → Completes texts (draft_at part.Rows version (done ++ rows) None None None) report →
    Completes (map row_line rows ++ texts) (draft_at part.Rows version done None None None) report
rows_complete printed version [] done texts report all completes =
    subst (λ (rs : List Row). Completes texts (draft_at part.Rows version rs None None None) report)
    (append-nil done) completes
rows_complete printed version (row ∷ rows) done texts report all completes =
    let has = All-head (HasRow version) row rows all in
    let first = first_reply has in
    let words = row_words row first.0 first.1 in
    let draft = draft_at part.Rows version done None None None in
    let no_bank = decimal_ne printed row.line 98 (codes "ank") refl has.line in
    let no_list = decimal_ne printed row.line 108 (codes "ist") refl has.line in
    let no_tree = decimal_ne printed row.line 116 (codes "ree") refl has.line in
    let no_end = decimal_ne printed row.line 101 (codes "nd") refl has.line in
    let is_row : part_of (decimal row.line) ≡ part.Rows = rw (no_bank, no_list, no_tree, no_end) refl in
    let added : add_line (row_line row) draft ≡ Some (with_row draft row) =
    ap (λ (ps : List (List ℕ)). add_words ps draft) (row_pieces printed first.0 first.1 has first.2)
    ∙ ap (λ (p : Part). cond (can_follow part.Rows p) (add_part p words
    (decimal row.worker ∷ pair_word DOT row.round row.number ∷ reply_text first.0 ∷ further_words first.1) draft)
    None) is_row
    ∙ ap (option_map (with_row draft)) (row_read printed first.0 first.1 has first.2) in
    add_more (row_line row) (map row_line rows ++ texts) draft (with_row draft row) report added
    (rows_complete printed version rows (done ++ row ∷ []) texts report (All-tail (HasRow version) row rows all)
    (subst (λ (rs : List Row). Completes texts (draft_at part.Rows version rs None None None) report)
    (sym (append_assoc done (row ∷ []) rows)) completes))

bank_completes : Printed → (version : ℕ) (rows : List Row) (bank : Option (List ℕ)) (texts : List (List ℕ))
    (report : Report) → IfSome bank (All IsNumber) → ((p : Part) → rank p < 2 →
    Completes texts (draft_at p version rows bank None None) report) →
    Completes (numbers_lines (codes "bank") bank ++ texts) (draft_at part.Rows version rows None None None) report
bank_completes printed version rows None texts report all completes = completes part.Rows (omega arith)
bank_completes printed version rows (Some numbers) texts report all completes =
    let draft = draft_at part.Rows version rows None None None in
    add_more (codes "bank" ++ flat_map number_field numbers) texts draft (with_bank draft numbers) report
    (ap (λ (ps : List (List ℕ)). add_words ps draft)
    (fields_pieces decimal (codes "bank") numbers (record { in_line = refl; in_words = refl })
    (number_words printed numbers all))
    ∙ ap (option_map (with_bank draft)) (numbers_read printed numbers all)) (completes part.Bank (omega arith))

list_completes : Printed → (version : ℕ) (rows : List Row) (bank list : Option (List ℕ)) (p : Part)
    (texts : List (List ℕ)) (report : Report) → IfSome list (All IsNumber) → rank p < 2 →
    ((q : Part) → rank q < 3 → Completes texts (draft_at q version rows bank list None) report) →
    Completes (numbers_lines (codes "list") list ++ texts) (draft_at p version rows bank None None) report
list_completes printed version rows bank None p texts report all before completes = completes p (omega arith)
list_completes printed version rows bank (Some numbers) p texts report all before completes =
    let draft = draft_at p version rows bank None None in
    add_more (codes "list" ++ flat_map number_field numbers) texts draft (with_list draft numbers) report
    (ap (λ (ps : List (List ℕ)). add_words ps draft)
    (fields_pieces decimal (codes "list") numbers (record { in_line = refl; in_words = refl })
    (number_words printed numbers all))
    ∙ cond-true (ltb (rank p) 2) _ None (lt-ltb (rank p) 2 before)
    ∙ ap (option_map (with_list draft)) (numbers_read printed numbers all)) (completes part.List (omega arith))

tree_completes : Printed → (version : ℕ) (rows : List Row) (bank list : Option (List ℕ)) (tree : Option (List Item))
    (p : Part) (texts : List (List ℕ)) (report : Report) → IfSome tree (All (HasItem version)) → rank p < 3 →
    ((q : Part) → rank q < 4 → Completes texts (draft_at q version rows bank list tree) report) →
    Completes (items_lines version (codes "tree") tree ++ texts) (draft_at p version rows bank list None) report
tree_completes printed version rows bank list None p texts report all before completes = completes p (omega arith)
tree_completes printed version rows bank list (Some items) p texts report all before completes =
    let draft = draft_at p version rows bank list None in
    add_more (codes "tree" ++ flat_map (item_field version) items) texts draft (with_tree draft items) report
    (ap (λ (ps : List (List ℕ)). add_words ps draft)
    (fields_pieces (item_text version) (codes "tree") items (record { in_line = refl; in_words = refl })
    (item_words printed version items all))
    ∙ cond-true (ltb (rank p) 3) _ None (lt-ltb (rank p) 3 before)
    ∙ ap (option_map (with_tree draft)) (items_read printed version items all)) (completes part.Tree (omega arith))

count_read : Printed → (count : ℕ) → count ≤ MAX_NUMBER → count_of (decimal count ∷ []) ≡ Some count
unfolding count_of
count_read printed count small =
    bind_read _ (count, []) (number_at-decimal printed MAX_NUMBER count [] small (omega arith))

ended : (report : Report) (p : Part) →
    Completes [] (with_count (draft_at p report.version report.rows report.bank report.list report.tree) report.count)
    report
unfolding Completes
ended report p n = refl

pub end_words : Printed → (count : ℕ) → count ≤ MAX_NUMBER →
    pieces 32 (end_text count) ≡ codes "end" ∷ decimal count ∷ []
end_words printed count small =
    pieces_word 32 (codes "end") (decimal count) refl
    ∙ ap (λ (ps : List (List ℕ)). codes "end" ∷ ps)
    (pieces_last 32 (decimal count) (decimal_word printed count small).in_words)

end_completes : Printed → (report : Report) (p : Part) → report.count ≤ MAX_NUMBER → rank p < 4 →
    Completes (end_text report.count ∷ [])
    (draft_at p report.version report.rows report.bank report.list report.tree) report
end_completes printed report p small before =
    let draft = draft_at p report.version report.rows report.bank report.list report.tree in
    add_more (end_text report.count) [] draft (with_count draft report.count) report
    (ap (λ (ps : List (List ℕ)). add_words ps draft) (end_words printed report.count small)
    ∙ cond-true (ltb (rank p) 4) _ None (lt-ltb (rank p) 4 before)
    ∙ ap (option_map (with_count draft)) (count_read printed report.count small)) (ended report p)

pub header_words : Printed → (version : ℕ) → version ≤ MAX_NUMBER →
    pieces 32 (header_line version) ≡ codes "dstm" ∷ codes "report" ∷ decimal version ∷ []
header_words printed version small =
    let last = pieces_last 32 (decimal version) (decimal_word printed version small).in_words in
    pieces_word 32 (codes "dstm") (codes "report" ++ (32 ∷ decimal version)) refl
    ∙ ap (λ (ps : List (List ℕ)). codes "dstm" ∷ ps) (pieces_word 32 (codes "report") (decimal version) refl
    ∙ ap (λ (ps : List (List ℕ)). codes "report" ∷ ps) last)

header_read : Printed → (version : ℕ) → version ≤ MAX_NUMBER →
    header_of (pieces 32 (header_line version)) ≡ Some version
unfolding header_of
header_read printed version small =
    ap header_of (header_words printed version small)
    ∙ bind_read _ (version, []) (number_at-decimal printed MAX_NUMBER version [] small (omega arith))

all_complete : Printed → {report : Report} → IsHeld report →
    Completes (lines_behind_header report) (blank report.version) report
all_complete printed {report = report} held =
    let bank = numbers_lines (codes "bank") report.bank in
    let list = numbers_lines (codes "list") report.list in
    let tree = items_lines report.version (codes "tree") report.tree in
    let end = end_text report.count ∷ [] in
    rows_complete printed report.version report.rows [] (bank ++ (list ++ (tree ++ end))) report held.rows
    (bank_completes printed report.version report.rows report.bank (list ++ (tree ++ end)) report held.bank
    (λ p before. list_completes printed report.version report.rows report.bank report.list p
    (tree ++ end) report held.list before
    (λ q behind. tree_completes printed report.version report.rows report.bank report.list report.tree q end report
    held.tree behind (λ r last. end_completes printed report r held.count last))))

pub reads_back : Printed → (report : Report) → IsHeld report →
    parsed report.version (lines_of (report_text report)) ≡ Ok report
unfolding Completes
reads_back printed report held =
    ap (parsed report.version) (report_lines printed held)
    ∙ cond-true _ _ _ (ap (is_version report.version) (header_read printed report.version held.version)
    ∙ eq-eqb report.version report.version refl)
    ∙ all_complete printed held 2
