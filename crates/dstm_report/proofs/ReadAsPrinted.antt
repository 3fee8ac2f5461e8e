-- Lines that are read as a report are those of its text, and its version can hold it.
use Rattle.std.proofs.Common.{◌≡◌, ℕ, ◌-◌, ◌<◌, ◌≤◌, ◌^◌, Bool, true, false, eqb, leb, ltb, cond, ◌&&◌, List, []}
use Rattle.std.proofs.Common.{◌∷◌, map, length, Option, Some, None, codes, decimal, refl, ap, sym}
use Rattle.std.proofs.Common.{subst, ◌∙◌, append_assoc, arith, ⊎_elim}
use Rattle.std.specs.List.{All, join_with_byte}
use Rattle.std.specs.Option.{option_map, option_or}
use Rattle.std.specs.Str.{bytes_eq}
use Rattle.std.proofs.lemmas.Bool.{cases_Bool, cond-true, cond-false, leb-true, ltb-true, eqb-false}
use Rattle.std.proofs.lemmas.Bool.{and_parts}
use Rattle.std.proofs.lemmas.List.Elements.{All-nil, All-cons}
use Rattle.std.proofs.lemmas.List.Splits.{join_with_byte-slice_split}
use Rattle.std.proofs.lemmas.Option.{none-some, same_Some, cond_some}
use Rattle.std.proofs.lemmas.Slice.Eq.{bytes_eq-Decides}
use Rattle.dstm_model.specs.declared.reply.Reply.{Reply}
use Rattle.dstm_model.specs.declared.reply.Reply.TheVariants.{Moved, Poor, Number, Yes, No, Full, Absent, Never}
use Rattle.dstm_model.specs.declared.state.Item.{Item}
use Rattle.dstm_text.specs.Lines.{pieces}
use Rattle.dstm_text.specs.Number.{number_of}
use Rattle.dstm_report.specs.declared.draft.TheConstants.{MAX_NUMBER, MAX_WORKER, COLON, DOT}
use Rattle.dstm_report.specs.declared.report.Row.{Row}
use Rattle.dstm_text.specs.Options.{◌>>=◌}
use Rattle.dstm_report.specs.Parser.{after_word, up_to, number_in, number_at, at_end, both_numbers, pair_of, place_at}
use Rattle.dstm_report.specs.Parser.{known_reply, number_reply, reply_of, further_reply, further_replies, replies_of, row_of}
use Rattle.dstm_report.specs.Parser.{numbers_of, item_of, items_of, count_of}
use Rattle.dstm_report.specs.Parser.{header_of}
use Rattle.dstm_report.specs.Reading.{HasReply, HasRow, HasItem, IsNumber}
use Rattle.dstm_report.specs.Text.{reply_text, item_text}
use Rattle.dstm_report.proofs.RoundTrip.{row_words, further_words, pair_word}

-- no other text is read as a number than the one that is printed
abbrev pub Only : Type 0
Only = (word : List ℕ) (n : ℕ) → n < 2 ^ 64 → number_of word ≡ Some n → word ≡ decimal n

-- ---- options and lists

pub bind_some : {A B : Type 0} (o : Option A) (f : A → Option B) (y : B) → (o >>= f) ≡ Some y →
    (x : A) × (o ≡ Some x) × (f x ≡ Some y)
bind_some None f y is = absurd (none-some y is)
bind_some (Some x) f y is = (x, refl, is)

pub map_some : {A B : Type 0} (f : A → B) (o : Option A) (y : B) → option_map f o ≡ Some y →
    (x : A) × (o ≡ Some x) × (f x ≡ y)
map_some f None y is = absurd (none-some y is)
map_some f (Some x) y is = (x, refl, same_Some (f x) y is)

pub if_some : {A : Type 0} (test : Bool) (o : Option A) (y : A) → cond test o None ≡ Some y → (test ≡ true) × (o ≡ Some y)
if_some true o y is = (refl, is)
if_some false o y is = absurd (none-some y is)

pub same_cons : {A : Type 0} {a b : A} {xs ys : List A} → a ≡ b → xs ≡ ys → a ∷ xs ≡ b ∷ ys
same_cons {A} {a} {b} {xs} {ys} first rest = ap (λ (x : A). x ∷ xs) first ∙ ap (λ (zs : List A). b ∷ zs) rest

-- a line is told by its words
pub same_text : (c : ℕ) (a b : List ℕ) → pieces c a ≡ pieces c b → a ≡ b
same_text c a b same =
    sym (join_with_byte-slice_split c a) ∙ ap (join_with_byte c) same ∙ join_with_byte-slice_split c b

pub is_word : (word text : List ℕ) → bytes_eq word text ≡ true → word ≡ text
is_word word text same = (bytes_eq-Decides word text).0 same

-- ---- numbers

up_to_some : (most n : ℕ) (o : Option ℕ) → up_to most o ≡ Some n → (o ≡ Some n) × (n ≤ most)
up_to_some most n None is = absurd (none-some n is)
up_to_some most n (Some m) is =
    let parts = cond_some (leb m most) m n is in
    (ap (λ (k : ℕ). Some k) parts.1, subst (λ k. k ≤ most) parts.1 (leb-true m most parts.0))

number_in_is : Only → (most n : ℕ) (word : List ℕ) → most ≤ MAX_NUMBER → number_in most word ≡ Some n →
    (word ≡ decimal n) × (n ≤ most)
number_in_is only most n word range is =
    let read = up_to_some most n (number_of word) is in
    (only word n (omega (arith, read.1)) read.0, read.1)

number_at_is : Only → (most : ℕ) (words : List (List ℕ)) (read : ℕ × List (List ℕ)) → most ≤ MAX_NUMBER →
    number_at most words ≡ Some read → (words ≡ decimal read.0 ∷ read.1) × (read.0 ≤ most)
number_at_is only most [] read range is = absurd (none-some read is)
number_at_is only most (word ∷ words) read range is =
    let found = bind_some (number_in most word) _ read is in
    let made : ℕ × List (List ℕ) = (found.0, words) in
    let number = number_in_is only most found.0 word range found.1 in
    subst (λ (r : ℕ × List (List ℕ)). (word ∷ words ≡ decimal r.0 ∷ r.1) × (r.0 ≤ most)) (same_Some made read found.2)
    (same_cons number.0 refl, number.1)

at_end_is : (words rest : List (List ℕ)) → at_end words ≡ Some rest → words ≡ []
at_end_is [] rest is = refl
at_end_is (word ∷ words) rest is = absurd (none-some rest is)

after_word_is : (text : List ℕ) (words rest : List (List ℕ)) → after_word text words ≡ Some rest → words ≡ text ∷ rest
after_word_is text [] rest is = absurd (none-some rest is)
after_word_is text (word ∷ words) rest is =
    let parts = cond_some (bytes_eq word text) words rest is in
    same_cons (is_word word text parts.0) parts.1

both_is : Only → (words : List (List ℕ)) (pair : ℕ × ℕ) → both_numbers words ≡ Some pair →
    (words ≡ decimal pair.0 ∷ decimal pair.1 ∷ []) × (pair.0 ≤ MAX_NUMBER) × (pair.1 ≤ MAX_NUMBER)
both_is only (a ∷ b ∷ []) pair is =
    let first = bind_some (number_in MAX_NUMBER a) _ pair is in
    let second = bind_some (number_in MAX_NUMBER b) _ pair first.2 in
    let made : ℕ × ℕ = (first.0, second.0) in
    let left = number_in_is only MAX_NUMBER first.0 a (omega arith) first.1 in
    let right = number_in_is only MAX_NUMBER second.0 b (omega arith) second.1 in
    subst (λ (p : ℕ × ℕ). (a ∷ b ∷ [] ≡ decimal p.0 ∷ decimal p.1 ∷ []) × (p.0 ≤ MAX_NUMBER) × (p.1 ≤ MAX_NUMBER))
    (same_Some made pair second.2) (same_cons left.0 (same_cons right.0 refl), left.1, right.1)
both_is only words pair is = absurd (none-some pair is)

pair_of_is : Only → (c : ℕ) (word : List ℕ) (pair : ℕ × ℕ) → pair_of c word ≡ Some pair →
    (word ≡ pair_word c pair.0 pair.1) × (pair.0 ≤ MAX_NUMBER) × (pair.1 ≤ MAX_NUMBER)
pair_of_is only c word pair is =
    let both = both_is only (pieces c word) pair is in (
      sym (join_with_byte-slice_split c word) ∙ ap (join_with_byte c) both.0
          ∙ sym (append_assoc (decimal pair.0) (c ∷ []) (decimal pair.1)),
      both.1,
      both.2,
    )

place_at_is : Only → (words : List (List ℕ)) (read : (ℕ × ℕ) × List (List ℕ)) → place_at words ≡ Some read →
    (words ≡ pair_word DOT read.0.0 read.0.1 ∷ read.1) × (read.0.0 ≤ MAX_NUMBER) × (read.0.1 ≤ MAX_NUMBER)
place_at_is only [] read is = absurd (none-some read is)
place_at_is only (word ∷ words) read is =
    let found = bind_some (pair_of DOT word) _ read is in
    let made : (ℕ × ℕ) × List (List ℕ) = (found.0, words) in
    let pair = pair_of_is only DOT word found.0 found.1 in
    subst (λ (r : (ℕ × ℕ) × List (List ℕ)). (word ∷ words ≡ pair_word DOT r.0.0 r.0.1 ∷ r.1) × (r.0.0 ≤ MAX_NUMBER)
    × (r.0.1 ≤ MAX_NUMBER)) (same_Some made read found.2) (same_cons pair.0 refl, pair.1, pair.2)

-- ---- replies

-- the word is that of the reply, which the version has
abbrev Spells : ℕ → List ℕ → Reply → Type 0
Spells version word reply = (word ≡ reply_text reply) × HasReply version reply

-- one word of the table, or one of the others
chosen : (version : ℕ) (word : List ℕ) (test : Bool) (known : Reply) (others : Option Reply) (reply : Reply) →
    (test ≡ true → Spells version word known) → (others ≡ Some reply → Spells version word reply) →
    cond test (Some known) others ≡ Some reply → Spells version word reply
chosen version word true known others reply here there is =
    subst (Spells version word) (same_Some known reply is) (here refl)
chosen version word false known others reply here there is = there is

known_reply_is : (version : ℕ) (word : List ℕ) (reply : Reply) → known_reply version word ≡ Some reply →
    Spells version word reply
known_reply_is version word reply is =
    chosen version word (bytes_eq word (codes "ok")) Moved _ reply (λ t. (is_word word (codes "ok") t, tt))
    (chosen version word (bytes_eq word (codes "poor")) Poor _ reply (λ t. (is_word word (codes "poor") t, tt))
    (chosen version word (bytes_eq word (codes "true")) Yes _ reply (λ t. (is_word word (codes "true") t, tt))
    (chosen version word (bytes_eq word (codes "false")) No _ reply (λ t. (is_word word (codes "false") t, tt))
    (chosen version word (bytes_eq word (codes "full")) Full _ reply (λ t. (is_word word (codes "full") t, tt))
    (chosen version word (bytes_eq word (codes "none") && leb 2 version) Absent _ reply
    (λ t. let both = and_parts (bytes_eq word (codes "none")) (leb 2 version) t in
    (is_word word (codes "none") both.0, leb-true 2 version both.1))
    (chosen version word (bytes_eq word (codes "never") && leb 3 version) Never None reply
    (λ t. let both = and_parts (bytes_eq word (codes "never")) (leb 3 version) t in
    (is_word word (codes "never") both.0, leb-true 3 version both.1))
    (λ none. absurd (none-some reply none)))))))) is

number_reply_is : (o : Option ℕ) (reply : Reply) → number_reply o ≡ Some reply →
    (n : ℕ) × (o ≡ Some n) × (Number n ≡ reply)
number_reply_is None reply is = absurd (none-some reply is)
number_reply_is (Some n) reply is = (n, refl, same_Some (Number n) reply is)

reply_of_is : Only → (version : ℕ) (word : List ℕ) (reply : Reply) → reply_of version word ≡ Some reply →
    Spells version word reply
reply_of_is only version word reply is = go (known_reply version word) refl is
  where
    go : (known : Option Reply) → known_reply version word ≡ known →
        option_or known (number_reply (number_in MAX_NUMBER word)) ≡ Some reply → Spells version word reply
    go None none told =
        let found = number_reply_is (number_in MAX_NUMBER word) reply told in
        let number = number_in_is only MAX_NUMBER found.0 word (omega arith) found.1 in
        subst (Spells version word) found.2 (number.0, number.1)
    go (Some known) found told = known_reply_is version word reply (found ∙ told)

further_reply_is : Only → (version : ℕ) (mark word : List ℕ) (reply : Reply) →
    further_reply version mark word ≡ Some reply → (mark ≡ codes ";") × Spells version word reply
further_reply_is only version mark word reply is =
    let parts = if_some (bytes_eq mark (codes ";")) (reply_of version word) reply is in
    (is_word mark (codes ";") parts.0, reply_of_is only version word reply parts.1)

further_replies_is : Only → (version room : ℕ) (words : List (List ℕ)) (replies : List Reply) →
    further_replies version room words ≡ Some replies →
    (words ≡ further_words replies) × All (HasReply version) replies × (length replies ≤ room)
further_replies_is only version room [] replies is =
    subst (λ (rs : List Reply). ([] ≡ further_words rs) × All (HasReply version) rs × (length rs ≤ room))
    (same_Some [] replies is) (refl, All-nil (HasReply version), omega arith)
further_replies_is only version room (mark ∷ []) replies is = absurd (none-some replies is)
further_replies_is only version room (mark ∷ word ∷ words) replies is =
    let fits = if_some (ltb 0 room) _ replies is in
    let first = bind_some (further_reply version mark word) _ replies fits.1 in
    let rest = bind_some (further_replies version (room - 1) words) _ replies first.2 in
    let here = further_reply_is only version mark word first.0 first.1 in
    let more = further_replies_is only version (room - 1) words rest.0 rest.1 in
    subst (λ (rs : List Reply). (mark ∷ word ∷ words ≡ further_words rs) × All (HasReply version) rs
    × (length rs ≤ room)) (same_Some (first.0 ∷ rest.0) replies rest.2) (
      same_cons here.0 (same_cons here.1.0 more.0),
      All-cons (HasReply version) first.0 rest.0 here.1.1 more.1,
      omega (arith, ltb-true 0 room fits.0, more.2),
    )

-- the words spell 1 to 8 replies of the version
record SpellReplies (version : ℕ) (words : List (List ℕ)) (replies : List Reply) : Type 0 where
  first : Reply
  further : List Reply
  are : replies ≡ first ∷ further
  spelled : words ≡ reply_text first ∷ further_words further
  each : All (HasReply version) replies
  few : length replies ≤ 8

replies_of_is : Only → (version : ℕ) (words : List (List ℕ)) (replies : List Reply) →
    replies_of version words ≡ Some replies → SpellReplies version words replies
replies_of_is only version [] replies is = absurd (none-some replies is)
replies_of_is only version (word ∷ words) replies is =
    let found = bind_some (reply_of version word) _ replies is in
    let rest = bind_some (further_replies version 7 words) _ replies found.2 in
    let here = reply_of_is only version word found.0 found.1 in
    let more = further_replies_is only version 7 words rest.0 rest.1 in
    subst (SpellReplies version (word ∷ words)) (same_Some (found.0 ∷ rest.0) replies rest.2) (record {
      first = found.0;
      further = rest.0;
      are = refl;
      spelled = same_cons here.0 more.0;
      each = All-cons (HasReply version) found.0 rest.0 here.1 more.1;
      few = omega (arith, more.2);
    })

-- ---- rows

-- the words are those of the row, which the version can hold
pub record SpellRow (version : ℕ) (words : List (List ℕ)) (row : Row) : Type 0 where
  pub has : HasRow version row
  pub reply : Reply
  pub replies : List Reply
  pub are : row.replies ≡ reply ∷ replies
  pub spelled : words ≡ row_words row reply replies

pub row_of_is : Only → (version : ℕ) (words : List (List ℕ)) (row : Row) → row_of version words ≡ Some row →
    SpellRow version words row
unfolding row_of
row_of_is only version words row is =
    let line = bind_some (number_at MAX_NUMBER words) _ row is in
    let worker = bind_some (number_at MAX_WORKER line.0.1) _ row line.2 in
    let place = bind_some (place_at worker.0.1) _ row worker.2 in
    let told = bind_some (replies_of version place.0.1) _ row place.2 in
    let line_is = number_at_is only MAX_NUMBER words line.0 (omega arith) line.1 in
    let worker_is = number_at_is only MAX_WORKER line.0.1 worker.0 (omega arith) worker.1 in
    let place_is = place_at_is only worker.0.1 place.0 place.1 in
    let told_is = replies_of_is only version place.0.1 told.0 told.1 in
    let made : Row = record {
      line = line.0.0;
      worker = worker.0.0;
      round = place.0.0.0;
      number = place.0.0.1;
      replies = told.0;
    } in
    subst (SpellRow version words) (same_Some made row told.2) (record {
      has = record {
        line = line_is.1;
        worker = worker_is.1;
        round = place_is.1;
        number = place_is.2;
        some = omega (arith, ap length told_is.are);
        few = told_is.few;
        replies = told_is.each;
      };
      reply = told_is.first;
      replies = told_is.further;
      are = told_is.are;
      spelled = line_is.0 ∙ ap (λ (ws : List (List ℕ)). decimal line.0.0 ∷ ws) (worker_is.0
          ∙ ap (λ (ws : List (List ℕ)). decimal worker.0.0 ∷ ws) (place_is.0
          ∙ ap (λ (ws : List (List ℕ)). pair_word DOT place.0.0.0 place.0.0.1 ∷ ws) told_is.spelled));
    })

-- ---- what a structure holds

pub numbers_of_is : Only → (words : List (List ℕ)) (numbers : List ℕ) → numbers_of words ≡ Some numbers →
    (words ≡ map decimal numbers) × All IsNumber numbers
numbers_of_is only [] numbers is =
    subst (λ (ns : List ℕ). ([] ≡ map decimal ns) × All IsNumber ns) (same_Some [] numbers is) (refl, All-nil IsNumber)
numbers_of_is only (word ∷ words) numbers is =
    let first = bind_some (number_in MAX_NUMBER word) _ numbers is in
    let rest = bind_some (numbers_of words) _ numbers first.2 in
    let here = number_in_is only MAX_NUMBER first.0 word (omega arith) first.1 in
    let more = numbers_of_is only words rest.0 rest.1 in
    subst (λ (ns : List ℕ). (word ∷ words ≡ map decimal ns) × All IsNumber ns)
    (same_Some (first.0 ∷ rest.0) numbers rest.2)
    (same_cons here.0 more.0, All-cons IsNumber first.0 rest.0 here.1 more.1)

item_of_is : Only → (version : ℕ) (word : List ℕ) (item : Item) → item_of version word ≡ Some item →
    (word ≡ item_text version item) × HasItem version item
item_of_is only version word item is =
    let Is : Item → Type 0 = λ i. (word ≡ item_text version i) × HasItem version i in
    ⊎_elim
    (λ yes.
    let found = map_some _ (number_in MAX_NUMBER word) item (sym (cond-true (eqb version 1) _ _ yes) ∙ is) in
    let number = number_in_is only MAX_NUMBER found.0 word (omega arith) found.1 in
    subst Is found.2 (
      number.0 ∙ sym (cond-true (eqb version 1) (decimal found.0) _ yes),
      record { key = number.1; value = omega arith; keys_alone = λ one. refl },
    ))
    (λ no.
    let found = map_some _ (pair_of COLON word) item (sym (cond-false (eqb version 1) _ _ no) ∙ is) in
    let pair = pair_of_is only COLON word found.0 found.1 in
    subst Is found.2 (
      pair.0 ∙ sym (cond-false (eqb version 1) (decimal found.0.0) _ no),
      record { key = pair.1; value = pair.2; keys_alone = λ one. absurd (eqb-false version 1 no one) },
    ))
    (cases_Bool (eqb version 1))

pub items_of_is : Only → (version : ℕ) (words : List (List ℕ)) (items : List Item) → items_of version words ≡ Some items →
    (words ≡ map (item_text version) items) × All (HasItem version) items
items_of_is only version [] items is =
    subst (λ (xs : List Item). ([] ≡ map (item_text version) xs) × All (HasItem version) xs) (same_Some [] items is)
    (refl, All-nil (HasItem version))
items_of_is only version (word ∷ words) items is =
    let first = bind_some (item_of version word) _ items is in
    let rest = bind_some (items_of version words) _ items first.2 in
    let here = item_of_is only version word first.0 first.1 in
    let more = items_of_is only version words rest.0 rest.1 in
    subst (λ (xs : List Item). (word ∷ words ≡ map (item_text version) xs) × All (HasItem version) xs)
    (same_Some (first.0 ∷ rest.0) items rest.2)
    (same_cons here.0 more.0, All-cons (HasItem version) first.0 rest.0 here.1 more.1)

pub count_of_is : Only → (words : List (List ℕ)) (count : ℕ) → count_of words ≡ Some count →
    (words ≡ decimal count ∷ []) × (count ≤ MAX_NUMBER)
unfolding count_of
count_of_is only words count is =
    let number = bind_some (number_at MAX_NUMBER words) _ count is in
    let end = bind_some (at_end number.0.1) _ count number.2 in
    let number_is = number_at_is only MAX_NUMBER words number.0 (omega arith) number.1 in
    subst (λ (n : ℕ). (words ≡ decimal n ∷ []) × (n ≤ MAX_NUMBER)) (same_Some number.0.0 count end.2) (
      number_is.0 ∙ ap (λ (ws : List (List ℕ)). decimal number.0.0 ∷ ws) (at_end_is number.0.1 end.0 end.1),
      number_is.1,
    )

pub header_of_is : Only → (words : List (List ℕ)) (version : ℕ) → header_of words ≡ Some version →
    (words ≡ codes "dstm" ∷ codes "report" ∷ decimal version ∷ []) × (version ≤ MAX_NUMBER)
unfolding header_of
header_of_is only words version is =
    let first = bind_some (after_word (codes "dstm") words) _ version is in
    let second = bind_some (after_word (codes "report") first.0) _ version first.2 in
    let number = bind_some (number_at MAX_NUMBER second.0) _ version second.2 in
    let end = bind_some (at_end number.0.1) _ version number.2 in
    let number_is = number_at_is only MAX_NUMBER second.0 number.0 (omega arith) number.1 in
    subst (λ (n : ℕ). (words ≡ codes "dstm" ∷ codes "report" ∷ decimal n ∷ []) × (n ≤ MAX_NUMBER))
    (same_Some number.0.0 version end.2) (
      after_word_is (codes "dstm") words first.0 first.1
          ∙ ap (λ (ws : List (List ℕ)). codes "dstm" ∷ ws) (after_word_is (codes "report") first.0 second.0 second.1
          ∙ ap (λ (ws : List (List ℕ)). codes "report" ∷ ws) (number_is.0
          ∙ ap (λ (ws : List (List ℕ)). decimal number.0.0 ∷ ws) (at_end_is number.0.1 end.0 end.1))),
      number_is.1,
    )
