-- How a text is cut at one of its lines.
use Rattle.std.proofs.Common.{◌≡◌, ℕ, ◌+◌, ◌<◌, ◌≤◌, Bool, true, false, List, [], ◌∷◌, ◌++◌, length, take, drop, get_or, Option, Some, None, eqb, cond, refl, sym, ap, subst, ◌∙◌, append_assoc, append-nil, arith}
use Rattle.std.proofs.lemmas.Bool.{false_from_ne_true, eqb-true}
use Rattle.std.proofs.lemmas.List.{take-append-drop, drop_more, get_or-take, length-take-le, length-drop, drop-drop}
use Rattle.std.proofs.Math.Seq.{take-add}
use Rattle.std.proofs.lemmas.List.Elements.{All-from_get_or}
use Rattle.std.specs.Str.{bytes_eq}
use Rattle.memchr.specs.Find.{NoneBefore, Passes, IsFirstByte, is_byte}
use Rattle.dstm_text.specs.Lines.{lines_of, split_lines, without_empty_end, line_feed}
use Rattle.dstm_text.proofs.LineLaws.{IsFreeOf, lines_of-append, pieces_none}

-- ---- lines before lines

-- the lines of a front come before those of what follows it: it is empty or ends with a line feed
abbrev pub IsWhole : List ℕ → Type 0
IsWhole front = (rest : List ℕ) → lines_of (front ++ rest) ≡ lines_of front ++ lines_of rest

-- a line more
whole-more : (front line : List ℕ) → IsFreeOf line_feed line → IsWhole front → IsWhole (front ++ (line ++ line_feed ∷ []))
whole-more front line free whole rest =
    let ended : List ℕ = line ++ line_feed ∷ [] in
    let lines : lines_of (front ++ ended) ≡ lines_of front ++ line ∷ [] =
    whole ended ∙ ap (λ (ls : List (List ℕ)). lines_of front ++ ls) (lines_of-append line [] free) in
    let longer : lines_of (ended ++ rest) ≡ line ∷ lines_of rest =
    ap lines_of (append_assoc line (line_feed ∷ []) rest) ∙ lines_of-append line rest free in
    ap lines_of (append_assoc front ended rest) ∙ whole (ended ++ rest)
    ∙ ap (λ (ls : List (List ℕ)). lines_of front ++ ls) longer
    ∙ sym (append_assoc (lines_of front) (line ∷ []) (lines_of rest))
    ∙ ap (λ (ls : List (List ℕ)). ls ++ lines_of rest) (sym lines)

-- ---- lines without the mark

-- no line is this one
abbrev pub Lacks : List ℕ → List (List ℕ) → Type 0
Lacks mark [] = Unit {0}
Lacks mark (line ∷ lines) = (bytes_eq line mark ≡ false) × Lacks mark lines

pub lacks-append : (mark : List ℕ) (lines more : List (List ℕ)) → Lacks mark lines → Lacks mark more → Lacks mark (lines ++ more)
lacks-append mark [] more none others = others
lacks-append mark (line ∷ lines) more none others = (none.0, lacks-append mark lines more none.1 others)

abbrev pub Split : Type 0
Split = List (List ℕ) × Option (List (List ℕ))

abbrev pub onto : List (List ℕ) → Split → Split
onto lines split = (lines ++ split.0, split.1)

pub split-append : (mark : List ℕ) (lines more : List (List ℕ)) → Lacks mark lines →
    split_lines mark (lines ++ more) ≡ onto lines (split_lines mark more)
split-append mark [] more none = refl
split-append mark (line ∷ lines) more none =
    ap (λ (b : Bool). cond b ([], Some (lines ++ more)) (line ∷ (split_lines mark (lines ++ more)).0, (split_lines mark (lines ++ more)).1)) none.0
    ∙ ap (λ (s : Split). (line ∷ s.0, s.1)) (split-append mark lines more none.1)

pub split-at : (mark line : List ℕ) (lines : List (List ℕ)) → bytes_eq line mark ≡ true → split_lines mark (line ∷ lines) ≡ ([], Some lines)
split-at mark line lines is =
    ap (λ (b : Bool). cond b ([], Some lines) (line ∷ (split_lines mark lines).0, (split_lines mark lines).1)) is

-- ---- the search

-- a search that has come to the place `start`
pub record Searched (bytes mark : List ℕ) (start : ℕ) : Type 0 where
  pub within : start ≤ length bytes
  pub whole : IsWhole (take start bytes)
  pub lacks : Lacks mark (lines_of (take start bytes))

pub searched-none : (bytes mark : List ℕ) → Searched bytes mark 0
searched-none bytes mark = record { within = omega arith; whole = λ rest. refl; lacks = tt }

-- a line before its line feed
record IsLine (bs : List ℕ) (k : ℕ) : Type 0 where
  within : k < length bs
  free : IsFreeOf line_feed (take k bs)
  cut : bs ≡ take k bs ++ line_feed ∷ drop (k + 1) bs

line_at : (bs : List ℕ) (k : ℕ) → NoneBefore (Passes (is_byte line_feed) bs) 0 (length bs) k → Passes (is_byte line_feed) bs k → IsLine bs k
line_at bs k first here =
    let lt : k < length bs = first.high in
    let byte : get_or bs k 0 ≡ line_feed = eqb-true (get_or bs k 0) line_feed here in
    record {
      within = lt;
      free = All-from_get_or (λ b. eqb b line_feed ≡ false) (take k bs) 0 (λ i at.
          let below : i < k = omega (arith, at, length-take-le k bs (omega (arith, lt))) in
          ap (λ b. eqb b line_feed) (get_or-take k bs i 0 below)
          ∙ false_from_ne_true _ (first.before i (omega arith) below));
      cut = sym (take-append-drop k bs) ∙ ap (λ (r : List ℕ). take k bs ++ r) (drop_more bs k 0 lt)
          ∙ ap (λ (b : ℕ). take k bs ++ b ∷ drop (k + 1) bs) byte;
    }

-- the lines of the text, where a line stands next
lines_then : (bytes mark : List ℕ) (start k : ℕ) → Searched bytes mark start → IsLine (drop start bytes) k →
    lines_of bytes ≡ lines_of (take start bytes) ++ take k (drop start bytes) ∷ lines_of (drop (start + k + 1) bytes)
lines_then bytes mark start k so_far line =
    let front = take start bytes in
    let tail = drop start bytes in
    let sum : start + (k + 1) ≡ start + k + 1 = omega arith in
    let behind : drop (k + 1) tail ≡ drop (start + k + 1) bytes =
    drop-drop (k + 1) start bytes ∙ ap (λ n. drop n bytes) sum in
    ap lines_of (sym (take-append-drop start bytes)) ∙ so_far.whole tail
    ∙ ap (λ (ls : List (List ℕ)). lines_of front ++ ls)
    (ap lines_of line.cut ∙ lines_of-append (take k tail) (drop (k + 1) tail) line.free
    ∙ ap (λ (r : List ℕ). take k tail ∷ lines_of r) behind)

pub searched-more : (bytes mark : List ℕ) (start k : ℕ) → Searched bytes mark start →
    IsFirstByte (is_byte line_feed) (drop start bytes) (Some k) →
    bytes_eq (take k (drop start bytes)) mark ≡ false → Searched bytes mark (start + k + 1)
searched-more bytes mark start k so_far first other =
    let front = take start bytes in
    let tail = drop start bytes in
    let line = line_at tail k first.0 first.1 in
    let more : take (k + 1) tail ≡ take k tail ++ line_feed ∷ [] =
    take-add k 1 tail ∙ ap (λ (r : List ℕ). take k tail ++ take 1 r) (drop_more tail k 0 line.within)
    ∙ ap (λ (b : ℕ). take k tail ++ b ∷ []) (eqb-true (get_or tail k 0) line_feed first.1) in
    let sum : start + k + 1 ≡ start + (k + 1) = omega arith in
    let longer : take (start + k + 1) bytes ≡ front ++ (take k tail ++ line_feed ∷ []) =
    ap (λ n. take n bytes) sum ∙ take-add start (k + 1) bytes ∙ ap (λ (r : List ℕ). front ++ r) more in
    let lines : lines_of (front ++ (take k tail ++ line_feed ∷ [])) ≡ lines_of front ++ take k tail ∷ [] =
    so_far.whole (take k tail ++ line_feed ∷ [])
    ∙ ap (λ (ls : List (List ℕ)). lines_of front ++ ls) (lines_of-append (take k tail) [] line.free) in
    record {
      within = omega (arith, length-drop start bytes, so_far.within, line.within);
      whole = subst IsWhole (sym longer) (whole-more front (take k tail) line.free so_far.whole);
      lacks = subst (Lacks mark) (sym (ap lines_of longer ∙ lines))
          (lacks-append mark (lines_of front) (take k tail ∷ []) so_far.lacks (other, tt));
    }

-- what stands around the line
pub found : (bytes mark : List ℕ) (start k : ℕ) → Searched bytes mark start →
    IsFirstByte (is_byte line_feed) (drop start bytes) (Some k) →
    bytes_eq (take k (drop start bytes)) mark ≡ true →
    split_lines mark (lines_of bytes) ≡ (lines_of (take start bytes), Some (lines_of (drop (start + k + 1) bytes)))
found bytes mark start k so_far first is =
    let front = take start bytes in
    let tail = drop start bytes in
    let behind = lines_of (drop (start + k + 1) bytes) in
    ap (split_lines mark) (lines_then bytes mark start k so_far (line_at tail k first.0 first.1))
    ∙ split-append mark (lines_of front) (take k tail ∷ behind) so_far.lacks
    ∙ ap (onto (lines_of front)) (split-at mark (take k tail) behind is)
    ∙ ap (λ (ls : List (List ℕ)). (ls, Some behind)) (append-nil (lines_of front))

-- ---- the last line, which lacks its line feed

record IsLast (bs : List ℕ) : Type 0 where
  lines : 0 < length bs → lines_of bs ≡ bs ∷ []
  none : length bs ≡ 0 → lines_of bs ≡ []

last_line : (bs : List ℕ) → IsFirstByte (is_byte line_feed) bs None → IsLast bs
last_line [] none = record { lines = λ some. absurd (omega (arith, some)); none = λ is. refl }
last_line (b ∷ bs) none = record {
  lines = λ some. ap without_empty_end (pieces_none line_feed (b ∷ bs) none);
  none = λ is. absurd (omega (arith, is));
}

lines_last : (bytes mark : List ℕ) (start : ℕ) → Searched bytes mark start →
    lines_of bytes ≡ lines_of (take start bytes) ++ lines_of (drop start bytes)
lines_last bytes mark start so_far = ap lines_of (sym (take-append-drop start bytes)) ∙ so_far.whole (drop start bytes)

pub found_last : (bytes mark : List ℕ) (start : ℕ) → Searched bytes mark start →
    IsFirstByte (is_byte line_feed) (drop start bytes) None →
    0 < length (drop start bytes) → bytes_eq (drop start bytes) mark ≡ true →
    split_lines mark (lines_of bytes) ≡ (lines_of (take start bytes), Some [])
found_last bytes mark start so_far none some is =
    let front = lines_of (take start bytes) in
    let tail = drop start bytes in
    ap (split_lines mark) (lines_last bytes mark start so_far
    ∙ ap (λ (ls : List (List ℕ)). front ++ ls) ((last_line tail none).lines some))
    ∙ split-append mark front (tail ∷ []) so_far.lacks
    ∙ ap (onto front) (split-at mark tail [] is)
    ∙ ap (λ (ls : List (List ℕ)). (ls, Some [])) (append-nil front)

split-none : (mark : List ℕ) (lines : List (List ℕ)) → Lacks mark lines → split_lines mark lines ≡ (lines, None)
split-none mark [] none = refl
split-none mark (line ∷ lines) none =
    ap (λ (b : Bool). cond b ([], Some lines) (line ∷ (split_lines mark lines).0, (split_lines mark lines).1)) none.0
    ∙ ap (λ (s : Split). (line ∷ s.0, s.1)) (split-none mark lines none.1)

absent : (bytes mark : List ℕ) (start : ℕ) → Searched bytes mark start → Lacks mark (lines_of (drop start bytes)) →
    split_lines mark (lines_of bytes) ≡ (lines_of bytes, None)
absent bytes mark start so_far none =
    split-none mark (lines_of bytes) (subst (Lacks mark) (sym (lines_last bytes mark start so_far))
    (lacks-append mark (lines_of (take start bytes)) (lines_of (drop start bytes)) so_far.lacks none))

pub absent_empty : (bytes mark : List ℕ) (start : ℕ) → Searched bytes mark start →
    IsFirstByte (is_byte line_feed) (drop start bytes) None →
    length (drop start bytes) ≡ 0 → split_lines mark (lines_of bytes) ≡ (lines_of bytes, None)
absent_empty bytes mark start so_far none is =
    absent bytes mark start so_far (subst (Lacks mark) (sym ((last_line (drop start bytes) none).none is)) tt)

pub absent_other : (bytes mark : List ℕ) (start : ℕ) → Searched bytes mark start →
    IsFirstByte (is_byte line_feed) (drop start bytes) None →
    0 < length (drop start bytes) → bytes_eq (drop start bytes) mark ≡ false →
    split_lines mark (lines_of bytes) ≡ (lines_of bytes, None)
absent_other bytes mark start so_far none some other =
    absent bytes mark start so_far (subst (Lacks mark) (sym ((last_line (drop start bytes) none).lines some)) (other, tt))
