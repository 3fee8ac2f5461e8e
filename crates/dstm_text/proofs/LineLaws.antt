-- How pieces, lines and fields come off the front of a text.
use Rattle.std.proofs.Common.{◌≡◌, ◌≢◌, ℕ, suc, ◌+◌, ◌<◌, ◌≤◌, Bool, true, false, List, [], ◌∷◌, ◌++◌}
use Rattle.std.proofs.Common.{length, take, drop, get_or, Option, Some, None, unwrap_or}
use Rattle.std.proofs.Common.{option_copied, Bor, eqb, cond, IfNone, refl, sym, ap, ◌∙◌, arith}
use Rattle.std.proofs.lemmas.Bool.{false_from_ne_true, eq-eqb, ne_eqb}
use Rattle.std.proofs.lemmas.List.{take-append-drop, drop_more, get_or-take, length-take-le}
use Rattle.std.proofs.lemmas.List.Elements.{All-from_get_or}
use Rattle.std.proofs.lemmas.List.Splits.{slice_split_none, slice_split_at}
use Rattle.std.specs.List.{All, onto_first}
use Rattle.memchr.specs.Find.{Nowhere, NoneBefore, Passes, is_byte}
use Rattle.dstm_text.specs.Lines.{pieces, pieces_left, is_empty, non_empty}
use Rattle.dstm_text.specs.Lines.{without_empty_end, lines_of, fields_of, line_feed, space}

-- a text without the separator is one piece
pub pieces_none : (c : ℕ) (bs : List ℕ) → Nowhere (Passes (is_byte c) bs) 0 (length bs) →
    pieces c bs ≡ bs ∷ []
pieces_none c bs none =
    slice_split_none (λ b. eqb b c) bs
    (All-from_get_or (λ b. eqb b c ≡ false) bs 0 (λ i lt. false_from_ne_true _ (none i (omega arith) lt)))

-- the first piece ends at the first separator
pub pieces_at : (c : ℕ) (bs : List ℕ) (k : ℕ) → NoneBefore (Passes (is_byte c) bs) 0 (length bs) k →
    Passes (is_byte c) bs k →
    pieces c bs ≡ take k bs ∷ pieces c (drop (k + 1) bs)
pieces_at c bs k first here =
    let lt : k < length bs = first.high in
    let cut : bs ≡ take k bs ++ (get_or bs k 0 ∷ drop (k + 1) bs) =
    sym (take-append-drop k bs) ∙ ap (λ (r : List ℕ). take k bs ++ r) (drop_more bs k 0 lt) in
    let clear : All (λ b. eqb b c ≡ false) (take k bs) =
    All-from_get_or (λ b. eqb b c ≡ false) (take k bs) 0 (λ i at.
    let below : i < k = omega (arith, length-take-le k bs (omega arith)) in
    ap (λ b. eqb b c) (get_or-take k bs i 0 below)
    ∙ false_from_ne_true _ (first.before i (omega arith) below)) in
    ap (pieces c) cut ∙ slice_split_at (λ b. eqb b c) (take k bs) (get_or bs k 0) (drop (k + 1) bs) clear here

onto_first_cons : (b : ℕ) (ps : List (List ℕ)) →
    (q : List ℕ) × (qs : List (List ℕ)) × (onto_first b ps ≡ q ∷ qs)
onto_first_cons b [] = (b ∷ [], [], refl)
onto_first_cons b (p ∷ ps) = (b ∷ p, ps, refl)

-- there is a piece
pub pieces_cons : (c : ℕ) (bs : List ℕ) → (q : List ℕ) × (qs : List (List ℕ)) × (pieces c bs ≡ q ∷ qs)
pieces_cons c [] = ([], [], refl)
pieces_cons c (b ∷ bs) =
    elim (eqb b c) as (λ t. (q : List ℕ) × (qs : List (List ℕ))
    × (cond t ([] ∷ pieces c bs) (onto_first b (pieces c bs)) ≡ q ∷ qs)) [
      | true ↦ ([], pieces c bs, refl)
      | false ↦ onto_first_cons b (pieces c bs)
    ]

line_of_all : (bs : List ℕ) → 0 < length bs → without_empty_end (bs ∷ []) ≡ bs ∷ []
line_of_all [] h = absurd (omega arith)
line_of_all (b ∷ bs) h = refl

-- the first line of a text that is not empty, and the text after it
pub lines_cut : (bs line : List ℕ) (rest : Option (Bor (List ℕ))) (none next : Bor (List ℕ)) →
    next ≡ unwrap_or rest none →
    0 < length bs → none.now ≡ [] →
    pieces line_feed bs ≡ line ∷ pieces_left line_feed (option_copied rest) → IfNone rest (line ≡ bs) →
    lines_of bs ≡ line ∷ lines_of next.now
lines_cut bs line None none next is some empty cut whole =
    ap without_empty_end cut ∙ ap (λ (l : List ℕ). without_empty_end (l ∷ [])) whole ∙ line_of_all bs some
    ∙ ap (λ (l : List ℕ). l ∷ []) (sym whole)
    ∙ ap (λ (l : List ℕ). line ∷ lines_of l) (sym (ap (λ (b : Bor (List ℕ)). b.now) is ∙ empty))
lines_cut bs line (Some rest) none next is some empty cut whole =
    let more = pieces_cons line_feed rest.now in
    ap without_empty_end (cut ∙ ap (λ (ps : List (List ℕ)). line ∷ ps) more.2)
    ∙ ap (λ (ps : List (List ℕ)). line ∷ without_empty_end ps) (sym more.2)
    ∙ ap (λ (b : Bor (List ℕ)). line ∷ lines_of b.now) (sym is)

-- ---- a text put together

-- no byte of a text is this one
abbrev pub IsFreeOf : ℕ → List ℕ → Type 0
IsFreeOf c bs = All (λ b. eqb b c ≡ false) bs

pub pieces-append : (c : ℕ) (bs rest : List ℕ) → IsFreeOf c bs →
    pieces c (bs ++ c ∷ rest) ≡ bs ∷ pieces c rest
pieces-append c bs rest free = slice_split_at (λ b. eqb b c) bs c rest free (eq-eqb c c refl)

pub pieces-one : (c : ℕ) (bs : List ℕ) → IsFreeOf c bs → pieces c bs ≡ bs ∷ []
pieces-one c bs free = slice_split_none (λ b. eqb b c) bs free

-- a line, its line feed and further lines
pub lines_of-append : (line rest : List ℕ) → IsFreeOf line_feed line →
    lines_of (line ++ line_feed ∷ rest) ≡ line ∷ lines_of rest
lines_of-append line rest free =
    let more = pieces_cons line_feed rest in
    ap without_empty_end (pieces-append line_feed line rest free ∙ ap (λ (ps : List (List ℕ)). line ∷ ps) more.2)
    ∙ ap (λ (ps : List (List ℕ)). line ∷ without_empty_end ps) (sym more.2)

not_empty : (bs : List ℕ) → 0 < length bs → is_empty bs ≡ false
not_empty [] some = absurd (omega arith)
not_empty (b ∷ bs) some = refl

pub kept : (field : List ℕ) (fields : List (List ℕ)) → 0 < length field →
    non_empty (field ∷ fields) ≡ field ∷ non_empty fields
kept field fields some = rw (not_empty field some) refl

-- a field, a space and further fields
pub fields_of-append : (field rest : List ℕ) → IsFreeOf space field → 0 < length field →
    fields_of (field ++ space ∷ rest) ≡ field ∷ fields_of rest
fields_of-append field rest free some =
    ap non_empty (pieces-append space field rest free) ∙ kept field (pieces space rest) some

pub fields_of-one : (field : List ℕ) → IsFreeOf space field → 0 < length field → fields_of field ≡ field ∷ []
fields_of-one field free some = ap non_empty (pieces-one space field free) ∙ kept field [] some

-- the first field of a line that begins with no space
pub fields_cut : (bs field : List ℕ) (left : Option (Bor (List ℕ))) (none next : Bor (List ℕ)) →
    next ≡ unwrap_or left none → 0 < length bs → none.now ≡ [] →
    ((b : ℕ) (rest : List ℕ) → bs ≡ b ∷ rest → b ≢ space) →
    pieces space bs ≡ field ∷ pieces_left space (option_copied left) →
    fields_of bs ≡ field ∷ fields_of next.now
fields_cut [] field left none next is some empty solid cut = absurd (omega (arith, some))
fields_cut (b ∷ bs) field left none next is some empty solid cut =
    let more = pieces_cons space bs in
    let first : pieces space (b ∷ bs) ≡ (b ∷ more.0) ∷ more.1 =
    rw (ne_eqb b space (solid b bs refl)) (ap (onto_first b) more.2) in
    let front : field ≡ b ∷ more.0 = let whole = sym cut ∙ first in cc in
    let long : 0 < length field = omega (arith, ap length front) in
    ap non_empty cut ∙ kept field (pieces_left space (option_copied left)) long
    ∙ ap (λ (fs : List (List ℕ)). field ∷ fs) (rest_is left)
    ∙ ap (λ (n : Bor (List ℕ)). field ∷ fields_of n.now) (sym is)
  where
    rest_is : (o : Option (Bor (List ℕ))) →
        non_empty (pieces_left space (option_copied o)) ≡ fields_of (unwrap_or o none).now
    rest_is None = ap fields_of (sym empty)
    rest_is (Some rest) = refl

-- ---- there are no more lines than bytes

first_longer : (b : ℕ) (q : List ℕ) (qs : List (List ℕ)) →
    length (without_empty_end ((b ∷ q) ∷ qs)) ≤ length (without_empty_end (q ∷ qs)) + 1
first_longer b q [] = omega arith
first_longer b q (r ∷ rs) = omega arith

one_longer : (t : Bool) (b : ℕ) (ps : List (List ℕ)) (n : ℕ) → length (without_empty_end ps) ≤ n →
    length (without_empty_end (cond t ([] ∷ ps) (onto_first b ps))) ≤ suc n
one_longer true b [] n le = omega arith
one_longer true b (q ∷ qs) n le = omega arith
one_longer false b [] n le = omega arith
one_longer false b (q ∷ qs) n le = omega (arith, first_longer b q qs)

pub length-lines_of : (bs : List ℕ) → length (lines_of bs) ≤ length bs
length-lines_of [] = omega arith
length-lines_of (b ∷ bs) =
    one_longer (eqb b line_feed) b (pieces line_feed bs) (length bs) (length-lines_of bs)
