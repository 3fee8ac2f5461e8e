-- One round more: the rows of each round are as before, and the rows that are added are those of the new one.
use Rattle.std.proofs.Common.{◌≡◌, ◌≢◌, ℕ, ◌+◌, ◌<◌, eqb, List, [], ◌∷◌, ◌++◌, length, refl, ap, sym, subst, ◌∙◌, arith}
use Rattle.std.specs.List.{AllByRecursion}
use Rattle.dstm_records.proofs.Base.{AreRoundsOf, IsRoundOf, Options, Round, Row, Val, Workload, eq-eqb, ne_eqb, rows_in, values_of}
use Rattle.std.proofs.lemmas.List.{append-nil}
use Rattle.std.proofs.lemmas.List.Elements.{filter-append}

-- all rows of a round are in it
pub rows_in-all : (number : ℕ) (rows : List Row) → AllByRecursion (λ row. row.round ≡ number) rows → rows_in number rows ≡ rows
rows_in-all number [] all = refl
rows_in-all number (row ∷ rows) all = rw (eq-eqb row.round number all.0) (ap (λ (rest : List Row). row ∷ rest) (rows_in-all number rows all.1))

-- rows of other rounds are not in it
pub rows_in-none : (number : ℕ) (rows : List Row) → AllByRecursion (λ row. row.round ≢ number) rows → rows_in number rows ≡ []
rows_in-none number [] none = refl
rows_in-none number (row ∷ rows) none = rw (ne_eqb row.round number none.0) (rows_in-none number rows none.1)

-- ---- rows that are added

rows_in-append : (number : ℕ) (rows more : List Row) → rows_in number (rows ++ more) ≡ rows_in number rows ++ rows_in number more
rows_in-append number rows more = filter-append (λ (row : Row). eqb row.round number) rows more

-- rows of another round change no round
rows_in-kept : (number : ℕ) (rows more : List Row) → AllByRecursion (λ row. row.round ≢ number) more →
    rows_in number (rows ++ more) ≡ rows_in number rows
rows_in-kept number rows more none =
    rows_in-append number rows more ∙ ap (λ (rest : List Row). rows_in number rows ++ rest) (rows_in-none number more none)
    ∙ append-nil (rows_in number rows)

-- the rows of the last round
rows_in-new : (number : ℕ) (rows more : List Row) → AllByRecursion (λ row. row.round ≢ number) rows →
    AllByRecursion (λ row. row.round ≡ number) more → rows_in number (rows ++ more) ≡ more
rows_in-new number rows more none all =
    rows_in-append number rows more ∙ ap (λ (first : List Row). first ++ rows_in number more) (rows_in-none number rows none)
    ∙ rows_in-all number more all

each_row : (P Q : Row → Type 0) → ((row : Row) → P row → Q row) → (rows : List Row) → AllByRecursion P rows → AllByRecursion Q rows
each_row P Q f [] all = tt
each_row P Q f (row ∷ rows) all = (f row all.0, each_row P Q f rows all.1)

-- ---- the rows and the values that rounds leave

-- the rows of all rounds from a number on, behind these
abbrev pub rows_of : List Row → ℕ → List Row → List Round → List Row
rows_of rows number before [] = before
rows_of rows number before (round ∷ rounds) = rows_of rows (number + 1) (before ++ rows_in number rows) rounds

-- the values that rounds leave that begin with these
abbrev pub left_after : List Val → List Round → List Val
left_after values [] = values
left_after values (round ∷ rounds) = left_after (values_of round) rounds

pub left_after-push : (values : List Val) (rounds : List Round) (round : Round) → left_after values (rounds ++ round ∷ []) ≡ values_of round
left_after-push values [] round = refl
left_after-push values (first ∷ rounds) round = left_after-push (values_of first) rounds round

-- one round more, with its rows
pub AreRoundsOf-push : {workload : Workload} {options : Options} (rows : List Row) {more : List Row} (number : ℕ) (before : List Row)
    (values : List Val) (rounds : List Round) {round : Round} →
    AllByRecursion (λ row. row.round < number + length rounds) rows →
    AllByRecursion (λ row. row.round ≡ number + length rounds) more →
    AreRoundsOf workload options rows number before values rounds →
    IsRoundOf workload options (number + length rounds) (rows_of rows number before rounds) more (left_after values rounds) round →
    AreRoundsOf workload options (rows ++ more) number before values (rounds ++ round ∷ [])
AreRoundsOf-push {workload = workload} {options = options} rows {more = more} number before values [] {round = round} old new are next =
    let here : number + 0 ≡ number = omega arith in
    let is : rows_in number (rows ++ more) ≡ more =
    rows_in-new number rows more (each_row _ (λ row. row.round ≢ number) (λ row below e. omega arith) rows old)
    (each_row _ (λ row. row.round ≡ number) (λ row same. same ∙ here) more new) in (
      subst (λ (now : List Row). IsRoundOf workload options number before now values round) (sym is)
          (subst (λ (n : ℕ). IsRoundOf workload options n before more values round) here next),
      tt,
    )
AreRoundsOf-push {workload = workload} {options = options} rows {more = more} number before values (first ∷ rounds) {round = round} old new are next =
    let count : number + length (first ∷ rounds) ≡ (number + 1) + length rounds = omega arith in
    let is : rows_in number (rows ++ more) ≡ rows_in number rows =
    rows_in-kept number rows more (each_row _ (λ row. row.round ≢ number) (λ row same e. omega (arith, count)) more new) in
    let behind = before ++ rows_in number rows in (
      subst (λ (now : List Row). IsRoundOf workload options number before now values first) (sym is) are.0,
      subst (λ (now : List Row). AreRoundsOf workload options (rows ++ more) (number + 1) (before ++ now) (values_of first) (rounds ++ round ∷ [])) (sym is)
          (AreRoundsOf-push rows (number + 1) behind (values_of first) rounds
          (subst (λ (n : ℕ). AllByRecursion (λ row. row.round < n) rows) count old)
          (subst (λ (n : ℕ). AllByRecursion (λ row. row.round ≡ n) more) count new) are.1
          (subst (λ (n : ℕ). IsRoundOf workload options n (rows_of rows (number + 1) behind rounds) more (left_after (values_of first) rounds) round) count next)),
    )

-- the rows of all rounds are all rows
pub rows_of-push : (rows more : List Row) (number : ℕ) (before : List Row) (rounds : List Round) (round : Round) →
    AllByRecursion (λ row. row.round < number + length rounds) rows →
    AllByRecursion (λ row. row.round ≡ number + length rounds) more →
    rows_of (rows ++ more) number before (rounds ++ round ∷ []) ≡ rows_of rows number before rounds ++ more
rows_of-push rows more number before [] round old new =
    let here : number + 0 ≡ number = omega arith in
    ap (λ (now : List Row). before ++ now)
    (rows_in-new number rows more (each_row _ (λ row. row.round ≢ number) (λ row below e. omega arith) rows old)
    (each_row _ (λ row. row.round ≡ number) (λ row same. same ∙ here) more new))
rows_of-push rows more number before (first ∷ rounds) round old new =
    let count : number + length (first ∷ rounds) ≡ (number + 1) + length rounds = omega arith in
    let is : rows_in number (rows ++ more) ≡ rows_in number rows =
    rows_in-kept number rows more (each_row _ (λ row. row.round ≢ number) (λ row same e. omega (arith, count)) more new) in
    ap (λ (now : List Row). rows_of (rows ++ more) (number + 1) (before ++ now) (rounds ++ round ∷ [])) is
    ∙ rows_of-push rows more (number + 1) (before ++ rows_in number rows) rounds round
    (subst (λ (n : ℕ). AllByRecursion (λ row. row.round < n) rows) count old)
    (subst (λ (n : ℕ). AllByRecursion (λ row. row.round ≡ n) more) count new)
