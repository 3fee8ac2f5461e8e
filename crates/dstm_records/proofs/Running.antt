-- A run, round by round: where it stands when a round begins, and that it ends.
use Rattle.std.proofs.Common.{◌≡◌, ◌⊎◌, ℕ, ◌+◌, ◌*◌, ◌%◌, ◌<◌, ◌≤◌, Bool, true, false, cond, List, [], ◌∷◌, ◌++◌, length, refl, ap, sym, subst, ◌∙◌, inl, inr, arith, append_assoc, nat_lt}
use Rattle.std.specs.Prelude.{All}
use Rattle.std.specs.List.{AllByRecursion}
use Rattle.dstm_records.proofs.Base.{AddsRound, AreRoundsOf, Begins, IsClosed, IsRoundOf, IsValidWorkload, Options, Round, Row, RowsAreGood, StandsFor, Val, Workload, cases_Bool, count_left, eqb-false, eqb-true, is_parallel, ltb-false, ltb-true, rows_in, store_after, values_of}
use Rattle.std.proofs.lemmas.List.{append-nil, length-append}
use Rattle.std.proofs.lemmas.List.Elements.{recursion_from_All}
use Rattle.dstm_report.proofs.Rising.{jobs_left-none}
use Rattle.dstm_tables.proofs.History.{sights_agree}
use Rattle.dstm_records.proofs.MoreRounds.{rows_of, rows_of-push, left_after, left_after-push, AreRoundsOf-push}
use Rattle.dstm_jobs.specs.Law.{keeps}

-- where a run stands before the round of this number; `more` tells whether there is one
pub record Reached (workload : Workload) (options : Options) (start : List Val) (old new : List Round) (rows : List Row)
    (values : List Val) (number : ℕ) (more : Bool) : Type 0 where
  pub valid : IsValidWorkload workload
  pub added : List Round
  pub behind : new ≡ old ++ added
  pub count : length added ≡ number
  pub good : RowsAreGood workload [] rows
  pub earlier : AllByRecursion (λ row. row.round < number) rows
  pub each : AreRoundsOf workload options rows 0 [] start added
  pub all_rows : rows_of rows 0 [] added ≡ rows
  pub left : left_after start added ≡ values
  pub stands : StandsFor workload.layout values (store_after workload rows)
  pub sum : count_left workload rows + length rows ≡ length workload.jobs
  pub few : number ≤ 2 * length rows + number % 2
  pub needed : more ≡ true → (number ≡ 0) ⊎ (0 < count_left workload rows)
  pub ended : more ≡ false → (count_left workload rows ≡ 0) × (0 < number)

pub at_first : (workload : Workload) (options : Options) (start : List Val) (old : List Round) → Begins workload 0 [] start →
    Reached workload options start old old [] start 0 true
at_first workload options start old begins = record {
  valid = begins.valid;
  added = [];
  behind = sym (append-nil old);
  count = refl;
  good = tt;
  earlier = tt;
  each = tt;
  all_rows = refl;
  left = refl;
  stands = begins.stands;
  sum = let none = ap length (jobs_left-none workload.jobs) in omega (arith, none);
  few = omega arith;
  needed = λ is. inl refl;
  ended = λ is. absurd (no is);
}
  where
    no : true ≡ false → ⊥
    no is = cc

good_append : (workload : Workload) (before rows more : List Row) → RowsAreGood workload before rows →
    RowsAreGood workload (before ++ rows) more → RowsAreGood workload before (rows ++ more)
good_append workload before [] more first next = subst (λ (b : List Row). RowsAreGood workload b more) (append-nil before) next
good_append workload before (row ∷ rows) more first next = (
  first.0,
  good_append workload (before ++ row ∷ []) rows more first.1
      (subst (λ (b : List Row). RowsAreGood workload b more) (sym (append_assoc before (row ∷ []) rows)) next),
)

all_append : (P : Row → Type 0) (rows more : List Row) → AllByRecursion P rows → AllByRecursion P more → AllByRecursion P (rows ++ more)
all_append P [] more first next = next
all_append P (row ∷ rows) more first next = (first.0, all_append P rows more first.1 next)

all_weaker : (P Q : Row → Type 0) → ((row : Row) → P row → Q row) → (rows : List Row) → AllByRecursion P rows → AllByRecursion Q rows
all_weaker P Q f [] all = tt
all_weaker P Q f (row ∷ rows) all = (f row all.0, all_weaker P Q f rows all.1)

-- after a round that added a row where it is alone, the rounds are still few
few_more : (number rows more : ℕ) → number ≤ 2 * rows + number % 2 → (is_parallel number ≡ false → 0 < more) →
    number + 1 ≤ 2 * (rows + more) + (number + 1) % 2
few_more number rows more few some =
    elim (cases_Bool (is_parallel number)) [
      | inl is ↦ let even = eqb-true (number % 2) 0 is in omega (arith, few)
      | inr alone ↦ let odd = eqb-false (number % 2) 0 alone in let one = some alone in omega (arith, few, odd)
    ]

pub round_more : (workload : Workload) (options : Options) (start : List Val) (old new : List Round) (rows : List Row)
    (values : List Val) (number : ℕ) (more : Bool) (closed : Round) (now : List Row) (left : List Val) (next_more : Bool) →
    Reached workload options start old new rows values number more →
    AddsRound workload options number rows values closed now left →
    next_more ≡ nat_lt (length (rows ++ now)) (length workload.jobs) →
    Reached workload options start old (new ++ closed ∷ []) (rows ++ now) left (number + 1) next_more
round_more workload options start old new rows values number more closed now left next_more r adds more_is =
    let at : 0 + length r.added ≡ number = omega (arith, r.count) in
    let all_in : AllByRecursion (λ row. row.round ≡ 0 + length r.added) now =
    recursion_from_All (λ row. row.round ≡ 0 + length r.added) now
    (subst (λ (n : ℕ). All (λ row. row.round ≡ n) now) (sym at) adds.all_in) in
    let earlier : AllByRecursion (λ row. row.round < 0 + length r.added) rows =
    subst (λ (n : ℕ). AllByRecursion (λ row. row.round < n) rows) (sym at) r.earlier in
    let next : IsRoundOf workload options (0 + length r.added) (rows_of rows 0 [] r.added) now (left_after start r.added) closed =
    subst (λ (n : ℕ). IsRoundOf workload options n (rows_of rows 0 [] r.added) now (left_after start r.added) closed) (sym at)
    (subst (λ (b : List Row). IsRoundOf workload options number b now (left_after start r.added) closed) (sym r.all_rows)
    (subst (λ (v : List Val). IsRoundOf workload options number rows now v closed) (sym r.left) adds.round)) in
    let lengths : length (rows ++ now) ≡ length rows + length now = length-append rows now in
    record {
      valid = r.valid;
      added = r.added ++ closed ∷ [];
      behind = ap (λ (rs : List Round). rs ++ closed ∷ []) r.behind ∙ append_assoc old r.added (closed ∷ []);
      count = length-append r.added (closed ∷ []) ∙ ap (λ n. n + 1) r.count;
      good = good_append workload [] rows now r.good adds.good;
      earlier = all_append _ rows now
          (all_weaker _ (λ row. row.round < number + 1) (λ row below. omega (arith, below)) rows r.earlier)
          (all_weaker _ (λ row. row.round < number + 1) (λ row is. omega (arith, is, at)) now all_in);
      each = AreRoundsOf-push rows 0 [] start r.added earlier all_in r.each next;
      all_rows = rows_of-push rows now 0 [] r.added closed earlier all_in ∙ ap (λ (b : List Row). b ++ now) r.all_rows;
      left = left_after-push start r.added closed ∙ sym adds.values_are;
      stands = adds.stands;
      sum = let f = adds.fewer in let s = r.sum in omega (arith, lengths);
      few = let f = few_more number (length rows) (length now) r.few adds.some in
          subst (λ (n : ℕ). number + 1 ≤ 2 * n + (number + 1) % 2) (sym lengths) f;
      needed = λ is. inr (
          let some = ltb-true (length (rows ++ now)) (length workload.jobs) (sym more_is ∙ is) in
          let f = adds.fewer in let s = r.sum in omega (arith, lengths));
      ended = λ is. (
        (let none = ltb-false (length (rows ++ now)) (length workload.jobs) (sym more_is ∙ is) in
            let f = adds.fewer in let s = r.sum in omega (arith, lengths)),
        omega arith,
      );
    }

-- ---- the run ends: a parallel round is followed by an alone one, which adds a row

abbrev pub rounds_left : Workload → List Row → ℕ → Bool → ℕ
rounds_left workload rows number more = cond more (2 * count_left workload rows + cond (is_parallel number) 2 1) 0

-- every round was closed
pub each_closed : (workload : Workload) (options : Options) (rows : List Row) (number : ℕ) (before : List Row)
    (values : List Val) (rounds : List Round) → AreRoundsOf workload options rows number before values rounds →
    AllByRecursion (IsClosed workload.layout) rounds
each_closed workload options rows number before values [] are = tt
each_closed workload options rows number before values (round ∷ rounds) are = (
  record { run = are.0.run; sights = sights_agree keeps round are.0.run.run },
  each_closed workload options rows (number + 1) (before ++ rows_in number rows) (values_of round) rounds are.1,
)
