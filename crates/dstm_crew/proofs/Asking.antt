-- Whom an alone round has asked, and how many attempts it took.
use Rattle.std.proofs.Common.{◌≡◌, ◌≢◌, ℕ, suc, zero, ◌+◌, ◌≤◌, Bool, true, false, cond, eqb, List, [], ◌∷◌, ◌++◌, length, Option, None, Some, refl, ap, sym, subst, ◌∙◌, inl, inr, arith, append_assoc, true≢false}
use Rattle.std.specs.Prelude.{filter, is_none}
use Rattle.std.specs.List.{range_with_len}
use Rattle.std.proofs.lemmas.Bool.{cases_eq, eq-eqb, ne_eqb}
use Rattle.std.proofs.lemmas.List.{append-nil}
use Rattle.std.proofs.lemmas.Option.{none-some}
use Rattle.dstm_model.specs.Job.{JobOutcome, apply_job}
use Rattle.dstm_workload.specs.declared.workload.Job.{Job}
use Rattle.dstm_workload.specs.declared.workload.Workload.{Workload}
use Rattle.dstm_report.specs.declared.report.Row.{Row}
use Rattle.dstm_report.specs.Lawful.{first_job, store_after}
use Rattle.dstm_report.specs.Turns.{without_first}
use Rattle.dstm_records.specs.Records.{WasAsked, count_blocked, count_done, is_blocked, is_blocked_in, is_given_up, most_tries}
use Rattle.dstm_records.specs.Rounds.{has_job, left_by}
use Rattle.dstm_crew.specs.Alone.{blocked_below, blocked_so_far}

-- ---- jobs that are left

-- a worker with a job left has a first one
pub has_first : (w : ℕ) (left : List Job) → has_job left w ≡ true → first_job w left ≡ None → ⊥
has_first w [] has none = true≢false (sym has)
has_first w (job ∷ left) has none = by (eqb job.worker w) refl (has_first w left)
  where
    by : (b : Bool) → b ≡ eqb job.worker w → (has_job left w ≡ true → first_job w left ≡ None → ⊥) → ⊥
    by true is further = let here : first_job w (job ∷ left) ≡ Some job = rw (sym is) refl in none-some job (sym none ∙ here)
    by false is further =
        let later : has_job (job ∷ left) w ≡ has_job left w = rw (sym is) refl in
        let next : first_job w (job ∷ left) ≡ first_job w left = rw (sym is) refl in
        further (sym later ∙ has) (sym next ∙ none)

-- where the turn of another worker ends, a worker with a job left keeps it
pub keeps_job : (v w : ℕ) (left : List Job) → v ≢ w → has_job left w ≡ true → has_job (without_first v left) w ≡ true
keeps_job v w [] other has = has
keeps_job v w (job ∷ left) other has =
    elim (cases_eq job.worker v) [
      | inl own ↦
          let later : has_job (job ∷ left) w ≡ has_job left w = rw (ne_eqb job.worker w (λ e. other (sym own ∙ e))) refl in
          let passed : without_first v (job ∷ left) ≡ left = rw (eq-eqb job.worker v own) refl in
          ap (λ (js : List Job). has_job js w) passed ∙ sym later ∙ has
      | inr differs ↦
          let kept : without_first v (job ∷ left) ≡ job ∷ without_first v left = rw (ne_eqb job.worker v differs) refl in
          ap (λ (js : List Job). has_job js w) kept ∙ by (eqb job.worker w) refl (keeps_job v w left other)
    ]
  where
    by : (b : Bool) → b ≡ eqb job.worker w → (has_job left w ≡ true → has_job (without_first v left) w ≡ true) →
        has_job (job ∷ without_first v left) w ≡ true
    by true is further = rw (sym is) refl
    by false is further =
        let later : has_job (job ∷ left) w ≡ has_job left w = rw (sym is) refl in
        let then_ : has_job (job ∷ without_first v left) w ≡ has_job (without_first v left) w = rw (sym is) refl in
        then_ ∙ further (sym later ∙ has)

-- ---- who was asked

-- the job of a row was done
pub row_done : (w : ℕ) (row : Row) → row.worker ≡ w → is_given_up row.replies ≡ false → count_done w (row ∷ []) ≡ 1
row_done w row is kept = rw (eq-eqb row.worker w is) (rw kept refl)

module _ (workload : Workload) (before : List Row) where
  -- it was blocked behind all rows so far
  pub blocked_now : {rows : List Row} (now : List Row) (w : ℕ) (job : Job) → rows ≡ before ++ now →
      first_job w (left_by workload rows) ≡ Some job → apply_job job.ops (store_after workload rows) ≡ None →
      is_blocked workload rows w ≡ true
  blocked_now {rows = rows} now w job are next stuck =
      ap (is_blocked_in (store_after workload rows)) next ∙ ap (λ (o : Option JobOutcome). is_none o) stuck

  pub asked_blocked : {rows : List Row} (now : List Row) (w : ℕ) → rows ≡ before ++ now → is_blocked workload rows w
      ≡ true →
      WasAsked workload before now w
  asked_blocked now w are blocked = inr (record {
    first = now;
    rest = [];
    are = sym (append-nil now);
    blocked = subst (λ (rs : List Row). is_blocked workload rs w ≡ true) are blocked;
  })

  -- who was asked stays so
  pub asked_more : (now : List Row) (row : Row) (w : ℕ) →
      count_done w (now ++ row ∷ []) ≡ count_done w now + count_done w (row ∷ []) → WasAsked workload before now w →
      WasAsked workload before (now ++ row ∷ []) w
  asked_more now row w count (inl done) = inl (omega (arith, count, done))
  asked_more now row w count (inr was) = inr (record {
    first = was.first;
    rest = was.rest ++ row ∷ [];
    are = ap (λ (rs : List Row). rs ++ row ∷ []) was.are ∙ append_assoc was.first was.rest (row ∷ []);
    blocked = was.blocked;
  })

-- ---- how many attempts it took

filter_more : (p : ℕ → Bool) (a n j : ℕ) → a + n ≡ j →
    length (filter p (range_with_len a (suc n))) ≡ length (filter p (range_with_len a n)) + cond (p j) 1 0
filter_more p a zero j is =
    let same : a ≡ j = omega (arith, is) in
    subst (λ m. length (filter p (a ∷ [])) ≡ 0 + cond (p m) 1 0) same (by (p a))
  where
    by : (b : Bool) → length (cond b (a ∷ []) []) ≡ 0 + cond b 1 0
    by true = refl
    by false = refl
filter_more p a (suc n) j is = by (p a) (filter_more p (a + 1) n j (omega (arith, is)))
  where
    by : (b : Bool) →
        length (filter p (range_with_len (a + 1) (suc n))) ≡ length (filter p (range_with_len (a + 1) n)) + cond (p j) 1 0 →
        length (cond b (a ∷ filter p (range_with_len (a + 1) (suc n))) (filter p (range_with_len (a + 1) (suc n))))
        ≡ length (cond b (a ∷ filter p (range_with_len (a + 1) n)) (filter p (range_with_len (a + 1) n))) + cond (p j) 1 0
    by true more = omega (arith, more)
    by false more = more

filter_grows : (p : ℕ → Bool) (w n : ℕ) → w ≤ n →
    length (filter p (range_with_len 0 w)) ≤ length (filter p (range_with_len 0 n))
filter_grows p w zero few = subst (λ m. length (filter p (range_with_len 0 w)) ≤ length (filter p (range_with_len 0 m)))
    (let is : w ≡ 0 = omega (arith, few) in is) (omega arith)
filter_grows p w (suc n) few =
    elim (cases_eq w (suc n)) [
      | inl same ↦ subst (λ m. length (filter p (range_with_len 0 w)) ≤ length (filter p (range_with_len 0 m))) same (omega arith)
      | inr other ↦
          let less = filter_grows p w n (omega (arith, few, other)) in
          let more = filter_more p 0 n n (omega arith) in
          omega (arith, less, more)
    ]

module _ (workload : Workload) where
  -- a further worker was looked at
  pub so_far_grows : (before now : List Row) (w n : ℕ) → w ≤ n →
      blocked_so_far workload before now w ≤ blocked_so_far workload before now n
  so_far_grows before [] w n few = filter_grows (is_blocked workload before) w n few
  so_far_grows before (row ∷ now) w n few =
      let rest = so_far_grows (before ++ row ∷ []) now w n few in
      let all = blocked_below workload before workload.workers in
      let grows : all + blocked_so_far workload (before ++ row ∷ []) now w ≤ all + blocked_so_far workload (before ++ row ∷ []) now n =
      omega (arith, rest) in
      grows

  -- whose first job is blocked
  pub so_far_blocked : (before now : List Row) (w : ℕ) → is_blocked workload (before ++ now) w ≡ true →
      blocked_so_far workload before now (w + 1) ≡ blocked_so_far workload before now w + 1
  so_far_blocked before [] w blocked =
      let here : is_blocked workload before w ≡ true =
      subst (λ (rs : List Row). is_blocked workload rs w ≡ true) (append-nil before) blocked in
      let next : w + 1 ≡ suc w = omega arith in
      ap (λ n. length (filter (is_blocked workload before) (range_with_len 0 n))) next
      ∙ filter_more (is_blocked workload before) 0 w w (omega arith)
      ∙ ap (λ (b : Bool). length (filter (is_blocked workload before) (range_with_len 0 w)) + cond b 1 0) here
  so_far_blocked before (row ∷ now) w blocked =
      let rest = so_far_blocked (before ++ row ∷ []) now w
      (subst (λ (rs : List Row). is_blocked workload rs w ≡ true) (sym (append_assoc before (row ∷ []) now)) blocked) in
      let all = blocked_below workload before workload.workers in
      let more : all + blocked_so_far workload (before ++ row ∷ []) now (w + 1)
      ≡ all + blocked_so_far workload (before ++ row ∷ []) now w + 1 = omega (arith, rest) in
      more

  -- one row more
  pub so_far_row : (before now : List Row) (row : Row) (w v : ℕ) → w ≤ workload.workers →
      blocked_so_far workload before now w ≤ blocked_so_far workload before (now ++ row ∷ []) v
  so_far_row before [] row w v few =
      let less : blocked_below workload before w ≤ blocked_below workload before workload.workers =
      filter_grows (is_blocked workload before) w workload.workers few in
      let grows : blocked_below workload before w
      ≤ blocked_below workload before workload.workers + blocked_so_far workload (before ++ row ∷ []) [] v =
      omega (arith, less) in
      grows
  so_far_row before (first ∷ now) row w v few =
      let rest = so_far_row (before ++ first ∷ []) now row w v few in
      let all = blocked_below workload before workload.workers in
      let grows : all + blocked_so_far workload (before ++ first ∷ []) now w
      ≤ all + blocked_so_far workload (before ++ first ∷ []) (now ++ row ∷ []) v = omega (arith, rest) in
      grows

  -- all workers were looked at
  pub so_far_all : (before now : List Row) → blocked_so_far workload before now workload.workers ≡ count_blocked workload before now
  so_far_all before [] = refl
  so_far_all before (row ∷ now) =
      ap (λ n. blocked_below workload before workload.workers + n) (so_far_all (before ++ row ∷ []) now)

  -- as many at most as are of use
  pub tries_are_few : (before now : List Row) (w tries : ℕ) → w ≤ workload.workers →
      tries ≤ length now + blocked_so_far workload before now w → tries ≤ most_tries workload before now
  tries_are_few before now w tries few most =
      let more = so_far_grows before now w workload.workers few in
      let all = so_far_all before now in
      let few_in_all : tries ≤ length now + count_blocked workload before now = omega (arith, most, more, all) in
      few_in_all
