-- One more row of a round: the rows so far are good, they tell of the transactions so far, and what these left stands for
-- the store after them.
use Rattle.std.proofs.Common.{◌≡◌, ℕ, true, false, List, [], ◌∷◌, ◌++◌, Option, None, Some, refl, ap, sym, subst, ◌∙◌, append_assoc, true≢false}
use Rattle.std.specs.Prelude.{IfSome}
use Rattle.std.proofs.lemmas.List.{append-nil}
use Rattle.dstm_records.proofs.Base.{Agrees, AllBlocked, AnswersWhere, Committed, Entry, GiveUpRightly, IsAnsweredBy, IsBefore, IsGivenUpRightly, IsGoodRow, IsLegal, Job, JobOutcome, Row, RowsAreGood, StandsFor, TellOf, TellsOf, Val, Workload, apply_job, entries_of, first_job, is_given_up, job_of, jobs_left, last_row, store_after, store_left, with_writes}
use Rattle.dstm_model.specs.Map.{state_after}
use Rattle.dstm_records.specs.Told.{IsGivenUp}
use Rattle.dstm_report.proofs.OneRowMore.{RowsAreGood-push}
use Rattle.dstm_tables.proofs.Entries.{entries_push}
use Rattle.dstm_records.proofs.Follows.{tells, good_row, store_push, TellOf-push, agrees_next}

-- where the rows of a round stand; `left` are the transactions that no row tells of yet
pub record Collected (workload : Workload) (before rows : List Row) (start : List Val) (done left : List Committed) : Type 0 where
  pub good : RowsAreGood workload before rows
  pub tell : TellOf workload before rows start done
  pub stands : StandsFor workload.layout (state_after start (entries_of done)) (store_after workload (before ++ rows))
  pub legal : IsLegal start (entries_of done ++ entries_of left)
  pub given_up : GiveUpRightly workload before rows

pub at_start : (workload : Workload) (before : List Row) {start : List Val} (all : List Committed) →
    StandsFor workload.layout start (store_after workload before) → IsLegal start (entries_of all) →
    Collected workload before [] start [] all
at_start workload before {start = start} all stands legal = record {
  good = tt;
  tell = tt;
  stands = subst (λ (b : List Row). StandsFor workload.layout start (store_after workload b)) (sym (append-nil before)) stands;
  legal = legal;
  given_up = tt;
}

rightly_push : (workload : Workload) (before rows : List Row) (row : Row) → GiveUpRightly workload before rows →
    (is_given_up row.replies ≡ true → IsGivenUpRightly workload (before ++ rows) row) →
    GiveUpRightly workload before (rows ++ row ∷ [])
rightly_push workload before [] row given next = (
  subst (λ (b : List Row). is_given_up row.replies ≡ true → IsGivenUpRightly workload b row) (append-nil before) next,
  tt,
)
rightly_push workload before (first ∷ rows) row given next = (
  given.0,
  rightly_push workload (before ++ first ∷ []) rows row given.1
      (subst (λ (b : List Row). is_given_up row.replies ≡ true → IsGivenUpRightly workload b row)
      (sym (append_assoc before (first ∷ []) rows)) next),
)

state_push : (start : List Val) (done : List Entry) (next : Entry) →
    state_after start (done ++ next ∷ []) ≡ with_writes (state_after start done) next.writes
state_push start [] next = refl
state_push start (first ∷ done) next = state_push (with_writes start first.writes) done next

-- a good row that tells of the next transaction
push_row : {workload : Workload} {before rows : List Row} {start : List Val} {done : List Committed} (left : List Committed) {next : Committed}
    {row : Row} → Collected workload before rows start done (next ∷ left) →
    TellsOf workload (before ++ rows) row (state_after start (entries_of done)) next →
    IsGoodRow workload (before ++ rows) row →
    (is_given_up row.replies ≡ true → IsGivenUpRightly workload (before ++ rows) row) →
    Collected workload before (rows ++ row ∷ []) start (done ++ next ∷ []) left
push_row {workload = workload} {before = before} {rows = rows} {start = start} {done = done} left {next = next} {row = row} c told good given =
    let map = state_after start (entries_of done) in
    let after : state_after start (entries_of (done ++ next ∷ [])) ≡ with_writes map next.entry.writes =
    ap (state_after start) (entries_push done next) ∙ state_push start (entries_of done) next.entry in
    record {
      good = RowsAreGood-push before rows c.good good;
      tell = TellOf-push before rows start done c.tell told;
      stands = subst (λ (m : List Val). StandsFor workload.layout m (store_after workload (before ++ (rows ++ row ∷ [])))) (sym after)
          (subst (λ (b : List Row). StandsFor workload.layout (with_writes map next.entry.writes) (store_after workload b))
          (append_assoc before rows (row ∷ [])) told.store);
      legal = subst (IsLegal start) (sym (ap (λ (es : List Entry). es ++ entries_of left) (entries_push done next)
          ∙ append_assoc (entries_of done) (next.entry ∷ []) (entries_of left))) c.legal;
      given_up = rightly_push workload before rows row c.given_up given;
    }

-- one more row, of a transaction that has done its job
pub row_more : {workload : Workload} {before rows : List Row} {start : List Val} {done : List Committed} (left : List Committed) (next : Committed)
    (row : Row) (job : Job) → Collected workload before rows start done (next ∷ left) →
    first_job row.worker (jobs_left workload.jobs (before ++ rows)) ≡ Some job → row.line ≡ job.line →
    job_of workload row ≡ Some job → row.number ≡ next.number →
    IfSome (last_row (before ++ rows)) (λ previous. IsBefore previous row) →
    is_given_up row.replies ≡ false → IsAnsweredBy workload.layout job.ops row.replies next.entry →
    Collected workload before (rows ++ row ∷ []) start (done ++ next ∷ []) left
row_more {workload = workload} {before = before} {rows = rows} {start = start} {done = done} left next row job c turn line is number behind kept answered =
    let map = state_after start (entries_of done) in
    let agrees : Agrees map next.entry.reads = agrees_next start (entries_of done) next.entry (entries_of left) c.legal in
    push_row left c (tells workload (before ++ rows) row next job c.stands agrees number is kept answered)
    (good_row workload (before ++ rows) row next.entry job c.stands agrees turn line behind answered)
    (λ given. absurd (true≢false (sym given ∙ kept)))

-- one more row, of a transaction that gave its job up
pub row_given_up : {workload : Workload} {before rows : List Row} {start : List Val} {done : List Committed} (left : List Committed)
    {next : Committed} {row : Row} (job : Job) → Collected workload before rows start done (next ∷ left) →
    first_job row.worker (jobs_left workload.jobs (before ++ rows)) ≡ Some job → row.line ≡ job.line →
    job_of workload row ≡ Some job → row.number ≡ next.number →
    IfSome (last_row (before ++ rows)) (λ previous. IsBefore previous row) →
    IsGivenUp workload (before ++ rows) row next →
    Collected workload before (rows ++ row ∷ []) start (done ++ next ∷ []) left
row_given_up {workload = workload} {before = before} {rows = rows} {start = start} {done = done} left {row = row} job c turn line is number behind given =
    let there = store_after workload (before ++ rows) in
    let map = state_after start (entries_of done) in
    let blocked : apply_job job.ops there ≡ None =
    subst (λ (o : Option Job). IfSome o (λ j. apply_job j.ops there ≡ None)) turn (given.blocked row.worker) in
    let same : store_after workload ((before ++ rows) ++ row ∷ []) ≡ there =
    store_push workload (before ++ rows) row job is ∙ ap (λ (o : Option JobOutcome). store_left o there) blocked in
    push_row left c (record {
      number = number;
      store = subst (λ (ws : List (ℕ × Val)). StandsFor workload.layout (with_writes map ws)
          (store_after workload ((before ++ rows) ++ row ∷ []))) (sym given.nothing_written)
          (subst (StandsFor workload.layout map) (sym same) c.stands);
      replies = λ kept. absurd (true≢false (ap is_given_up (sym given.replies) ∙ kept));
      inside = λ kept. absurd (true≢false (ap is_given_up (sym given.replies) ∙ kept));
      nothing_read = λ _. given.nothing_read;
      nothing_written = λ _. given.nothing_written;
    }) (record {
      job = job;
      turn = turn;
      line = line;
      number = behind;
      replies = subst (λ (o : Option JobOutcome). AnswersWhere (AllBlocked workload (before ++ rows)) o row.replies)
          (sym blocked) (given.replies, given.blocked);
    }) (λ _. given.rightly)
