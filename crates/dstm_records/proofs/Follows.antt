-- A transaction that committed, and the row that tells of it: what it answered on every map that it could have read it
-- answered on the map that those before it left.
use Rattle.std.proofs.Common.{◌≡◌, false, List, [], ◌∷◌, ◌++◌, Option, Some, None, ap, sym, subst, ◌∙◌, true≢false, append_assoc}
use Rattle.std.specs.Prelude.{IsSomeAnd, IfSome}
use Rattle.std.proofs.lemmas.List.{append-nil}
use Rattle.dstm_records.proofs.Base.{Agrees, AllBlocked, AnswersWhere, Committed, Entry, GivesReplies, IsAnsweredBy, IsBefore, IsGoodRow, IsLegal, Job, JobOutcome, Row, StandsFor, TellOf, TellsOf, Val, Workload, after_job, apply_job, entries_of, first_job, is_given_up, job_of, jobs_left, last_row, store_after, store_left, with_writes}
use Rattle.dstm_report.proofs.OneRowMore.{after_rows-push}
use Rattle.dstm_jobs.specs.Answers.{StaysOut}
use Rattle.dstm_model.specs.declared.reply.Reply.{Reply}
use Rattle.dstm_model.specs.Map.{state_after}
use Rattle.dstm_model.specs.Store.{Store, opening_store}

-- ---- the store after one row more

-- the store after a row, whose job is known
pub store_push : (workload : Workload) (before : List Row) (row : Row) (job : Job) →
    job_of workload row ≡ Some job →
    store_after workload (before ++ row ∷ []) ≡ store_left (apply_job job.ops (store_after workload before))
    (store_after workload before)
store_push workload before row job is =
    after_rows-push workload.jobs before row (opening_store workload.layout)
    ∙ ap (λ (o : Option Job). after_job o (store_after workload before)) is

-- ---- the row of a job that was done

left_by : (P : JobOutcome → Type 0) (Q : Store → Type 0) (o : Option JobOutcome) (store : Store) →
    ((outcome : JobOutcome) → P outcome → Q outcome.store) → IsSomeAnd o P → Q (store_left o store)
left_by P Q None store each some = absurd some
left_by P Q (Some outcome) store each some = each outcome some

weaker : (P Q : JobOutcome → Type 0) (o : Option JobOutcome) → ((outcome : JobOutcome) → P outcome → Q outcome) →
    IsSomeAnd o P → IsSomeAnd o Q
weaker P Q None each some = absurd some
weaker P Q (Some outcome) each some = each outcome some

-- a transaction that began at the map that those before it left, and its row
pub tells : (workload : Workload) (before : List Row) (row : Row) {map : List Val} (done : Committed) (job : Job) →
    StandsFor workload.layout map (store_after workload before) → Agrees map done.entry.reads →
    row.number ≡ done.number → job_of workload row ≡ Some job → is_given_up row.replies ≡ false →
    IsAnsweredBy workload.layout job.ops row.replies done.entry → TellsOf workload before row map done
tells workload before row {map = map} done job stands agrees number is kept answered =
    let there = store_after workload before in
    let layout = workload.layout in
    let leaves : StandsFor layout (with_writes map done.entry.writes) (store_left (apply_job job.ops there) there) =
    left_by _ (StandsFor layout (with_writes map done.entry.writes)) (apply_job job.ops there) there
    (λ outcome h. h.1) (answered.answers map there stands agrees) in
    record {
      number = number;
      store = subst (StandsFor layout (with_writes map done.entry.writes)) (sym (store_push workload before row job is)) leaves;
      replies = λ _ lawful held holds reads.
          subst (λ (o : Option Job). GivesReplies o held row.replies) (sym is)
          (weaker _ _ (apply_job job.ops held) (λ outcome h. h.0) (answered.answers lawful held holds reads));
      inside = λ _. subst (λ (o : Option Job). IsSomeAnd o (λ j. StaysOut layout j.ops done.entry)) (sym is) answered.inside;
      nothing_read = λ given_up. absurd (true≢false (sym given_up ∙ kept));
      nothing_written = λ given_up. absurd (true≢false (sym given_up ∙ kept));
    }

-- what such a row answers is what its job answers on the store after the rows before
pub answers_there : (workload : Workload) (before : List Row) (replies : List Reply) (map : List Val) (entry : Entry) (job : Job) →
    StandsFor workload.layout map (store_after workload before) → Agrees map entry.reads →
    IsAnsweredBy workload.layout job.ops replies entry →
    IsSomeAnd (apply_job job.ops (store_after workload before)) (λ outcome. replies ≡ outcome.replies)
answers_there workload before replies map entry job stands agrees answered =
    weaker _ _ (apply_job job.ops (store_after workload before)) (λ outcome h. h.0)
    (answered.answers map (store_after workload before) stands agrees)

-- ---- rows behind rows

-- one more row, and one more transaction
pub TellOf-push : {workload : Workload} (before rows : List Row) {row : Row} (map : List Val) (done : List Committed) {next : Committed} →
    TellOf workload before rows map done →
    TellsOf workload (before ++ rows) row (state_after map (entries_of done)) next →
    TellOf workload before (rows ++ row ∷ []) map (done ++ next ∷ [])
TellOf-push {workload = workload} before [] {row = row} map [] {next = next} told tell =
    (subst (λ (b : List Row). TellsOf workload b row map next) (append-nil before) tell, tt)
TellOf-push before [] map (done ∷ more) told tell = absurd told
TellOf-push before (first ∷ rows) map [] told tell = absurd told
TellOf-push {workload = workload} before (first ∷ rows) {row = row} map (done ∷ more) {next = next} told tell = (
  told.0,
  TellOf-push (before ++ first ∷ []) rows (with_writes map done.entry.writes) more told.1
      (subst (λ (b : List Row). TellsOf workload b row (state_after map (entries_of (done ∷ more))) next)
      (sym (append_assoc before (first ∷ []) rows)) tell),
)

-- in a legal list each transaction agrees with the map that those before it leave
pub agrees_next : (map : List Val) (done : List Entry) (next : Entry) (more : List Entry) →
    IsLegal map (done ++ next ∷ more) → Agrees (state_after map done) next.reads
agrees_next map [] next more legal = legal.0
agrees_next map (first ∷ done) next more legal = agrees_next (with_writes map first.writes) done next more legal.1

-- ---- good rows

answer_of : (Stuck : Type 0) (o : Option JobOutcome) (replies : List Reply) → IsSomeAnd o (λ outcome. replies ≡ outcome.replies) →
    AnswersWhere Stuck o replies
answer_of Stuck None replies some = absurd some
answer_of Stuck (Some outcome) replies some = some

-- the row of a transaction that answered its job stands rightly behind the rows before it
pub good_row : (workload : Workload) (before : List Row) (row : Row) {map : List Val} (entry : Entry) (job : Job) →
    StandsFor workload.layout map (store_after workload before) → Agrees map entry.reads →
    first_job row.worker (jobs_left workload.jobs before) ≡ Some job → row.line ≡ job.line →
    IfSome (last_row before) (λ previous. IsBefore previous row) →
    IsAnsweredBy workload.layout job.ops row.replies entry → IsGoodRow workload before row
good_row workload before row {map = map} entry job stands agrees turn line number answered = record {
  job = job;
  turn = turn;
  line = line;
  number = number;
  replies = answer_of (AllBlocked workload before) (apply_job job.ops (store_after workload before)) row.replies
      (answers_there workload before row.replies map entry job stands agrees answered);
}
