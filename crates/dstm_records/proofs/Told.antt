-- Rows that tell of the transactions of a round, one for one: they are good, and what the transactions leave stands for the
-- store after them.
use Rattle.std.proofs.Common.{◌≡◌, ◌⊎◌, ℕ, eqb, ◌+◌, ◌<◌, ◌≤◌, List, [], ◌∷◌, ◌++◌, length, Option, None, Some, refl, ap, sym, subst, ◌∙◌, inl, inr, arith, append_assoc, reverse}
use Rattle.std.specs.Prelude.{IfSome}
use Rattle.std.specs.List.{AllByRecursion, find}
use Rattle.std.proofs.lemmas.List.{append-nil}
use Rattle.dstm_records.proofs.Base.{Agrees, AreBelow, Committed, IsBefore, IsRun, IsValidWorkload, Job, NumbersFall, Round, Row, StandsFor, Val, Workload, all_done, committed_of, count_left, entries_of, first_job, job_of, jobs_left, last_row, start_of, store_after}
use Rattle.dstm_model.specs.Map.{state_after}
use mathlib.Core.List.{reverse-cons}
use Rattle.dstm_report.proofs.Rising.{find_line, length-without_first, rise_all, turn_ends}
use Rattle.dstm_tables.proofs.History.{is_history}
use Rattle.dstm_records.specs.Told.{AreTold, IsTold}
use Rattle.dstm_records.proofs.Collecting.{Collected, at_start, row_more, row_given_up}
use Rattle.dstm_records.proofs.Follows.{agrees_next, answers_there}
use Rattle.dstm_records.proofs.Replies.{not_given_up}
use Rattle.dstm_jobs.specs.Law.{keeps}

-- the numbers rise, from this one on
abbrev pub Rise : ℕ → List Committed → Type 0
Rise least [] = Unit {0}
Rise least (done ∷ more) = (least ≤ done.number) × Rise (done.number + 1) more

-- a row of this round with this number or a greater one may stand behind these rows
abbrev pub MayFollow : (round least : ℕ) → List Row → Type 0
MayFollow round least rows =
    IfSome (last_row rows) (λ previous. (previous.round < round) ⊎ ((previous.round ≡ round) × (previous.number < least)))

pub last_push : (rows : List Row) (row : Row) → last_row (rows ++ row ∷ []) ≡ Some row
last_push [] row = refl
last_push (first ∷ []) row = refl
last_push (first ∷ second ∷ rows) row = last_push (second ∷ rows) row

follows : (last : Option Row) (round least : ℕ) (row : Row) → row.round ≡ round → least ≤ row.number →
    IfSome last (λ previous. (previous.round < round) ⊎ ((previous.round ≡ round) × (previous.number < least))) →
    IfSome last (λ previous. IsBefore previous row)
follows None round least row is enough may = tt
follows (Some previous) round least row is enough may =
    elim may [
      | inl earlier ↦ inl (omega (arith, earlier, is))
      | inr same ↦ inr (same.0 ∙ sym is, omega (arith, same.1, enough))
    ]

-- the job of a row's turn is the one that its line names
pub turn_names : (workload : Workload) (before : List Row) (row : Row) (job : Job) → IsValidWorkload workload →
    first_job row.worker (jobs_left workload.jobs before) ≡ Some job → row.line ≡ job.line → job_of workload row ≡ Some job
turn_names workload before row job valid turn line =
    subst (λ l. find (λ j. eqb j.line l) workload.jobs ≡ Some job) (sym line)
    (find_line _ _ 0 workload.jobs job (rise_all workload.jobs valid.rising) turn)

-- one row more
told_more : {workload : Workload} {before rows : List Row} {start : List Val} {done : List Committed} (left : List Committed) {next : Committed}
    {row : Row} (round least : ℕ) → IsValidWorkload workload → Collected workload before rows start done (next ∷ left) →
    IsTold workload (before ++ rows) row next → row.round ≡ round → least ≤ next.number →
    MayFollow round least (before ++ rows) → Collected workload before (rows ++ row ∷ []) start (done ++ next ∷ []) left
told_more {workload = workload} {before = before} {rows = rows} {start = start} {done = done} left {next = next} {row = row} round least valid c told is enough may =
    let map = state_after start (entries_of done) in
    let named = turn_names workload (before ++ rows) row told.job valid told.turn told.line in
    let behind = follows (last_row (before ++ rows)) round least row is (omega (arith, enough, told.number)) may in
    elim told.answer [
      | inl answered ↦
          let agrees : Agrees map next.entry.reads = agrees_next start (entries_of done) next.entry (entries_of left) c.legal in
          row_more left next row told.job c told.turn told.line named told.number behind
          (not_given_up told.job.ops (store_after workload (before ++ rows)) row.replies
          (answers_there workload (before ++ rows) row.replies map next.entry told.job c.stands agrees answered))
          answered
      | inr given_up ↦ row_given_up left told.job c told.turn told.line named told.number behind given_up
    ]

-- all rows: at the end no transaction is left
pub all_told : {workload : Workload} {before rows : List Row} (more : List Row) {start : List Val} {done left : List Committed}
    (round least : ℕ) → IsValidWorkload workload → Collected workload before rows start done left →
    AreTold workload (before ++ rows) more left → AllByRecursion (λ row. row.round ≡ round) more → Rise least left →
    MayFollow round least (before ++ rows) → Collected workload before (rows ++ more) start (done ++ left) []
all_told {workload = workload} {before = before} {rows = rows} [] {start = start} {done = done} {left = []} round least valid c told in_round rise may =
    subst (λ (rs : List Row). Collected workload before rs start (done ++ []) []) (sym (append-nil rows))
    (subst (λ (ds : List Committed). Collected workload before rows start ds []) (sym (append-nil done)) c)
all_told [] {left = (next ∷ left)} round least valid c told in_round rise may = absurd told
all_told (row ∷ more) {left = []} round least valid c told in_round rise may = absurd told
all_told {workload = workload} {before = before} {rows = rows} (row ∷ more) {start = start} {done = done} {left = (next ∷ left)} round least valid c told in_round rise may =
    let here = told_more left round least valid c told.0 in_round.0 rise.0 may in
    let assoc : (before ++ rows) ++ row ∷ [] ≡ before ++ (rows ++ row ∷ []) = append_assoc before rows (row ∷ []) in
    let following : MayFollow round (next.number + 1) (before ++ (rows ++ row ∷ [])) =
    subst (MayFollow round (next.number + 1)) assoc
    (subst (λ (o : Option Row). IfSome o (λ previous. (previous.round < round) ⊎ ((previous.round ≡ round) ×
    (previous.number < next.number + 1)))) (sym (last_push (before ++ rows) row))
    (inr (in_round.0, omega (arith, told.0.number)))) in
    subst (λ (rs : List Row). Collected workload before rs start (done ++ next ∷ left) []) (append_assoc rows (row ∷ []) more)
    (subst (λ (ds : List Committed). Collected workload before ((rows ++ row ∷ []) ++ more) start ds [])
    (append_assoc done (next ∷ []) left) (all_told more round (next.number + 1) valid here
    (subst (λ (b : List Row). AreTold workload b more left) assoc told.1) in_round.1 rise.1 following))

-- one row more, behind those that are told
pub AreTold-push : (workload : Workload) (before rows : List Row) (row : Row) (ds : List Committed) (d : Committed) →
    AreTold workload before rows ds → IsTold workload (before ++ rows) row d →
    AreTold workload before (rows ++ row ∷ []) (ds ++ d ∷ [])
AreTold-push workload before [] row [] d told next =
    (subst (λ (b : List Row). IsTold workload b row d) (append-nil before) next, tt)
AreTold-push workload before [] row (e ∷ ds) d told next = absurd told
AreTold-push workload before (first ∷ rows) row [] d told next = absurd told
AreTold-push workload before (first ∷ rows) row (e ∷ ds) d told next = (
  told.0,
  AreTold-push workload (before ++ first ∷ []) rows row ds d told.1
      (subst (λ (b : List Row). IsTold workload b row d) (sym (append_assoc before (first ∷ []) rows)) next),
)

-- each row takes one of the jobs that are left
pub fewer_left : (workload : Workload) (before rows : List Row) (done : List Committed) → IsValidWorkload workload →
    AreTold workload before rows done → count_left workload (before ++ rows) + length rows ≡ count_left workload before
fewer_left workload before [] [] valid told = let same = ap (count_left workload) (append-nil before) in omega (arith, same)
fewer_left workload before [] (next ∷ done) valid told = absurd told
fewer_left workload before (row ∷ rows) [] valid told = absurd told
fewer_left workload before (row ∷ rows) (next ∷ done) valid told =
    let jobs = workload.jobs in
    let rest = fewer_left workload (before ++ row ∷ []) rows done valid told.1 in
    let here = ap length (turn_ends jobs before row told.0.job (rise_all jobs valid.rising) told.0.turn told.0.line) in
    let one = length-without_first row.worker (jobs_left jobs before) told.0.job told.0.turn in
    let same = ap (count_left workload) (append_assoc before (row ∷ []) rows) in
    omega (arith, rest, here, one, same)

-- ---- numbers that fall, the newest first, rise, the oldest first

below_push : (n : ℕ) (xs : List Committed) (y : Committed) → AreBelow n xs → y.number < n → AreBelow n (xs ++ y ∷ [])
below_push n [] y below last = (last, tt)
below_push n (x ∷ xs) y below last = (below.0, below_push n xs y below.1 last)

below_reverse : (n : ℕ) (xs : List Committed) → AreBelow n xs → AreBelow n (reverse xs)
below_reverse n [] below = tt
below_reverse n (x ∷ xs) below =
    subst (AreBelow n) (sym (reverse-cons x xs)) (below_push n (reverse xs) x (below_reverse n xs below.1) below.0)

rise_push : (least : ℕ) (xs : List Committed) (y : Committed) → Rise least xs → AreBelow y.number xs → least ≤ y.number →
    Rise least (xs ++ y ∷ [])
rise_push least [] y rise below enough = (enough, tt)
rise_push least (x ∷ xs) y rise below enough =
    (rise.0, rise_push (x.number + 1) xs y rise.1 below.1 (let b = below.0 in omega arith))

pub rise_of : (xs : List Committed) → NumbersFall xs → Rise 0 (reverse xs)
rise_of [] falls = tt
rise_of (x ∷ xs) falls =
    subst (Rise 0) (sym (reverse-cons x xs))
    (rise_push 0 (reverse xs) x (rise_of xs falls.1) (below_reverse x.number xs falls.0) (omega arith))

-- ---- the rows of a whole round

-- behind rows of earlier rounds any row of this one may stand
pub may_begin : (round : ℕ) (rows : List Row) → AllByRecursion (λ row. row.round < round) rows → MayFollow round 0 rows
may_begin round [] earlier = tt
may_begin round (row ∷ []) earlier = inl earlier.0
may_begin round (row ∷ next ∷ rows) earlier = may_begin round (next ∷ rows) earlier.1

-- The rows tell, one for one, of all that was committed on a table; so they are good, and what it has in its objects stands
-- for the store after them.
pub rows_told : (workload : Workload) (before rows : List Row) (r : Round) (number : ℕ) → IsValidWorkload workload → IsRun r →
    AllByRecursion (λ row. row.round < number) before → StandsFor workload.layout (start_of r) (store_after workload before) →
    AreTold workload before rows (committed_of r) → AllByRecursion (λ row. row.round ≡ number) rows →
    Collected workload before rows (start_of r) (committed_of r) []
rows_told workload before rows r number valid run earlier stands told in_round =
    let history = is_history keeps r run in
    let none : before ++ [] ≡ before = append-nil before in
    all_told rows number 0 valid (at_start workload before (committed_of r) stands history.legal)
    (subst (λ (b : List Row). AreTold workload b rows (committed_of r)) (sym none) told) in_round
    (rise_of (all_done r) history.falls) (subst (MayFollow number 0) (sym none) (may_begin number before earlier))
