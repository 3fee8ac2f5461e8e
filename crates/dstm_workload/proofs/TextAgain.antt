-- What is read from the text of a workload is that workload.
use Rattle.std.proofs.Common.{◌≡◌, ℕ, ◌+◌, ◌≤◌, ◌==◌, List, [], ◌∷◌, ◌++◌, length, map, flat_map, All, Some, Ok}
use Rattle.std.proofs.Common.{if◌then◌else◌, refl, sym, ap, subst, ◌∙◌, arith, append_assoc, append-nil, length-append}
use Rattle.std.specs.List.{AllByRecursion}
use Rattle.std.proofs.lemmas.{Bool.Decides.nat_tests, List.map-append, List.length-map, List.Concat.flat_map-append}
use Rattle.std.proofs.lemmas.List.Elements.{recursion_from_All}
use Rattle.dstm_text.specs.Lines.{lines_of}
use Rattle.dstm_workload.specs.declared.known.Known.{Known}
use Rattle.dstm_workload.specs.Entry.{Entry}
use Rattle.dstm_workload.specs.declared.workload.{Job.Job, Workload.Workload}
use Rattle.dstm_workload.specs.Entry as entry
use Rattle.dstm_workload.specs.Workload.{IsValidWorkload}
use Rattle.dstm_workload.specs.Entries.{entry_of, worker_count}
use Rattle.dstm_workload.specs.Known.{IsKnown, nothing_known, with_entry, layout_of, jobs_in}
use Rattle.dstm_workload.specs.Reading.{known_of, line_tells, jobs_after, workload_with, made_of, workload_of}
use Rattle.dstm_workload.specs.Writing.{joined, lined, fields_of_job, head_of, text_of_workload, renumbered, as_written}
use Rattle.dstm_workload.proofs.LinesAgain.{IsField, lined-append, lines_of-lined, lines_of-lined-then}
use Rattle.dstm_workload.proofs.EntryLaws.{fields_of_entry, Comes, comes_fields, line_ok, line_again}
use Rattle.dstm_workload.proofs.KnownLaws.{known_told, known_stays}
use Rattle.dstm_workload.proofs.ValidLaws.{IsGood}

-- ---- lines that tell entries

-- entries that may come one after the other
abbrev AllCome : Known → ℕ → List Entry → Type 0
AllCome known line [] = Unit {0}
AllCome known line (e ∷ es) = Comes known.version known line e × AllCome (with_entry known e) (line + 1) es

-- what is known behind them
abbrev known_behind : Known → List Entry → Known
known_behind known [] = known
known_behind known (e ∷ es) = known_behind (with_entry known e) es

abbrev jobs_of : List Entry → List Job
jobs_of es = flat_map (λ e. jobs_in (Some e)) es

abbrev pub texts_of : List Entry → List (List ℕ)
texts_of es = map joined (map fields_of_entry es)

come-append : (known : Known) (line : ℕ) (es more : List Entry) → AllCome known line es →
    AllCome (known_behind known es) (line + length es) more →
    AllCome known line (es ++ more) × (known_behind known (es ++ more) ≡ known_behind (known_behind known es) more)
come-append known line [] more come later =
    let same : line + 0 ≡ line = omega arith in ((rw same at later), refl)
come-append known line (e ∷ es) more come later =
    let same : line + length (e ∷ es) ≡ line + 1 + length es = omega arith in
    let rest = come-append (with_entry known e) (line + 1) es more come.1 (rw same at later) in
    ((come.0, rest.0), rest.1)

entries_fields : (known : Known) (line : ℕ) (es : List Entry) → IsKnown known → AllCome known line es →
    AllByRecursion (AllByRecursion IsField) (map fields_of_entry es)
entries_fields known line [] valid come = tt
entries_fields known line (e ∷ es) valid come = (
  comes_fields known valid line known.version e valid.version come.0,
  entries_fields (with_entry known e) (line + 1) es (known_stays known line known.version e valid come.0) come.1,
)

entries_told : (before : List (List ℕ)) (known : Known) (es : List Entry) → known_of before ≡ known → IsKnown known →
    AllCome known (length before + 1) es →
    (jobs_after before (texts_of es) ≡ Ok (jobs_of es)) × (known_of (before ++ texts_of es) ≡ known_behind known es)
entries_told before known [] is valid come = (refl, ap known_of (append-nil before) ∙ is)
entries_told before known (e ∷ es) is valid come =
    let line = length before + 1 in
    let text = joined (fields_of_entry e) in
    let next = before ++ text ∷ [] in
    let told : line_tells before text ≡ Ok (Some e) =
    ap (λ k. entry_of k line text) is ∙ line_again known valid line e come.0 in
    let tells = line_ok (known_of before) (rw is valid) line text (Some e) told in
    let more = known_told before line text (Some e) tells ∙ ap (λ k. with_entry k e) is in
    let place : length next + 1 ≡ line + 1 = omega (arith, length-append before (text ∷ [])) in
    let rest = entries_told next (with_entry known e) es more (known_stays known line known.version e valid come.0)
    (rw place come.1) in
    (rw (told, rest.0), rw (← append_assoc before (text ∷ []) (texts_of es)) rest.1)

-- ---- the entries of a workload

transactions : ℕ → List Job → List Entry
transactions line jobs = map (λ job. entry.Transaction job) (renumbered line jobs)

transactions_are : (line : ℕ) (jobs : List Job) →
    (map fields_of_entry (transactions line jobs) ≡ map fields_of_job jobs)
    × (jobs_of (transactions line jobs) ≡ renumbered line jobs)
unfolding transactions
transactions_are line [] = (refl, refl)
transactions_are line (job ∷ jobs) = let rest = transactions_are (line + 1) jobs in (rw rest.0, rw rest.1)

transactions_come : (version : ℕ) (known : Known) (line : ℕ) (jobs : List Job) → known.version ≡ Some version →
    known.transactions + length jobs ≤ 20000 →
    AllByRecursion (IsGood version (worker_count known) (layout_of known)) jobs →
    AllCome known line (transactions line jobs)
    × ((n : ℕ) × (known_behind known (transactions line jobs) ≡ record known { transactions = n }))
unfolding transactions
transactions_come version known line [] is few good = (tt, (known.transactions, refl))
transactions_come version known line (job ∷ jobs) is few good =
    let this : Job = record job { line = line } in
    let next = with_entry known (entry.Transaction this) in
    let rest = transactions_come version next (line + 1) jobs is (omega arith) good.1 in
    let first : Comes (Some version) known line (entry.Transaction this) =
    record { room = omega arith; line_is = refl; worker = good.0.worker; ops = good.0.ops } in
    ((subst (λ o. Comes o known line (entry.Transaction this)) (sym is) first, rest.0), rest.1)

-- ---- the whole text

module _ (workload : Workload) (valid : IsValidWorkload workload) where
  -- an entry where something is declared
  abbrev where_told : ℕ → Entry → List Entry
  where_told size e = if size == 0 then [] else e ∷ []

  -- what its lines before the transactions tell
  heads : List Entry
  heads =
      let layout = workload.layout in
      entry.Version workload.version ∷ entry.Workers workload.workers
      ∷ where_told layout.accounts (entry.Bank (record { accounts = layout.accounts; opening = layout.opening }))
      ++ (where_told layout.list (entry.List layout.list) ++ where_told layout.tree (entry.Tree layout.tree))

  abbrev line : ℕ
  line = length (head_of workload) + 1

  abbrev txs : List Entry
  txs = transactions line workload.jobs

  -- what is known behind the declarations
  known : Known
  known = known_behind nothing_known heads

  -- it is what the workload declares
  record AreHeads : Type 0 where
    fields : head_of workload ≡ map fields_of_entry heads
    come : AllCome nothing_known 1 heads
    jobs : jobs_of heads ≡ []
    version : known.version ≡ Some workload.version
    workers : worker_count known ≡ workload.workers
    layout : layout_of known ≡ workload.layout
    none : known.transactions ≡ 0

  are_heads : AreHeads
  unfolding heads known
  are_heads = let layout = valid.layout in grind (arith, nat_tests)

  jobs_come : AllCome known line txs × ((n : ℕ) × (known_behind known txs ≡ record known { transactions = n }))
  jobs_come =
      let few = valid.few in
      let none = are_heads.none in
      let good : All (IsGood workload.version workload.workers workload.layout) workload.jobs =
      λ k d lt. let is = valid.each k d lt in search in
      transactions_come workload.version known line workload.jobs are_heads.version (omega arith)
      (recursion_from_All _ workload.jobs (rw (are_heads.workers, are_heads.layout) good))

  pub entries : List Entry
  entries = heads ++ txs

  come : AllCome nothing_known 1 entries × (known_behind nothing_known entries ≡ known_behind known txs)
  unfolding entries known
  come =
      let place : 1 + length heads ≡ line =
      omega (arith, ap length are_heads.fields, length-map heads fields_of_entry) in
      come-append nothing_known 1 heads txs are_heads.come (rw place jobs_come.0)

  -- its lines, and those of what is put behind it
  text_is : text_of_workload workload ≡ lined (map fields_of_entry entries)
  unfolding entries
  text_is =
      let jobs = (transactions_are line workload.jobs).0 in
      let all : head_of workload ++ map fields_of_job workload.jobs ≡ map fields_of_entry (heads ++ txs) =
      cc (are_heads.fields, jobs, map-append fields_of_entry heads txs) in
      sym (lined-append (head_of workload) (map fields_of_job workload.jobs)) ∙ ap lined all

  solid : AllByRecursion (AllByRecursion IsField) (map fields_of_entry entries)
  solid = entries_fields nothing_known 1 entries (search arith) come.0

  pub lines_are : lines_of (text_of_workload workload) ≡ texts_of entries
  lines_are = ap lines_of text_is ∙ lines_of-lined (map fields_of_entry entries) solid

  pub lines_behind : (rest : List ℕ) → lines_of (text_of_workload workload ++ rest) ≡ texts_of entries ++ lines_of rest
  lines_behind rest =
      ap (λ text. lines_of (text ++ rest)) text_is ∙ lines_of-lined-then (map fields_of_entry entries) rest solid

  jobs_are : jobs_of entries ≡ renumbered line workload.jobs
  unfolding entries
  jobs_are = rw (flat_map-append, are_heads.jobs) (transactions_are line workload.jobs).1

  pub read_again : workload_of (lines_of (text_of_workload workload)) ≡ Ok (as_written workload)
  read_again =
      let read = entries_told [] nothing_known entries refl (search arith) come.0 in
      let all = read.1 ∙ come.1 ∙ jobs_come.1.1 in
      ap workload_of lines_are ∙ ap (made_of (texts_of entries)) (read.0 ∙ ap (λ js. Ok js) jobs_are)
      ∙ ap (λ k. workload_with (length (texts_of entries)) k.version k (as_written workload).jobs) all
      ∙ rw (are_heads.version, are_heads.workers, are_heads.layout)
