-- What a line tells: the entry whose fields it has, where that may come.
use Rattle.std.proofs.Common.{◌≡◌, ℕ, ◌-◌, ◌<◌, ◌≤◌, Bool, true, false, List, [], ◌∷◌, Option, Some, None, Ok, IfSome}
use Rattle.std.proofs.Common.{codes, decimal, refl, ap, ◌∙◌, arith, ◌⊎◌, append-nil}
use Rattle.std.specs.List.{list_all, AllByRecursion}
use Rattle.std.proofs.lemmas.{Bool.lt-ltb, Bool.le-leb, Bool.Decides.nat_tests, Slice.Eq.bytes_eq-Decides}
use Rattle.dstm_text.specs.Lines.{fields_of}
use Rattle.dstm_text.proofs.NumberLaws.{number_of-decimal, decimal-number_of}
use Rattle.dstm_workload.specs.declared.{word.Word.Word, known.Known.Known, workload.Job.Job}
use Rattle.dstm_workload.specs.Entry.{Entry}
use Rattle.dstm_workload.specs.declared.word.Word.TheVariants as word
use Rattle.dstm_workload.specs.Entry as entry
use Rattle.dstm_workload.specs.Workload.{AreOperations}
use Rattle.dstm_workload.specs.Words.{spelling, word_of}
use Rattle.dstm_workload.specs.Fields.{number_at, end_at}
use Rattle.dstm_workload.specs.Known.{IsKnown, layout_of}
use Rattle.dstm_workload.specs.Table.{Operands}
use Rattle.dstm_workload.specs.Operations.{operands_at, ops_at}
use Rattle.dstm_workload.specs.Writing.{joined, fields_of_operands, fields_of_ops, fields_of_job}
use Rattle.dstm_workload.specs.Entries as entries
use Rattle.dstm_workload.specs.Entries.{is_comment, is_printable, header_of, header_at, free_for, Declaration}
use Rattle.dstm_workload.specs.Entries.{declaration_at, worker_count, room_for_job, transaction_at, body_of, body_at}
use Rattle.dstm_workload.specs.Entries.{told_by, fields_tell, entry_of}
use Rattle.dstm_workload.proofs.ReadLaws.{bind_ok, same_Ok, number_ok, word_ok, word_again}
use Rattle.dstm_workload.proofs.LinesAgain.{IsField, decimal_is_field, number_again, fields_of-joined, joined_printable}
use Rattle.dstm_workload.proofs.TableLaws.{AllInRange, operands_again, operands_ok}
use Rattle.dstm_workload.proofs.OpLaws.{ops_read, ops_again, ops_fields}

-- ---- entries

abbrev pub fields_of_entry : Entry → List (List ℕ)
fields_of_entry (entry.Version v) = codes "dstm" ∷ decimal v ∷ []
fields_of_entry (entry.Workers n) = codes "workers" ∷ decimal n ∷ []
fields_of_entry (entry.Bank bank) = codes "bank" ∷ decimal bank.accounts ∷ decimal bank.opening ∷ []
fields_of_entry (entry.List n) = codes "list" ∷ decimal n ∷ []
fields_of_entry (entry.Tree n) = codes "tree" ∷ decimal n ∷ []
fields_of_entry (entry.Transaction job) = fields_of_job job

-- a declaration, the first of its kind, with no transaction before it
abbrev pub Declares : (d : Declaration) → Known → Operands d.kinds → Type 0
Declares d known ns = (known.transactions ≡ 0) × (d.made known ≡ false) × AllInRange known d.kinds ns

pub record IsTransaction (version : ℕ) (known : Known) (line : ℕ) (job : Job) : Type 0 where
  pub room : known.transactions < 20000
  pub line_is : job.line ≡ line
  pub worker : job.worker < worker_count known
  pub ops : AreOperations version (layout_of known) job.ops

-- the entry may come behind the header
abbrev pub Stands : ℕ → Known → ℕ → Entry → Type 0
Stands version known line (entry.Version v) = ⊥
Stands version known line (entry.Workers n) = Declares entries.workers known (n, tt)
Stands version known line (entry.Bank bank) = Declares entries.bank known (bank.accounts, (bank.opening, tt))
Stands version known line (entry.List n) = Declares entries.list known (n, tt)
Stands version known line (entry.Tree n) = Declares entries.tree known (n, tt)
Stands version known line (entry.Transaction job) = IsTransaction version known line job

-- the entry may come: first of all a header
abbrev pub Comes : Option ℕ → Known → ℕ → Entry → Type 0
Comes None known line (entry.Version v) = (1 ≤ v) × (v ≤ 3)
Comes None known line other = ⊥
Comes (Some version) known line e = Stands version known line e

-- a line of these fields tells this
abbrev Says : Option ℕ → Known → ℕ → List (List ℕ) → Entry → Type 0
Says version known line fields e = Comes version known line e × (fields ≡ fields_of_entry e)

-- ---- a declaration

free_again : (known : Known) (b : Bool) → known.transactions ≡ 0 → b ≡ false → free_for known b ≡ Ok true
free_again known b early none = grind (arith, nat_tests)

pub some_worker : (known : Known) → IsKnown known → (1 ≤ worker_count known) × (worker_count known ≤ 32)
some_worker known valid = grind arith

module _ (known : Known) (valid : IsKnown known) (line : ℕ) (version : ℕ) (low : 1 ≤ version) where
  declared : (name : List ℕ) (d : Declaration) (fields : List (List ℕ)) (e : Entry) →
      declaration_at d version known fields ≡ Ok e → (ns : Operands d.kinds) × Declares d known ns
      × (name ∷ fields ≡ name ∷ fields_of_operands d.kinds ns) × (d.tells ns ≡ e)
  unfolding declaration_at
  declared name d fields e is =
      let free = bind_ok (free_for known (d.made known)) _ e is in
      let ns = bind_ok (operands_at version known d.kinds fields) _ e free.2 in
      let end = bind_ok (end_at ns.0.1) _ e ns.2 in
      let early : (known.transactions ≡ 0) × (d.made known ≡ false) = grind (arith, nat_tests, free.1) in
      let read = operands_ok version low known valid d.kinds fields ns.0 ns.1 in
      let none : ns.0.1 ≡ [] = grind arith in (
        ns.0.0,
        (early.0, early.1, read.0),
        ap (λ fs. name ∷ fs) (read.1 ∙ rw (none, append-nil (fields_of_operands d.kinds ns.0.0))),
        same_Ok (d.tells ns.0.0) e end.2,
      )

  declared_again : (d : Declaration) (ns : Operands d.kinds) → Declares d known ns →
      declaration_at d version known (fields_of_operands d.kinds ns) ≡ Ok (d.tells ns)
  unfolding declaration_at
  declared_again d ns comes =
      rw (
        ← append-nil (fields_of_operands d.kinds ns),
        free_again known (d.made known) comes.0 comes.1,
        operands_again version low known valid d.kinds ns [] comes.2,
      )

  -- ---- a transaction

  transaction : (fields : List (List ℕ)) (e : Entry) → transaction_at version known line fields ≡ Ok e →
      Says (Some version) known line (codes "tx" ∷ fields) e
  unfolding transaction_at
  transaction fields e is =
      let room = bind_ok (room_for_job known) _ e is in
      let worker = bind_ok (number_at 0 (worker_count known - 1) fields) _ e room.2 in
      let ops = bind_ok (ops_at version known worker.0.1) _ e worker.2 in
      let some : known.transactions < 20000 = grind (arith, nat_tests, room.1) in
      let count = some_worker known valid in
      let number = number_ok 0 (worker_count known - 1) (omega arith) fields worker.0 worker.1 in
      let last = number.1 in
      let read = ops_read version low known valid worker.0.1 ops.0 ops.1 in
      rw (← same_Ok (entry.Transaction (record { line = line; worker = worker.0.0; ops = ops.0 })) e ops.2) (
        record { room = some; line_is = refl; worker = omega arith; ops = read.1 },
        ap (λ fs. codes "tx" ∷ fs) (number.2 ∙ ap (λ fs. decimal worker.0.0 ∷ fs) read.0),
      )

  transaction_again : (job : Job) → IsTransaction version known line job →
      body_at version known line (fields_of_job job) ≡ Ok (entry.Transaction job)
  unfolding body_at transaction_at
  transaction_again job comes =
      let count = some_worker known valid in
      let below = comes.worker in
      let worker = number_again 0 (worker_count known - 1) job.worker (fields_of_ops false job.ops) (omega arith)
      (omega arith) (omega arith) in
      let ops = ops_again version low known valid job.ops comes.ops in
      rw (word_again version word.Tx low, lt-ltb known.transactions 20000 comes.room, worker, ops, comes.line_is)

  -- ---- a line behind the header

  body_ok : (field : List ℕ) (fields : List (List ℕ)) (w : Option Word) (e : Entry) →
      ((v : Word) → w ≡ Some v → field ≡ spelling v) → body_of version known line fields w ≡ Ok e →
      Says (Some version) known line (field ∷ fields) e
  body_ok field fields None e named is = cc
  body_ok field fields (Some word.Workers) e named is =
      let d = declared (codes "workers") entries.workers fields e is in rw (← d.3, named word.Workers refl) (d.1, d.2)
  body_ok field fields (Some word.Bank) e named is =
      let d = declared (codes "bank") entries.bank fields e is in rw (← d.3, named word.Bank refl) (d.1, d.2)
  body_ok field fields (Some word.List) e named is =
      let d = declared (codes "list") entries.list fields e is in rw (← d.3, named word.List refl) (d.1, d.2)
  body_ok field fields (Some word.Tree) e named is =
      let d = declared (codes "tree") entries.tree fields e is in rw (← d.3, named word.Tree refl) (d.1, d.2)
  body_ok field fields (Some word.Tx) e named is = rw (named word.Tx refl) (transaction fields e is)
  body_ok field fields (Some other) e named is = cc

  body_again : (e : Entry) → Stands version known line e → body_at version known line (fields_of_entry e) ≡ Ok e
  unfolding body_at
  body_again (entry.Version v) comes = absurd comes
  body_again (entry.Workers n) comes =
      rw (word_again version word.Workers low) (declared_again entries.workers (n, tt) comes)
  body_again (entry.Bank bank) comes =
      rw (word_again version word.Bank low) (declared_again entries.bank (bank.accounts, (bank.opening, tt)) comes)
  body_again (entry.List n) comes = rw (word_again version word.List low) (declared_again entries.list (n, tt) comes)
  body_again (entry.Tree n) comes = rw (word_again version word.Tree low) (declared_again entries.tree (n, tt) comes)
  body_again (entry.Transaction job) comes = transaction_again job comes

  stands_fields : (e : Entry) → Stands version known line e → AllByRecursion IsField (fields_of_entry e)
  stands_fields (entry.Transaction job) comes =
      let count = some_worker known valid in
      let below = comes.worker in (
        (omega arith, refl),
        (decimal_is_field job.worker (omega arith), ops_fields version low known valid job.ops comes.ops),
      )
  stands_fields (entry.Version v) comes = absurd comes
  stands_fields (entry.Bank bank) comes = (
    (omega arith, refl),
    (decimal_is_field bank.accounts (omega arith), (decimal_is_field bank.opening (omega arith), tt)),
  )
  stands_fields (entry.Workers n) comes = ((omega arith, refl), (decimal_is_field n (omega arith), tt))
  stands_fields (entry.List n) comes = ((omega arith, refl), (decimal_is_field n (omega arith), tt))
  stands_fields (entry.Tree n) comes = ((omega arith, refl), (decimal_is_field n (omega arith), tt))

-- ---- a header

header_ok : (known : Known) (line : ℕ) (fields : List (List ℕ)) (v : ℕ) → header_of fields ≡ Some v →
    Says None known line fields (entry.Version v)
header_ok known line (name ∷ field ∷ []) v is = grind (arith, nat_tests, bytes_eq-Decides, decimal-number_of)
header_ok known line fields v is = cc

pub header_again : (v : ℕ) → 1 ≤ v → v ≤ 3 → header_of (codes "dstm" ∷ decimal v ∷ []) ≡ Some v
header_again v low high = rw (number_of-decimal v (omega arith), le-leb 1 v low, le-leb v 3 high)

-- ---- a line

-- what a line has told: nothing, where it is a comment or has no fields, or the entry whose fields it has
abbrev pub Told : Known → ℕ → List ℕ → Option Entry → Type 0
Told known line text None = (is_comment text ≡ true) ⊎ (fields_of text ≡ [])
Told known line text (Some e) = (is_comment text ≡ false) × Says known.version known line (fields_of text) e

module _ (known : Known) (valid : IsKnown known) (line : ℕ) where
  header_by : (fields : List (List ℕ)) (o : Option ℕ) (e : Entry) → header_of fields ≡ o → header_at o ≡ Ok e →
      Says None known line fields e
  header_by fields None e header is = cc
  header_by fields (Some v) e header is = rw (← same_Ok (entry.Version v) e is) (header_ok known line fields v header)

  told_ok : (o : Option ℕ) (fields : List (List ℕ)) (e : Entry) → IfSome o (λ v. (1 ≤ v) × (v ≤ 3)) →
      told_by o known line fields ≡ Ok e → Says o known line fields e
  unfolding body_at
  told_ok None fields e range is = header_by fields (header_of fields) e refl is
  told_ok (Some version) [] e range is = cc
  told_ok (Some version) (field ∷ fields) e range is =
      body_ok known valid line version range.0 field fields (word_of version field) e
      (λ v w. (word_ok version field v w).1) is

  told_again : (o : Option ℕ) (e : Entry) → IfSome o (λ v. (1 ≤ v) × (v ≤ 3)) → Comes o known line e →
      told_by o known line (fields_of_entry e) ≡ Ok e
  told_again None (entry.Version v) range comes = ap header_at (header_again v comes.0 comes.1)
  told_again None other range comes = absurd comes
  told_again (Some version) e range comes = body_again known valid line version range.0 e comes

  pub comes_fields : (o : Option ℕ) (e : Entry) → IfSome o (λ v. (1 ≤ v) × (v ≤ 3)) → Comes o known line e →
      AllByRecursion IsField (fields_of_entry e)
  comes_fields None (entry.Version v) range comes = ((omega arith, refl), (decimal_is_field v (omega arith), tt))
  comes_fields None other range comes = absurd comes
  comes_fields (Some version) e range comes = stands_fields known valid line version range.0 e comes

  pub line_ok : (text : List ℕ) (told : Option Entry) → entry_of known line text ≡ Ok told → Told known line text told
  unfolding entry_of
  line_ok text None is = grind arith
  line_ok text (Some e) is =
      let read : (is_comment text ≡ false) × (told_by known.version known line (fields_of text) ≡ Ok e) = grind arith in
      (read.0, told_ok known.version (fields_of text) e valid.version read.1)

  no_comment : (e : Entry) → is_comment (joined (fields_of_entry e)) ≡ false
  no_comment e = grind arith

  -- a line with no fields is no entry's
  tells : (text : List ℕ) (fields : List (List ℕ)) (e : Entry) → list_all is_printable text ≡ true →
      told_by known.version known line fields ≡ Ok e → fields_tell known line text fields ≡ Ok (Some e)
  unfolding body_at
  tells text fields e printable read = grind arith

  pub line_again : (e : Entry) → Comes known.version known line e →
      entry_of known line (joined (fields_of_entry e)) ≡ Ok (Some e)
  unfolding entry_of
  line_again e comes =
      let fields = fields_of_entry e in
      let solid = comes_fields known.version e valid.version comes in
      rw (no_comment e, fields_of-joined fields solid) (tells (joined fields) fields e (joined_printable fields solid)
      (told_again known.version e valid.version comes))
