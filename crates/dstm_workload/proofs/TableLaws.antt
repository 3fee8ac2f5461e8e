-- The table of operations: what is read is what is written.
use Rattle.std.proofs.Common.{◌≡◌, ℕ, ◌^◌, ◌<◌, ◌≤◌, Bool, true, false, List, [], ◌∷◌, ◌++◌, map, Option, Some, None}
use Rattle.std.proofs.Common.{Ok, IfSome, ◌↔◌, unwrap_or, refl, ap, ◌∙◌, append_assoc, arith}
use Rattle.std.specs.List.{AllByRecursion}
use Rattle.dstm_model.specs.Layout.{IsValid, FitsLayout, capacity}
use Rattle.dstm_model.specs.declared.op.{Which.Which, Op.Op}
use Rattle.dstm_model.specs.declared.op.Which.TheVariants as which
use Rattle.dstm_model.specs.declared.op.Cond.TheVariants as cond
use Rattle.dstm_model.specs.declared.op.Op.TheVariants as op
use Rattle.dstm_workload.specs.declared.{word.Word.Word, known.Known.Known}
use Rattle.dstm_workload.specs.declared.word.Word.TheVariants as word
use Rattle.dstm_workload.specs.Workload.{HasOp, HasValue, IsNoAwait}
use Rattle.dstm_workload.specs.Words.{since, spelling, word_of}
use Rattle.dstm_workload.specs.Fields.{met_by}
use Rattle.dstm_workload.specs.Known.{IsKnown, layout_of}
use Rattle.dstm_workload.specs.Table.{Kind, Account, Structure, Operand, Operands, least, most, is_of_operation}
use Rattle.dstm_workload.specs.Table.{Need, Bank, ListNodes, TreeNodes, Nothing, is_met, Form, by_form, begun_by}
use Rattle.dstm_workload.specs.Table.{awaited_by}
use Rattle.dstm_workload.specs.Operations.{structure_of, structure_at, operand_of, operands_at, form_at, of_form}
use Rattle.dstm_workload.specs.Operations.{await_of, await_at, op_of, op_at}
use Rattle.dstm_workload.specs.Writing.{field_of, fields_of_operands, written, fields_of_op, is_orelse}
use Rattle.dstm_workload.proofs.LinesAgain.{IsField, all_both, decimal_is_field, numeral_again}
use Rattle.dstm_workload.proofs.ReadLaws.{bind_ok, same_Ok, numeral_ok, word_ok, word_again}

-- ---- what is declared

pub layout_is_valid : (known : Known) → IsKnown known → IsValid (layout_of known)
layout_is_valid known h = grind arith

-- the size of what has to be declared
abbrev size_of : Known → Need → ℕ
size_of known Bank = (layout_of known).accounts
size_of known ListNodes = (layout_of known).list
size_of known TreeNodes = (layout_of known).tree
size_of known Nothing = 1

met_is : (known : Known) (need : Need) → IsKnown known → (is_met known need ≡ true) ↔ (0 < size_of known need)
met_is known need h = grind arith

-- ---- operands

abbrev pub InRange : Known → (kind : Kind) → Operand kind → Type 0
InRange known Structure w = 0 < capacity w (layout_of known)
InRange known kind n = (least kind ≤ n) × (n ≤ most known kind)

abbrev pub AllInRange : Known → (kinds : List Kind) → Operands kinds → Type 0
AllInRange known [] operands = Unit {0}
AllInRange known (kind ∷ kinds) operands = InRange known kind operands.0 × AllInRange known kinds operands.1

-- an operation as its form and its operands
pub record Shown : Type 0 where
  pub form : Form
  pub operands : Operands form.kinds

abbrev pub by : (form : Form) → Operands form.kinds → Shown
by form operands = record { form = form; operands = operands }

abbrev pub shown : Op → Shown
shown o = by_form by o

shown_fields : (o : Op) → fields_of_op o ≡ written (shown o).form (shown o).operands
shown_fields op.OrElse = refl
shown_fields (op.Await (cond.Balance account least)) = refl
shown_fields (op.Await (cond.Key which.List key)) = refl
shown_fields (op.Await (cond.Key which.Tree key)) = refl
shown_fields o = refl

-- its form may stand where these are declared
abbrev pub FitsForm : Known → Shown → Type 0
FitsForm known s = (0 < size_of known s.form.needs) × AllInRange known s.form.kinds s.operands

fits_form : (known : Known) (o : Op) → (FitsLayout (layout_of known) o × HasValue o) ↔ FitsForm known (shown o)
fits_form known (op.Await (cond.Balance a least)) = omega arith
fits_form known (op.Await (cond.Key which.List key)) = omega arith
fits_form known (op.Await (cond.Key which.Tree key)) = omega arith
fits_form known o = omega arith

-- an operation that may stand here
pub record IsOp (version : ℕ) (known : Known) (first : Bool) (o : Op) : Type 0 where
  pub fits : FitsLayout (layout_of known) o
  pub value : HasValue o
  pub has : HasOp version o
  pub awaits : first ≡ false → IsNoAwait o
  pub alone : is_orelse o ≡ false

-- a form in the table
record IsRow (version : ℕ) (first : Bool) (words : List Word) (form : Form) : Type 0 where
  words_are : form.words ≡ words
  shows : (xs : Operands form.kinds) → shown (form.makes xs) ≡ by form xs
  writes : (xs : Operands form.kinds) → fields_of_op (form.makes xs) ≡ written form xs
  has : (xs : Operands form.kinds) → HasOp version (form.makes xs)
  awaits : (xs : Operands form.kinds) → first ≡ false → IsNoAwait (form.makes xs)
  alone : (xs : Operands form.kinds) → is_orelse (form.makes xs) ≡ false

-- what a word begins, and what is awaited by a word
begun : (version : ℕ) (first : Bool) (w : Word) → since w ≤ version → IfSome (begun_by w) (IsRow version first (w ∷ []))
begun version first word.Tx has = search arith
begun version first w has = search arith

awaited : (version : ℕ) (w : Word) → 3 ≤ version →
    IfSome (awaited_by w) (IsRow version true (word.Await ∷ w ∷ []))
awaited version word.Tx has = search arith
awaited version w has = search arith

true_unless : (b : Bool) → (b ≡ false → ⊥) → b ≡ true
true_unless b other = grind arith

-- the first word, or the one behind `await`
abbrev chosen_word : List Word → Word
chosen_word [] = word.Tx
chosen_word (w ∷ []) = w
chosen_word (w ∷ v ∷ ws) = v

module _ (version : ℕ) (low : 1 ≤ version) (known : Known) (valid : IsKnown known) where
  most_small : (kind : Kind) → most known kind < 2 ^ 64
  most_small Account = let few = (layout_is_valid known valid).accounts in omega arith
  most_small other = omega arith

  -- ---- an operand of each kind

  there : (o : Option ℕ) → 0 < unwrap_or o 0 → o ≡ Some (unwrap_or o 0)
  there o some = grind arith

  operand_again : (kind : Kind) (x : Operand kind) (rest : List (List ℕ)) → InRange known kind x →
      operand_of version known kind (field_of kind x ∷ rest) ≡ Ok (x, rest)
  unfolding structure_at
  operand_again Structure which.List rest some = rw (word_again version word.List low, there known.list some)
  operand_again Structure which.Tree rest some = rw (word_again version word.Tree low, there known.tree some)
  operand_again kind n rest inside =
      let small = most_small kind in
      numeral_again (is_of_operation kind) (least kind) (most known kind) n rest (omega arith) inside.0 inside.1

  abbrev Reads : (kind : Kind) → List (List ℕ) → Operand kind × List (List ℕ) → Type 0
  Reads kind fields x = InRange known kind x.0 × (fields ≡ field_of kind x.0 ∷ x.1)

  structure_ok : (field : List ℕ) (fields : List (List ℕ)) (w : Option Word) (x : Which × List (List ℕ)) →
      ((v : Word) → w ≡ Some v → field ≡ spelling v) → structure_of known fields w ≡ Ok x →
      Reads Structure (field ∷ fields) x
  structure_ok field fields w x spelled is = grind (arith, spelled word.List, spelled word.Tree, valid)

  operand_ok : (kind : Kind) (fields : List (List ℕ)) (x : Operand kind × List (List ℕ)) →
      operand_of version known kind fields ≡ Ok x → Reads kind fields x
  unfolding structure_at
  operand_ok Structure [] x is = cc
  operand_ok Structure (field ∷ fields) x is =
      structure_ok field fields (word_of version field) x (λ v w. (word_ok version field v w).1) is
  operand_ok kind fields x is =
      let read = numeral_ok (is_of_operation kind) (least kind) (most known kind) (most_small kind) fields x is in
      ((read.0, read.1), read.2)

  operand_field : (kind : Kind) (x : Operand kind) → InRange known kind x → IsField (field_of kind x)
  operand_field Structure which.List some = (omega arith, refl)
  operand_field Structure which.Tree some = (omega arith, refl)
  operand_field kind n inside =
      let small = most_small kind in
      decimal_is_field n (omega arith)

  -- ---- all operands

  pub operands_again : (kinds : List Kind) (xs : Operands kinds) (rest : List (List ℕ)) → AllInRange known kinds xs →
      operands_at version known kinds (fields_of_operands kinds xs ++ rest) ≡ Ok (xs, rest)
  operands_again [] xs rest all = refl
  operands_again (kind ∷ kinds) xs rest all =
      rw (operand_again kind xs.0 (fields_of_operands kinds xs.1 ++ rest) all.0, operands_again kinds xs.1 rest all.1)

  pub operands_ok : (kinds : List Kind) (fields : List (List ℕ)) (x : Operands kinds × List (List ℕ)) →
      operands_at version known kinds fields ≡ Ok x →
      AllInRange known kinds x.0 × (fields ≡ fields_of_operands kinds x.0 ++ x.1)
  operands_ok [] fields x is = grind arith
  operands_ok (kind ∷ kinds) fields x is =
      let one = bind_ok (operand_of version known kind fields) _ x is in
      let more = bind_ok (operands_at version known kinds one.0.1) _ x one.2 in
      let this = operand_ok kind fields one.0 one.1 in
      let rest = operands_ok kinds one.0.1 more.0 more.1 in
      let these = ap (λ fs. field_of kind one.0.0 ∷ fs) rest.1 in
      rw (← same_Ok ((one.0.0, more.0.0), more.0.1) x more.2) ((this.0, rest.0), this.1 ∙ these)

  pub operands_fields : (kinds : List Kind) (xs : Operands kinds) → AllInRange known kinds xs →
      AllByRecursion IsField (fields_of_operands kinds xs)
  operands_fields [] xs all = tt
  operands_fields (kind ∷ kinds) xs all = (operand_field kind xs.0 all.0, operands_fields kinds xs.1 all.1)

  -- ---- an operation of each form

  form_again : (o : Op) (rest : List (List ℕ)) → FitsLayout (layout_of known) o → HasValue o →
      form_at version known (shown o).form (fields_of_operands (shown o).form.kinds (shown o).operands ++ rest)
      ≡ Ok ((shown o).form.makes (shown o).operands, rest)
  unfolding form_at
  form_again o rest fits value =
      let s = shown o in
      let there = (fits_form known o).0 (fits, value) in
      rw ((met_is known s.form.needs valid).1 there.0, operands_again s.form.kinds s.operands rest there.1)

  -- what is read behind these words
  abbrev pub ReadsOp : Bool → List Word → List (List ℕ) → Op × List (List ℕ) → Type 0
  ReadsOp first words fields x = IsOp version known first x.0 × (map spelling words ++ fields ≡ fields_of_op x.0 ++ x.1)

  form_ok : (form : Form) (first : Bool) (words : List Word) (fields : List (List ℕ)) (x : Op × List (List ℕ)) →
      IsRow version first words form → form_at version known form fields ≡ Ok x →
      ReadsOp first words fields x
  unfolding form_at
  form_ok form first words fields x row is =
      let met = bind_ok (met_by (is_met known form.needs)) _ x is in
      let xs = bind_ok (operands_at version known form.kinds fields) _ x met.2 in
      let needs : is_met known form.needs ≡ true = grind arith in
      let these = operands_ok form.kinds fields xs.0 xs.1 in
      let there : FitsForm known (by form xs.0.0) = ((met_is known form.needs valid).0 needs, these.0) in
      let fits = (fits_form known (form.makes xs.0.0)).1 (rw (row.shows xs.0.0) there) in
      rw (← same_Ok (form.makes xs.0.0, xs.0.1) x xs.2) (
        search (fits, row.has xs.0.0, row.awaits xs.0.0, row.alone xs.0.0),
        ap (λ fs. map spelling words ++ fs) these.1 ∙ rw (row.writes xs.0.0, row.words_are, append_assoc),
      )

  -- ---- the fields of an operation

  word_field : (w : Word) → IsField (spelling w)
  word_field word.Tx = (omega arith, refl)
  word_field other = (omega arith, refl)

  words_fields : (ws : List Word) → AllByRecursion IsField (map spelling ws)
  words_fields [] = tt
  words_fields (w ∷ ws) = (word_field w, words_fields ws)

  pub op_fields : (o : Op) → FitsLayout (layout_of known) o → HasValue o → AllByRecursion IsField (fields_of_op o)
  op_fields o fits value =
      let s = shown o in
      rw (shown_fields o) (all_both IsField (map spelling s.form.words) (fields_of_operands s.form.kinds s.operands)
      (words_fields s.form.words) (operands_fields s.form.kinds s.operands ((fits_form known o).0 (fits, value)).1))

  -- ---- an operation is read as it was written

  pub op_again : (first : Bool) (rest : List (List ℕ)) (o : Op) → IsOp version known first o →
      op_at version known first (fields_of_op o ++ rest) ≡ Ok (o, rest)
  unfolding op_at await_at
  op_again first rest op.OrElse is = cc
  op_again first rest (op.Await (cond.Key which.Tree key)) is =
      rw (word_again version word.Await is.has, true_unless first is.awaits, word_again version word.Tree low)
      (form_again (op.Await (cond.Key which.Tree key)) rest is.fits is.value)
  op_again first rest (op.Await c) is =
      let words = (shown (op.Await c)).form.words in
      rw (word_again version word.Await is.has, true_unless first is.awaits, word_again version (chosen_word words) low)
      (form_again (op.Await c) rest is.fits is.value)
  op_again first rest o is =
      rw (word_again version (chosen_word (shown o).form.words) (omega arith)) (form_again o rest is.fits is.value)

  -- ---- and what is read was written

  row_ok : (form : Option Form) (first : Bool) (words : List Word) (w : Word) (fields : List (List ℕ))
      (x : Op × List (List ℕ)) → IfSome form (IsRow version first words) →
      of_form version known fields w form ≡ Ok x → ReadsOp first words fields x
  row_ok None first words w fields x row is = cc
  row_ok (Some form) first words w fields x row is = form_ok form first words fields x row is

  await_ok : (fields : List (List ℕ)) (x : Op × List (List ℕ)) → 3 ≤ version →
      await_at version known fields ≡ Ok x → ReadsOp true (word.Await ∷ []) fields x
  unfolding await_at
  await_ok [] x newest is = cc
  await_ok (field ∷ fields) x newest is = awaited_word (word_of version field) refl is
    where
      awaited_word : (w : Option Word) → word_of version field ≡ w → await_of version known fields w ≡ Ok x →
          ReadsOp true (word.Await ∷ []) (field ∷ fields) x
      awaited_word None named e = cc
      awaited_word (Some w) named e =
          rw (word_ok version field w named).1
          (row_ok (awaited_by w) true (word.Await ∷ w ∷ []) w fields x (awaited version w newest) e)

  -- what is read as an operation is one that may stand here, and its fields
  pub op_ok : (first : Bool) (fields : List (List ℕ)) (x : Op × List (List ℕ)) →
      op_at version known first fields ≡ Ok x → ReadsOp first [] fields x
  unfolding op_at
  op_ok first [] x is = cc
  op_ok first (field ∷ fields) x is = begun_word first (word_of version field) refl is
    where
      begun_word : (begins : Bool) (w : Option Word) → word_of version field ≡ w →
          op_of version known begins fields w ≡ Ok x → ReadsOp begins [] (field ∷ fields) x
      begun_word begins None named e = cc
      begun_word true (Some word.Await) named e =
          let word = word_ok version field word.Await named in rw word.1 (await_ok fields x word.0 e)
      begun_word false (Some word.Await) named e = cc
      begun_word begins (Some w) named e =
          let word = word_ok version field w named in
          rw word.1 (row_ok (begun_by w) begins (w ∷ []) w fields x (begun version begins w word.0) e)
