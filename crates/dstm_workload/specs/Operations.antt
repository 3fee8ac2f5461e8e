-- The operations of a transaction, read from the left.
use Rattle.std.specs.Prelude.{ℕ, zero, suc, ◌<◌, ◌+◌, Bool, true, false, nat_lt, List}
use Rattle.std.specs.Prelude.{[], ◌∷◌, ◌++◌, length, Option, Some, None, Result, Ok, Err, if◌then◌else◌}
use Rattle.dstm_model.specs.declared.op.Which.{Which}
use Rattle.dstm_model.specs.declared.op.Which.TheVariants as which
use Rattle.dstm_model.specs.declared.op.Op.{Op}
use Rattle.dstm_model.specs.declared.op.Op.TheVariants as op
use Rattle.dstm_workload.specs.declared.refused.Why.{Why}
use Rattle.dstm_workload.specs.declared.refused.Why.TheVariants.{Unknown, Missing, Extra, TooMany}
use Rattle.dstm_workload.specs.declared.word.Word.{Word}
use Rattle.dstm_workload.specs.declared.word.Word.TheVariants as word
use Rattle.dstm_workload.specs.declared.known.Known.{Known}
use Rattle.dstm_workload.specs.declared.operations.Separator.{Separator}
use Rattle.dstm_workload.specs.declared.operations.Separator.TheVariants as separator
use Rattle.dstm_workload.specs.Words.{word_of}
use Rattle.dstm_text.specs.Results.{◌>>=◌}
use Rattle.dstm_workload.specs.Fields.{number_at, operand_at, declared, met_by}
use Rattle.dstm_workload.specs.Table.{Kind, Structure, Operand, Operands, least, most, is_of_operation, is_met, Form, begun_by, awaited_by}

-- ---- operands

-- the name of a structure, which has to be declared
abbrev pub structure_of : Known → List (List ℕ) → Option Word → Result (Which × List (List ℕ)) Why
structure_of known fields (Some word.List) = do
  nodes ← declared known.list
  Ok (which.List, fields)
structure_of known fields (Some word.Tree) = do
  nodes ← declared known.tree
  Ok (which.Tree, fields)
structure_of known fields (Some word.Semicolon) = Err Missing
structure_of known fields (Some other) = Err Unknown
structure_of known fields None = Err Unknown

unfoldable pub structure_at : ℕ → Known → List (List ℕ) → Result (Which × List (List ℕ)) Why
structure_at version known [] = Err Missing
structure_at version known (field ∷ fields) = structure_of known fields (word_of version field)

-- an operand of this kind
abbrev pub operand_of : ℕ → Known → (kind : Kind) → List (List ℕ) → Result (Operand kind × List (List ℕ)) Why
operand_of version known Structure fields = structure_at version known fields
operand_of version known kind fields =
    if is_of_operation kind then operand_at (least kind) (most known kind) fields
    else number_at (least kind) (most known kind) fields

-- operands of these kinds
abbrev pub operands_at : ℕ → Known → (kinds : List Kind) → List (List ℕ) →
    Result (Operands kinds × List (List ℕ)) Why
operands_at version known [] fields = Ok (tt, fields)
operands_at version known (kind ∷ kinds) fields = do
  operand ← operand_of version known kind fields
  more ← operands_at version known kinds operand.1
  Ok ((operand.0, more.0), more.1)

-- ---- operations

-- what stands behind the words of a form
unfoldable pub form_at : ℕ → Known → Form → List (List ℕ) → Result (Op × List (List ℕ)) Why
form_at version known form fields = do
  met ← met_by (is_met known form.needs)
  operands ← operands_at version known form.kinds fields
  Ok (form.makes operands.0, operands.1)

-- why a word begins nothing where an operation or a condition is due
abbrev pub misplaced : Word → Why
misplaced word.Semicolon = Missing
misplaced word.OrElse = Missing
misplaced other = Unknown

abbrev pub of_form : ℕ → Known → List (List ℕ) → Word → Option Form → Result (Op × List (List ℕ)) Why
of_form version known fields w (Some form) = form_at version known form fields
of_form version known fields w None = Err (misplaced w)

-- what is awaited
abbrev pub await_of : ℕ → Known → List (List ℕ) → Option Word → Result (Op × List (List ℕ)) Why
await_of version known fields None = Err Unknown
await_of version known fields (Some w) = of_form version known fields w (awaited_by w)

unfoldable pub await_at : ℕ → Known → List (List ℕ) → Result (Op × List (List ℕ)) Why
await_at version known [] = Err Missing
await_at version known (field ∷ fields) = await_of version known fields (word_of version field)

-- the operation that a word begins; first says that it begins a branch
abbrev pub op_of : ℕ → Known → Bool → List (List ℕ) → Option Word → Result (Op × List (List ℕ)) Why
op_of version known first fields None = Err Unknown
op_of version known first fields (Some word.Await) =
    if first then await_at version known fields else Err Unknown
op_of version known first fields (Some w) = of_form version known fields w (begun_by w)

-- an operation is due
unfoldable pub op_at : ℕ → Known → Bool → List (List ℕ) → Result (Op × List (List ℕ)) Why
op_at version known first [] = Err Missing
op_at version known first (field ∷ fields) = op_of version known first fields (word_of version field)

-- ---- behind an operation, with which there are so many

abbrev pub next_of : ℕ → List (List ℕ) → Option Word → Result (Separator × List (List ℕ)) Why
next_of done fields (Some word.Semicolon) =
    if nat_lt done 8 then Ok (separator.Then, fields) else Err TooMany
next_of done fields (Some word.OrElse) =
    if nat_lt (done + 1) 8 then Ok (separator.OrElse, fields) else Err TooMany
next_of done fields (Some other) = Err Extra
next_of done fields None = Err Extra

-- there is room for what a separator brings
abbrev pub HasRoom : ℕ → Separator → Type 0
HasRoom done separator.End = Unit {0}
HasRoom done separator.Then = done < 8
HasRoom done separator.OrElse = done + 1 < 8

unfoldable pub next_at : ℕ → ℕ → List (List ℕ) → Result (Separator × List (List ℕ)) Why
next_at version done [] = Ok (separator.End, [])
next_at version done (field ∷ fields) = next_of done fields (word_of version field)

-- operations from a place where one is due, behind those that were read. At most `left` operations are looked
-- at, `orelse` aside: 8 are enough, since none is due behind the eighth
unfoldable pub ops_from : ℕ → Known → ℕ → List Op → Bool → List (List ℕ) → Result (List Op) Why
ops_from version known zero ops first fields = Err TooMany
ops_from version known (suc left) ops first fields = do
  o ← op_at version known first fields
  n ← next_at version (length (ops ++ o.0 ∷ [])) o.1
  elim n.0 [
    | separator.End ↦ Ok (ops ++ o.0 ∷ [])
    | separator.Then ↦ ops_from version known left (ops ++ o.0 ∷ []) false n.1
    | separator.OrElse ↦ ops_from version known left ((ops ++ o.0 ∷ []) ++ op.OrElse ∷ []) true n.1
  ]

-- the operations of a transaction
abbrev pub ops_at : ℕ → Known → List (List ℕ) → Result (List Op) Why
ops_at version known fields = ops_from version known 8 [] true fields
