-- The text of a workload.
use Rattle.std.specs.Prelude.{ℕ, ◌+◌, ◌==◌, Bool, true, false, not, ◌&&◌, List, [], ◌∷◌}
use Rattle.std.specs.Prelude.{◌++◌, length, map, flat_map, codes, decimal, if◌then◌else◌}
use Rattle.dstm_model.specs.declared.op.Which.{Which}
use Rattle.dstm_model.specs.declared.op.Which.TheVariants as which
use Rattle.dstm_model.specs.declared.op.Op.{Op}
use Rattle.dstm_model.specs.declared.op.Op.TheVariants as op
use Rattle.dstm_model.specs.declared.layout.Layout.{Layout}
use Rattle.dstm_text.specs.Lines.{space, line_feed}
use Rattle.dstm_workload.specs.Words.{spelling}
use Rattle.dstm_workload.specs.Table.{Kind, Structure, Operand, Operands, Form, by_form}
use Rattle.dstm_workload.specs.declared.workload.Job.{Job}
use Rattle.dstm_workload.specs.declared.workload.Workload.{Workload}

-- ---- lines of fields

-- one space before each field
abbrev pub spaced : List (List ℕ) → List ℕ
spaced fields = flat_map (λ field. space ∷ field) fields

-- one space between fields
abbrev pub joined : List (List ℕ) → List ℕ
joined [] = []
joined (field ∷ fields) = field ++ spaced fields

abbrev pub lined : List (List (List ℕ)) → List ℕ
lined lines = flat_map (λ fields. joined fields ++ line_feed ∷ []) lines

-- ---- operations

abbrev pub structure_name : Which → List ℕ
structure_name which.List = codes "list"
structure_name which.Tree = codes "tree"

-- the field of an operand
abbrev pub field_of : (kind : Kind) → Operand kind → List ℕ
field_of Structure w = structure_name w
field_of kind n = decimal n

abbrev pub fields_of_operands : (kinds : List Kind) → Operands kinds → List (List ℕ)
fields_of_operands [] operands = []
fields_of_operands (kind ∷ kinds) operands = field_of kind operands.0 ∷ fields_of_operands kinds operands.1

-- the words of a form, and its operands
abbrev pub written : (form : Form) → Operands form.kinds → List (List ℕ)
written form operands = map spelling form.words ++ fields_of_operands form.kinds operands

abbrev pub fields_of_op : Op → List (List ℕ)
fields_of_op o = by_form written o

abbrev pub is_orelse : Op → Bool
is_orelse op.OrElse = true
is_orelse o = false

-- a semicolon stands between two operations, and none beside an `orelse`; `behind` says that an
-- operation other than `orelse` stands before
abbrev pub semicolon : Bool → Op → List (List ℕ)
semicolon behind o = if behind && not (is_orelse o) then codes ";" ∷ [] else []

abbrev pub fields_of_ops : Bool → List Op → List (List ℕ)
fields_of_ops behind [] = []
fields_of_ops behind (o ∷ ops) =
    semicolon behind o ++ (fields_of_op o ++ fields_of_ops (not (is_orelse o)) ops)

-- ---- the text

abbrev pub fields_of_job : Job → List (List ℕ)
fields_of_job job = codes "tx" ∷ decimal job.worker ∷ fields_of_ops false job.ops

-- the declaration of a structure, where it is declared
abbrev pub where_some : ℕ → List (List ℕ) → List (List (List ℕ))
where_some size fields = if size == 0 then [] else fields ∷ []

abbrev pub declarations : Layout → List (List (List ℕ))
declarations layout =
    where_some layout.accounts (codes "bank" ∷ decimal layout.accounts ∷ decimal layout.opening ∷ [])
    ++ (where_some layout.list (codes "list" ∷ decimal layout.list ∷ [])
    ++ where_some layout.tree (codes "tree" ∷ decimal layout.tree ∷ []))

abbrev pub head_of : Workload → List (List (List ℕ))
head_of workload =
    (codes "dstm" ∷ decimal workload.version ∷ []) ∷ (codes "workers" ∷ decimal workload.workers ∷ []) ∷
    declarations workload.layout

abbrev pub text_of_workload : Workload → List ℕ
text_of_workload workload = lined (head_of workload) ++ lined (map fields_of_job workload.jobs)

-- ---- what is read from it

-- jobs on lines one after the other
abbrev pub renumbered : ℕ → List Job → List Job
renumbered line [] = []
renumbered line (job ∷ jobs) = record job { line = line } ∷ renumbered (line + 1) jobs

-- the workload, with the lines of its text
abbrev pub as_written : Workload → Workload
as_written workload = record workload { jobs = renumbered (length (head_of workload) + 1) workload.jobs }
