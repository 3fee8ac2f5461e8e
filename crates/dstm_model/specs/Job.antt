-- Jobs: operations in order, in branches of which the first open one is taken.
use Rattle.std.specs.Prelude.{◌≡◌, ℕ, Bool, true, false, nat_le, List, [], ◌∷◌, take, Option, Some, None, IsSomeAnd}
use Rattle.std.specs.List.{find}
use Rattle.dstm_model.specs.declared.op.Cond.{Cond}
use Rattle.dstm_model.specs.declared.op.Cond.TheVariants as cond
use Rattle.dstm_model.specs.declared.op.Op.{Op}
use Rattle.dstm_model.specs.declared.op.Op.TheVariants.{Await, OrElse}
use Rattle.dstm_model.specs.declared.reply.Reply.{Reply}
use Rattle.dstm_model.specs.Store.{Store, apply, balance_of, is_member}

-- the replies of operations that are applied one after the other, and the store after them
pub record JobOutcome : Type 0 where
  pub replies : List Reply
  pub store : Store

abbrev pub apply_all : List Op → Store → JobOutcome
apply_all [] store = record { replies = []; store = store }
apply_all (op ∷ ops) store =
    let rest = apply_all ops (apply op store).store in
    record { replies = (apply op store).reply ∷ rest.replies; store = rest.store }

-- an operation put in front of the first branch
abbrev pub onto_first : Op → List (List Op) → List (List Op)
onto_first op [] = (op ∷ []) ∷ []
onto_first op (branch ∷ branches) = (op ∷ branch) ∷ branches

-- the branches of a job: the pieces between its separators
abbrev pub branches_of : List Op → List (List Op)
branches_of [] = [] ∷ []
branches_of (OrElse ∷ ops) = [] ∷ branches_of ops
branches_of (op ∷ ops) = onto_first op (branches_of ops)

-- the branches of what follows a separator, if there is one
abbrev pub branches_left : Option (List Op) → List (List Op)
branches_left None = []
branches_left (Some ops) = branches_of ops

abbrev pub is_separator : Op → Bool
is_separator OrElse = true
is_separator op = false

abbrev pub holds_in : Cond → Store → Bool
holds_in (cond.Balance account least) store = nat_le least (balance_of account store)
holds_in (cond.Key w key) store = is_member w key store

-- a branch is open if it does not begin with a condition, or with one that holds
abbrev pub is_open : Store → List Op → Bool
is_open store (Await c ∷ ops) = holds_in c store
is_open store ops = true

-- the branch that is taken: the first open one
abbrev pub open_branch : List Op → Store → Option (List Op)
open_branch ops store = find (is_open store) (branches_of ops)

-- what a job does: what its first open branch does, or nothing where it is blocked
abbrev pub run_branch : Option (List Op) → Store → Option JobOutcome
run_branch None store = None
run_branch (Some ops) store = Some (apply_all ops store)

abbrev pub apply_job : List Op → Store → Option JobOutcome
apply_job ops store = run_branch (open_branch ops store) store

-- the store after is what some of these operations leave, from the first on
abbrev pub AppliesSome : List Op → Store → Store → Type 0
AppliesSome ops before after = (k : ℕ) × (after ≡ (apply_all (take k ops) before).store)

-- the store after is what some operations of the branch that is taken leave
abbrev pub AppliesSomeOfBranch : List Op → Store → Store → Type 0
AppliesSomeOfBranch ops before after = IsSomeAnd (open_branch ops before) (λ branch. AppliesSome branch before after)
