-- A version can hold a report that is lawful for a valid workload.
use Rattle.std.proofs.Common.{◌≡◌, ℕ, suc, ◌*◌, ◌<◌, ◌≤◌, Bool, true, false, cond, eqb, List, [], ◌∷◌, ◌++◌}
use Rattle.std.proofs.Common.{length, sum, map, Option, Some, None, refl, ap, sym, subst, ◌∙◌, arith}
use Rattle.std.proofs.Common.{Ordering, Less, Equal, Greater}
use Rattle.std.proofs.Common.{get_or, not}
use Rattle.std.proofs.Math.Nat.{mul-le-mul}
use Rattle.std.specs.Prelude.{IfSome, nat_lt, is_some}
use Rattle.std.specs.Ordering.{match_ordering, nat_cmp}
use Rattle.std.specs.List.{All, AllByRecursion, find}
use Rattle.std.specs.BTreeMap.{is_at}
use Rattle.std.proofs.lemmas.Bool.{cond_both}
use Rattle.std.proofs.lemmas.List.{length-replicate}
use Rattle.std.proofs.lemmas.List.Elements.{recursion_from_All, All-from_recursion, All-cons, All-nil}
use Rattle.std.proofs.lemmas.List.Folds.{sum_by-replicate}
use Rattle.std.proofs.lemmas.List.Sums.{get_or-le-sum_by}
use Rattle.std.proofs.lemmas.Option.{none-some}
use Rattle.dstm_model.specs.declared.layout.Layout.{Layout}
use Rattle.dstm_model.specs.declared.op.Which.TheVariants as which
use Rattle.dstm_model.specs.declared.op.Op.{Op}
use Rattle.dstm_model.specs.declared.op.Op.TheVariants.{Transfer, Balance, Total, Insert, Remove, Member, Put, Get, Await, OrElse}
use Rattle.dstm_model.specs.declared.reply.Reply.{Reply}
use Rattle.dstm_model.specs.declared.reply.Reply.TheVariants.{Moved, Poor, Yes, No, Full, Never}
use Rattle.dstm_model.specs.Layout.{FitsLayout}
use Rattle.dstm_model.specs.Store.{Store, Outcome, opening_store, apply, answer, balance_of, has_key, with_key}
use Rattle.dstm_model.specs.Store.{without_key, value_of, with_item, without_item, debit, credit, item_of}
use Rattle.dstm_model.specs.Store.{yes_or_no, is_member, value_reply}
use Rattle.dstm_model.specs.Job.{JobOutcome, apply_all, apply_job, run_branch, open_branch, branches_of, onto_first, is_open}
use Rattle.dstm_model.proofs.Applying.{length-apply_all}
use Rattle.dstm_workload.specs.declared.workload.Job.{Job}
use Rattle.dstm_workload.specs.declared.workload.Workload.{Workload}
use Rattle.dstm_workload.specs.Workload.{IsValidWorkload, IsJob, HasOp, HasValue, IsBranch}
use Rattle.dstm_report.specs.declared.draft.TheConstants.{MAX_NUMBER}
use Rattle.dstm_report.specs.declared.report.Row.{Row}
use Rattle.dstm_report.specs.declared.report.Report.{Report}
use Rattle.dstm_report.specs.Lawful.{IsLawful, IsGoodRow, RowsAreGood, AnswersWhere, declared_as, jobs_left}
use Rattle.dstm_report.specs.Lawful.{after_rows, after_job, store_left, store_after, is_named}
use Rattle.dstm_report.specs.Reading.{HasReply, HasRow, HasItem, IsNumber, IsHeld, FitsRow}
use Rattle.dstm_report.proofs.Rising.{found_holds, each-filter, first_own, first_holds}
use Rattle.dstm_report.proofs.Totals.{Holds, keeps}

-- ---- operations of a version

-- what a valid workload says of an operation
record IsOp (version : ℕ) (layout : Layout) (op : Op) : Type 0 where
  fits : FitsLayout layout op
  known : HasOp version op
  small : HasValue op

-- ---- what a store holds

-- a key and its value
abbrev HasPair : ℕ → ℕ × ℕ → Type 0
HasPair version pair = HasItem version (item_of pair)

record IsSmall (version : ℕ) (layout : Layout) (total : ℕ) (store : Store) : Type 0 where
  bank : Holds layout total store
  keys : AllByRecursion IsNumber store.keys
  items : AllByRecursion (HasPair version) store.items

one_of : {X : Type 0} (o : Ordering) (P : X → Type 0) (a b c : X) → P a → P b → P c → P (match_ordering o a b c)
one_of Less P a b c first second third = first
one_of Equal P a b c first second third = second
one_of Greater P a b c first second third = third

keys_with : (key : ℕ) (keys : List ℕ) → IsNumber key → AllByRecursion IsNumber keys →
    AllByRecursion IsNumber (with_key key keys)
keys_with key [] small all = (small, tt)
keys_with key (k ∷ keys) small all =
    one_of (nat_cmp key k) (AllByRecursion IsNumber) (key ∷ k ∷ keys) (k ∷ keys) (k ∷ with_key key keys) (small, all) all
    (all.0, keys_with key keys small all.1)

keys_without : (key : ℕ) (keys : List ℕ) → AllByRecursion IsNumber keys → AllByRecursion IsNumber (without_key key keys)
keys_without key [] all = tt
keys_without key (k ∷ keys) all =
    cond_both (is_at (nat_cmp key) k) keys (k ∷ without_key key keys) (AllByRecursion IsNumber) (λ _. all.1)
    (λ _. (all.0, keys_without key keys all.1))

items_with : (version key value : ℕ) (items : List (ℕ × ℕ)) → HasPair version (key, value) →
    AllByRecursion (HasPair version) items → AllByRecursion (HasPair version) (with_item key value items)
items_with version key value [] small all = (small, tt)
items_with version key value (e ∷ items) small all =
    let Has : List (ℕ × ℕ) → Type 0 = AllByRecursion (HasPair version) in
    let changed : HasPair version (e.0, value) =
    record { key = all.0.key; value = small.value; keys_alone = small.keys_alone } in
    one_of (nat_cmp key e.0) Has ((key, value) ∷ e ∷ items) ((e.0, value) ∷ items) (e ∷ with_item key value items)
    (small, all) (changed, all.1) (all.0, items_with version key value items small all.1)

items_without : (version key : ℕ) (items : List (ℕ × ℕ)) → AllByRecursion (HasPair version) items →
    AllByRecursion (HasPair version) (without_item key items)
items_without version key [] all = tt
items_without version key (e ∷ items) all =
    cond_both (is_at (nat_cmp key) e.0) items (e ∷ without_item key items) (AllByRecursion (HasPair version))
    (λ _. all.1) (λ _. (all.0, items_without version key items all.1))

value_small : (version key : ℕ) (items : List (ℕ × ℕ)) → AllByRecursion (HasPair version) items →
    IfSome (value_of key items) IsNumber
value_small version key [] all = tt
value_small version key (e ∷ items) all =
    cond_both (is_at (nat_cmp key) e.0) (Some e.1) (value_of key items) (λ o. IfSome o IsNumber) (λ _. all.0.value)
    (λ _. value_small version key items all.1)

balance_small : (balances : List ℕ) (account : ℕ) → account < length balances → get_or balances account 0 ≤ sum balances
balance_small balances account lt = get_or-le-sum_by (λ (n : ℕ). n) balances account 0 lt

-- ---- what an operation answers and leaves

-- its reply and the store after it are the version's
record IsHeldOutcome (version : ℕ) (layout : Layout) (total : ℕ) (outcome : Outcome) : Type 0 where
  reply : HasReply version outcome.reply
  keys : AllByRecursion IsNumber outcome.store.keys
  items : AllByRecursion (HasPair version) outcome.store.items

yes_or_no_held : (version : ℕ) (b : Bool) → HasReply version (yes_or_no b)
yes_or_no_held version b = cond_both b Yes No (HasReply version) (λ _. tt) (λ _. tt)

held_op : (version : ℕ) (layout : Layout) (total : ℕ) (op : Op) (store : Store) → total ≤ MAX_NUMBER →
    IsOp version layout op → IsSmall version layout total store → IsHeldOutcome version layout total (apply op store)
held_op version layout total (Transfer s t x) store range is small =
    let Held : Outcome → Type 0 = IsHeldOutcome version layout total in
    let paid : Outcome = answer Moved (record store { balances = credit t x (debit s x store.balances) }) in
    cond_both (nat_lt (balance_of s store) x) (answer Poor store) paid Held
    (λ _. record { reply = tt; keys = small.keys; items = small.items })
    (λ _. record { reply = tt; keys = small.keys; items = small.items })
held_op version layout total (Balance a) store range is small =
    let within = balance_small store.balances a (omega (arith, is.fits, small.bank.accounts)) in
    record {
      reply = omega (arith, within, small.bank.total_is, range);
      keys = small.keys;
      items = small.items;
    }
held_op version layout total Total store range is small = record {
  reply = omega (arith, small.bank.total_is, range);
  keys = small.keys;
  items = small.items;
}
held_op version layout total (Insert which.List key) store range is small =
    let Held : Outcome → Type 0 = IsHeldOutcome version layout total in
    let after : Outcome = answer Yes (record store { keys = with_key key store.keys }) in
    cond_both (has_key key store.keys) (answer No store)
    (cond (eqb (length store.keys) store.layout.list) (answer Full store) after) Held
    (λ _. record { reply = tt; keys = small.keys; items = small.items })
    (λ _. cond_both (eqb (length store.keys) store.layout.list) (answer Full store) after Held
    (λ _. record { reply = tt; keys = small.keys; items = small.items }) (λ _. record {
      reply = tt;
      keys = keys_with key store.keys (omega (arith, is.fits.1)) small.keys;
      items = small.items;
    }))
held_op version layout total (Insert which.Tree key) store range is small =
    let Held : Outcome → Type 0 = IsHeldOutcome version layout total in
    let after : Outcome = answer Yes (record store { items = with_item key 0 store.items }) in
    let pair : HasPair version (key, 0) =
    record { key = omega (arith, is.fits.1); value = omega arith; keys_alone = λ _. refl } in
    cond_both (is_some (value_of key store.items)) (answer No store)
    (cond (eqb (length store.items) store.layout.tree) (answer Full store) after) Held
    (λ _. record { reply = tt; keys = small.keys; items = small.items })
    (λ _. cond_both (eqb (length store.items) store.layout.tree) (answer Full store) after Held
    (λ _. record { reply = tt; keys = small.keys; items = small.items }) (λ _. record {
      reply = tt;
      keys = small.keys;
      items = items_with version key 0 store.items pair small.items;
    }))
held_op version layout total (Remove which.List key) store range is small = record {
  reply = yes_or_no_held version (has_key key store.keys);
  keys = keys_without key store.keys small.keys;
  items = small.items;
}
held_op version layout total (Remove which.Tree key) store range is small = record {
  reply = yes_or_no_held version (is_some (value_of key store.items));
  keys = small.keys;
  items = items_without version key store.items small.items;
}
held_op version layout total (Member w key) store range is small = record {
  reply = yes_or_no_held version (is_member w key store);
  keys = small.keys;
  items = small.items;
}
held_op version layout total (Put key value) store range is small =
    let Held : Outcome → Type 0 = IsHeldOutcome version layout total in
    let after : Store = record store { items = with_item key value store.items } in
    let pair : HasPair version (key, value) = record {
      key = omega (arith, is.fits.1);
      value = omega (arith, is.small);
      keys_alone = λ one. absurd (omega (arith, one, is.known));
    } in
    let put = items_with version key value store.items pair small.items in
    cond_both (is_some (value_of key store.items)) (answer No after)
    (cond (eqb (length store.items) store.layout.tree) (answer Full store) (answer Yes after)) Held
    (λ _. record { reply = tt; keys = small.keys; items = put })
    (λ _. cond_both (eqb (length store.items) store.layout.tree) (answer Full store) (answer Yes after) Held
    (λ _. record { reply = tt; keys = small.keys; items = small.items })
    (λ _. record { reply = tt; keys = small.keys; items = put }))
held_op version layout total (Get key) store range is small = record {
  reply = told (value_of key store.items) (value_small version key store.items small.items);
  keys = small.keys;
  items = small.items;
}
  where
    told : (o : Option ℕ) → IfSome o IsNumber → HasReply version (value_reply o)
    told None has = is.known
    told (Some value) has = has
held_op version layout total (Await c) store range is small =
    record { reply = tt; keys = small.keys; items = small.items }
held_op version layout total OrElse store range is small =
    record { reply = tt; keys = small.keys; items = small.items }

-- ---- operations one after the other

record IsHeldJob (version : ℕ) (layout : Layout) (total : ℕ) (outcome : JobOutcome) : Type 0 where
  replies : AllByRecursion (HasReply version) outcome.replies
  store : IsSmall version layout total outcome.store

held_all : {version : ℕ} {layout : Layout} {total : ℕ} (ops : List Op) {store : Store} → total ≤ MAX_NUMBER →
    AllByRecursion (IsOp version layout) ops → IsSmall version layout total store →
    IsHeldJob version layout total (apply_all ops store)
held_all [] {store = store} range are small = record { replies = tt; store = small }
held_all {version = version} {layout = layout} {total = total} (op ∷ ops) {store = store} range are small =
    let one = held_op version layout total op store range are.0 small in
    let after : IsSmall version layout total (apply op store).store = record {
      bank = keeps op are.0.fits small.bank;
      keys = one.keys;
      items = one.items;
    } in
    let rest = held_all ops range are.1 after in
    record { replies = (one.reply, rest.replies); store = rest.store }

-- ---- branches

-- the operations of a branch, of which there are so many at most
record IsShort (version : ℕ) (layout : Layout) (most : ℕ) (branch : List Op) : Type 0 where
  ops : AllByRecursion (IsOp version layout) branch
  few : length branch ≤ most

longer : (version : ℕ) (layout : Layout) (most : ℕ) (branches : List (List Op)) →
    AllByRecursion (IsShort version layout most) branches → AllByRecursion (IsShort version layout (suc most)) branches
longer version layout most [] are = tt
longer version layout most (branch ∷ branches) are =
    (record { ops = are.0.ops; few = omega (arith, are.0.few) }, longer version layout most branches are.1)

onto_short : {version : ℕ} {layout : Layout} (most : ℕ) {op : Op} (branches : List (List Op)) →
    IsOp version layout op → AllByRecursion (IsShort version layout most) branches →
    AllByRecursion (IsShort version layout (suc most)) (onto_first op branches)
onto_short most [] is are = (record { ops = (is, tt); few = omega arith }, tt)
onto_short {version = version} {layout = layout} most (branch ∷ branches) is are = (
  record { ops = (is, are.0.ops); few = omega (arith, are.0.few) },
  longer version layout most branches are.1,
)

branches_short : (version : ℕ) (layout : Layout) (ops : List Op) → AllByRecursion (IsOp version layout) ops →
    AllByRecursion (IsShort version layout (length ops)) (branches_of ops)
branches_short version layout [] are = (record { ops = tt; few = omega arith }, tt)
branches_short version layout (OrElse ∷ ops) are = (
  record { ops = tt; few = omega arith },
  longer version layout (length ops) (branches_of ops) (branches_short version layout ops are.1),
)
branches_short version layout (op ∷ ops) are =
    onto_short (length ops) (branches_of ops) are.0 (branches_short version layout ops are.1)

branch_some : (branch : List Op) → IsBranch branch → 1 ≤ length branch
branch_some [] is = absurd is
branch_some (op ∷ ops) is = omega arith

first_branch : (ops : List Op) →
    (branch : List Op) × (branches : List (List Op)) × (branches_of ops ≡ branch ∷ branches)
first_branch [] = ([], [], refl)
first_branch (OrElse ∷ ops) = ([], branches_of ops, refl)
first_branch (op ∷ ops) = onto (branches_of ops)
  where
    onto : (branches : List (List Op)) →
        (first : List Op) × (rest : List (List Op)) × (onto_first op branches ≡ first ∷ rest)
    onto [] = (op ∷ [], [], refl)
    onto (branch ∷ branches) = (op ∷ branch, branches, refl)

-- a branch that is not open begins with a condition
shut_awaits : (version : ℕ) (layout : Layout) (store : Store) (branch : List Op) →
    AllByRecursion (IsOp version layout) branch → is_open store branch ≡ false → 3 ≤ version
shut_awaits version layout store [] are shut = absurd (let no : ⊥ = cc in no)
shut_awaits version layout store (Await c ∷ ops) are shut = are.0.known
shut_awaits version layout store (op ∷ ops) are shut = absurd (let no : ⊥ = cc in no)

none_first : {X : Type 0} (p : X → Bool) (x : X) (xs : List X) → find p (x ∷ xs) ≡ None → p x ≡ false
none_first {X} p x xs is = go (p x) refl is
  where
    go : (b : Bool) → p x ≡ b → cond b (Some x) (find p xs) ≡ None → p x ≡ false
    go true here none = absurd (none-some x (sym none))
    go false here none = here

blocked_awaits : (version : ℕ) (layout : Layout) (ops : List Op) (store : Store) →
    AllByRecursion (IsOp version layout) ops → open_branch ops store ≡ None → 3 ≤ version
blocked_awaits version layout ops store are blocked =
    let first = first_branch ops in
    let short = subst (AllByRecursion (IsShort version layout (length ops))) first.2
    (branches_short version layout ops are) in
    shut_awaits version layout store first.0 short.0.ops (none_first (is_open store) first.0 first.1
    (ap (find (is_open store)) (sym first.2) ∙ blocked))

-- ---- jobs

jobs_ops : {workload : Workload} {job : Job} → IsJob workload job →
    AllByRecursion (IsOp workload.version workload.layout) job.ops
jobs_ops {workload = workload} {job = job} is =
    recursion_from_All (IsOp workload.version workload.layout) job.ops
    (λ k d lt. record { fits = is.fits k d lt; known = is.version k d lt; small = is.values k d lt })

-- what a job leaves
left_small : {version : ℕ} {layout : Layout} {total : ℕ} (branch : Option (List Op)) {store : Store} →
    total ≤ MAX_NUMBER → IfSome branch (AllByRecursion (IsOp version layout)) → IsSmall version layout total store →
    IsSmall version layout total (store_left (run_branch branch store) store)
left_small None range are small = small
left_small {version = version} {layout = layout} {total = total} (Some ops) {store = store} range are small =
    (held_all ops range are small).store

-- the branch that is taken
taken : (version : ℕ) (layout : Layout) (ops : List Op) (store : Store) → AllByRecursion (IsOp version layout) ops →
    IfSome (open_branch ops store) (IsShort version layout (length ops))
taken version layout ops store are =
    found_holds (IsShort version layout (length ops)) (is_open store) (branches_of ops)
    (branches_short version layout ops are)

some_ops : (version : ℕ) (layout : Layout) (most : ℕ) (branch : Option (List Op)) →
    IfSome branch (IsShort version layout most) → IfSome branch (AllByRecursion (IsOp version layout))
some_ops version layout most None is = tt
some_ops version layout most (Some branch) is = is.ops

job_small : (workload : Workload) {total : ℕ} (job : Option Job) {store : Store} → total ≤ MAX_NUMBER →
    IfSome job (IsJob workload) → IsSmall workload.version workload.layout total store →
    IsSmall workload.version workload.layout total (after_job job store)
job_small workload None range is small = small
job_small workload {total = total} (Some job) {store = store} range is small =
    let version = workload.version in
    let layout = workload.layout in
    left_small (open_branch job.ops store) range (some_ops version layout (length job.ops) (open_branch job.ops store)
    (taken version layout job.ops store (jobs_ops is))) small

rows_small : (workload : Workload) {total : ℕ} (rows : List Row) {store : Store} → total ≤ MAX_NUMBER →
    AllByRecursion (IsJob workload) workload.jobs → IsSmall workload.version workload.layout total store →
    IsSmall workload.version workload.layout total (after_rows workload.jobs rows store)
rows_small workload [] range each small = small
rows_small workload {total = total} (row ∷ rows) {store = store} range each small =
    let job = find (λ j. eqb j.line row.line) workload.jobs in
    rows_small workload rows range each
    (job_small workload job range (found_holds (IsJob workload) (λ j. eqb j.line row.line) workload.jobs each) small)

-- the balances of a valid workload
abbrev total_of : Workload → ℕ
total_of workload = workload.layout.accounts * workload.layout.opening

total_small : {workload : Workload} → IsValidWorkload workload → total_of workload ≤ MAX_NUMBER
total_small {workload = workload} valid =
    let product : workload.layout.accounts * workload.layout.opening ≤ 4096 * 1000000000 =
    mul-le-mul valid.layout.accounts valid.layout.opening in
    omega (arith, product)

store_small : {workload : Workload} (rows : List Row) → IsValidWorkload workload →
    IsSmall workload.version workload.layout (total_of workload) (store_after workload rows)
store_small {workload = workload} rows valid =
    let layout = workload.layout in
    let opened : IsSmall workload.version layout (total_of workload) (opening_store layout) = record {
      bank = record {
        layout_is = refl;
        accounts = length-replicate layout.accounts layout.opening;
        total_is = sum_by-replicate (λ (x : ℕ). x) layout.accounts layout.opening;
      };
      keys = tt;
      items = tt;
    } in
    rows_small workload rows (total_small valid) (recursion_from_All (IsJob workload) workload.jobs valid.each) opened

-- ---- rows

-- the replies of a row, as a version has them
record AreHeldReplies (version : ℕ) (replies : List Reply) : Type 0 where
  some : 1 ≤ length replies
  few : length replies ≤ 8
  each : All (HasReply version) replies

answers_held : {workload : Workload} {total : ℕ} (Stuck : Type 0) {job : Job} {store : Store} (replies : List Reply) →
    total ≤ MAX_NUMBER → IsJob workload job → IsSmall workload.version workload.layout total store →
    AnswersWhere Stuck (apply_job job.ops store) replies → AreHeldReplies workload.version replies
answers_held {workload = workload} {total = total} Stuck {job = job} {store = store} replies range is small answers =
    go (open_branch job.ops store) refl answers
  where
    go : (branch : Option (List Op)) → open_branch job.ops store ≡ branch →
        AnswersWhere Stuck (run_branch branch store) replies → AreHeldReplies workload.version replies
    go None blocked told =
        let newest = blocked_awaits workload.version workload.layout job.ops store (jobs_ops is) blocked in
        subst (AreHeldReplies workload.version) (sym told.0) (record {
          some = omega arith;
          few = omega arith;
          each = All-cons (HasReply workload.version) Never [] newest (All-nil (HasReply workload.version));
        })
    go (Some ops) is_taken told =
        let version = workload.version in
        let layout = workload.layout in
        let short = subst (λ (o : Option (List Op)). IfSome o (IsShort version layout (length job.ops))) is_taken
        (taken version layout job.ops store (jobs_ops is)) in
        let branch = subst (λ (o : Option (List Op)). IfSome o IsBranch) is_taken
        (found_holds IsBranch (is_open store) (branches_of job.ops)
        (recursion_from_All IsBranch (branches_of job.ops) is.branches)) in
        let held = held_all ops range short.ops small in
        let count = length-apply_all ops store in
        subst (AreHeldReplies version) (sym told) (record {
          some = omega (arith, count, branch_some ops branch);
          few = omega (arith, count, short.few, is.few);
          each = All-from_recursion (HasReply version) (apply_all ops store).replies held.replies;
        })

row_held : {workload : Workload} {before : List Row} {row : Row} → IsValidWorkload workload → FitsRow row →
    IsGoodRow workload before row → HasRow workload.version row
row_held {workload = workload} {before = before} {row = row} valid fits good =
    let left = jobs_left workload.jobs before in
    let each = All-from_recursion (IsJob workload) left
    (each-filter (IsJob workload) (λ j. not (is_named before j)) workload.jobs
    (recursion_from_All (IsJob workload) workload.jobs valid.each)) in
    let is = first_holds (IsJob workload) row.worker left good.job each good.turn in
    let own = first_own row.worker left good.job good.turn in
    let held = answers_held _ row.replies (total_small valid) is (store_small before valid) good.replies in
    record {
      line = omega (arith, fits.line);
      worker = omega (arith, own, is.worker, valid.workers);
      round = omega (arith, fits.round);
      number = omega (arith, fits.number);
      some = held.some;
      few = held.few;
      replies = held.each;
    }

rows_held : {workload : Workload} (before rows : List Row) → IsValidWorkload workload → AllByRecursion FitsRow rows →
    RowsAreGood workload before rows → AllByRecursion (HasRow workload.version) rows
rows_held before [] valid fit good = tt
rows_held {workload = workload} before (row ∷ rows) valid fit good = (
  row_held valid fit.0 good.0,
  rows_held (before ++ row ∷ []) rows valid fit.1 good.1,
)

-- ---- what a report tells of the store

declared_held : {A : Type 0} (size : ℕ) (content : A) {told : Option A} (P : A → Type 0) →
    told ≡ declared_as size content → P content → IfSome told P
declared_held {A} size content P is held =
    subst (λ (o : Option A). IfSome o P) (sym is)
    (cond_both (eqb size 0) None (Some content) (λ o. IfSome o P) (λ _. tt) (λ _. held))

balances_held : (balances : List ℕ) (most : ℕ) → sum balances ≤ most → All (λ n. n ≤ most) balances
balances_held balances most small k d lt = omega (arith, get_or-le-sum_by (λ (n : ℕ). n) balances k d lt, small)

items_held : (version : ℕ) (items : List (ℕ × ℕ)) → AllByRecursion (HasPair version) items →
    AllByRecursion (HasItem version) (map item_of items)
items_held version [] all = tt
items_held version (e ∷ items) all = (all.0, items_held version items all.1)

pub lawful_held : (workload : Workload) (report : Report) → IsValidWorkload workload → IsLawful workload report →
    All FitsRow report.rows → IsHeld report
lawful_held workload report valid lawful fit =
    let version = workload.version in
    let same = sym lawful.version in
    let store = store_after workload report.rows in
    let small = store_small report.rows valid in
    let items = All-from_recursion (HasItem version) (map item_of store.items)
    (items_held version store.items small.items) in
    record {
      version = omega (arith, same, valid.newest);
      rows = subst (λ (v : ℕ). All (HasRow v) report.rows) same (All-from_recursion (HasRow version) report.rows
          (rows_held [] report.rows valid (recursion_from_All FitsRow report.rows fit) lawful.rows));
      bank = declared_held workload.layout.accounts store.balances (All IsNumber) lawful.bank
          (balances_held store.balances MAX_NUMBER (omega (arith, small.bank.total_is, total_small valid)));
      list = declared_held workload.layout.list store.keys (All IsNumber) lawful.list
          (All-from_recursion IsNumber store.keys small.keys);
      tree = subst (λ (v : ℕ). IfSome report.tree (All (HasItem v))) same
          (declared_held workload.layout.tree (map item_of store.items) (All (HasItem version)) lawful.tree items);
      count = omega (arith, lawful.count, lawful.whole, valid.few);
    }
