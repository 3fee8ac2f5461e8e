-- No operation changes the sum of the balances.
use Rattle.std.proofs.Common.{◌≡◌, ℕ, ◌*◌, ◌<◌, ◌≤◌, Bool, true, false, cond, eqb, List, [], ◌∷◌, length, sum, get_or}
use Rattle.std.proofs.Common.{Option, Some, None, refl, ap, ◌∙◌, arith}
use Rattle.std.specs.Prelude.{IfSome, nat_lt, is_some}
use Rattle.std.specs.List.{AllByRecursion, find}
use Rattle.std.proofs.lemmas.Bool.{ltb-false}
use Rattle.std.proofs.lemmas.List.{length-set, length-replicate}
use Rattle.std.proofs.lemmas.List.Folds.{sum_by-replicate}
use Rattle.std.proofs.lemmas.List.Elements.{recursion_from_All}
use Rattle.dstm_model.specs.declared.layout.Layout.{Layout}
use Rattle.dstm_model.specs.declared.op.Which.TheVariants as which
use Rattle.dstm_model.specs.declared.op.Op.{Op}
use Rattle.dstm_model.specs.declared.op.Op.TheVariants.{Transfer, Insert, Remove, Put, OrElse}
use Rattle.dstm_model.specs.declared.reply.Reply.TheVariants.{Moved, Poor, Yes, No, Full}
use Rattle.dstm_model.specs.Layout.{FitsLayout}
use Rattle.dstm_model.specs.Store.{Store, Outcome, opening_store, apply, answer, balance_of, has_key, with_key}
use Rattle.dstm_model.specs.Store.{without_key, value_of, with_item, without_item, debit, credit}
use Rattle.dstm_model.specs.Job.{apply_all, run_branch, open_branch, branches_of, onto_first, is_open}
use Rattle.dstm_model.proofs.Transfers.{sum-moved}
use Rattle.dstm_workload.specs.declared.workload.Job.{Job}
use Rattle.dstm_workload.specs.declared.workload.Workload.{Workload}
use Rattle.dstm_workload.specs.Workload.{IsValidWorkload}
use Rattle.dstm_report.specs.declared.report.Row.{Row}
use Rattle.dstm_report.specs.Lawful.{after_rows, after_job, store_left, store_after}
use Rattle.dstm_report.proofs.Rising.{found_holds}

-- the store has the balances of its layout, with this sum
pub record Holds (layout : Layout) (total : ℕ) (store : Store) : Type 0 where
  pub layout_is : store.layout ≡ layout
  pub accounts : length store.balances ≡ layout.accounts
  pub total_is : sum store.balances ≡ total

-- a store with the same balances
same : {layout : Layout} {total : ℕ} {store : Store} (after : Store) → after.layout ≡ store.layout →
    after.balances ≡ store.balances → Holds layout total store → Holds layout total after
same after layout_same balances_same h = record {
  layout_is = layout_same ∙ h.layout_is;
  accounts = ap length balances_same ∙ h.accounts;
  total_is = ap sum balances_same ∙ h.total_is;
}

-- of two outcomes the one that a test chooses
chosen : (layout : Layout) (total : ℕ) (b : Bool) (one other : Outcome) → (b ≡ true → Holds layout total one.store) →
    (b ≡ false → Holds layout total other.store) → Holds layout total (cond b one other).store
chosen layout total true one other if_true if_false = if_true refl
chosen layout total false one other if_true if_false = if_false refl

moves : {layout : Layout} {total : ℕ} (s t x : ℕ) {store : Store} → s < layout.accounts → t < layout.accounts →
    x ≤ balance_of s store →
    Holds layout total store → Holds layout total (record store { balances = credit t x (debit s x store.balances) })
moves s t x {store = store} in_s in_t enough h =
    let balances = store.balances in
    let paid = debit s x balances in
    record {
      layout_is = h.layout_is;
      accounts = length-set paid t _ ∙ length-set balances s _ ∙ h.accounts;
      total_is = sum-moved balances s t x (omega (arith, h.accounts)) (omega (arith, h.accounts)) enough ∙ h.total_is;
    }

inserts : {layout : Layout} {total : ℕ} (there full : Bool) {store : Store} (after : Store) → after.layout
    ≡ store.layout →
    after.balances ≡ store.balances → Holds layout total store → Holds layout total (cond there (answer No store)
    (cond full (answer Full store) (answer Yes after))).store
inserts {layout = layout} {total = total} there full {store = store} after layout_same balances_same h =
    chosen layout total there (answer No store) (cond full (answer Full store) (answer Yes after)) (λ _. h)
    (λ _. chosen layout total full (answer Full store) (answer Yes after) (λ _. h)
    (λ _. same after layout_same balances_same h))

pub keeps : {layout : Layout} {total : ℕ} (op : Op) {store : Store} → FitsLayout layout op → Holds layout total store →
    Holds layout total (apply op store).store
keeps {layout = layout} {total = total} (Transfer s t x) {store = store} fits h =
    chosen layout total (nat_lt (balance_of s store) x) (answer Poor store)
    (answer Moved (record store { balances = credit t x (debit s x store.balances) })) (λ _. h)
    (λ rich. moves s t x fits.0 fits.1 (ltb-false _ _ rich) h)
keeps {layout = layout} {total = total} (Insert which.List key) {store = store} fits h =
    inserts (has_key key store.keys) (eqb (length store.keys) store.layout.list)
    (record store { keys = with_key key store.keys }) refl refl h
keeps {layout = layout} {total = total} (Insert which.Tree key) {store = store} fits h =
    inserts (is_some (value_of key store.items)) (eqb (length store.items) store.layout.tree)
    (record store { items = with_item key 0 store.items }) refl refl h
keeps {layout = layout} {total = total} (Remove which.List key) {store = store} fits h = same
    (record store { keys = without_key key store.keys }) refl refl h
keeps {layout = layout} {total = total} (Remove which.Tree key) {store = store} fits h = same
    (record store { items = without_item key store.items }) refl refl h
keeps {layout = layout} {total = total} (Put key value) {store = store} fits h =
    let after : Store = record store { items = with_item key value store.items } in
    let put = same after refl refl h in
    chosen layout total (is_some (value_of key store.items)) (answer No after)
    (cond (eqb (length store.items) store.layout.tree) (answer Full store) (answer Yes after)) (λ _. put)
    (λ _. chosen layout total (eqb (length store.items) store.layout.tree) (answer Full store) (answer Yes after)
    (λ _. h) (λ _. put))
keeps op fits h = h

keeps_all : {layout : Layout} {total : ℕ} (ops : List Op) {store : Store} → AllByRecursion (FitsLayout layout) ops →
    Holds layout total store → Holds layout total (apply_all ops store).store
keeps_all [] fits h = h
keeps_all {layout = layout} {total = total} (op ∷ ops) {store = store} fits h = keeps_all ops fits.1 (keeps op fits.0 h)

-- ---- branches

pub onto_first-fits : (layout : Layout) (op : Op) (branches : List (List Op)) → FitsLayout layout op →
    AllByRecursion (AllByRecursion (FitsLayout layout)) branches →
    AllByRecursion (AllByRecursion (FitsLayout layout)) (onto_first op branches)
onto_first-fits layout op [] fits h = ((fits, tt), tt)
onto_first-fits layout op (branch ∷ branches) fits h = ((fits, h.0), h.1)

branches_fit : (layout : Layout) (ops : List Op) → AllByRecursion (FitsLayout layout) ops →
    AllByRecursion (AllByRecursion (FitsLayout layout)) (branches_of ops)
branches_fit layout [] fits = (tt, tt)
branches_fit layout (OrElse ∷ ops) fits = (tt, branches_fit layout ops fits.1)
branches_fit layout (op ∷ ops) fits = onto_first-fits layout op (branches_of ops) fits.0
    (branches_fit layout ops fits.1)

keeps_branch : {layout : Layout} {total : ℕ} (branch : Option (List Op)) {store : Store} →
    IfSome branch (AllByRecursion (FitsLayout layout)) →
    Holds layout total store → Holds layout total (store_left (run_branch branch store) store)
keeps_branch None fits h = h
keeps_branch {layout = layout} {total = total} (Some ops) {store = store} fits h = keeps_all ops fits h

keeps_job : {layout : Layout} {total : ℕ} (job : Option Job) {store : Store} →
    IfSome job (λ j. AllByRecursion (FitsLayout layout) j.ops) →
    Holds layout total store → Holds layout total (after_job job store)
keeps_job None fits h = h
keeps_job {layout = layout} {total = total} (Some job) {store = store} fits h =
    keeps_branch (open_branch job.ops store)
    (found_holds (AllByRecursion (FitsLayout layout)) (is_open store) (branches_of job.ops)
    (branches_fit layout job.ops fits)) h

keeps_rows : {layout : Layout} {total : ℕ} (jobs : List Job) (rows : List Row) {store : Store} →
    AllByRecursion (λ j. AllByRecursion (FitsLayout layout) j.ops) jobs → Holds layout total store →
    Holds layout total (after_rows jobs rows store)
keeps_rows jobs [] fits h = h
keeps_rows {layout = layout} {total = total} jobs (row ∷ rows) {store = store} fits h =
    let job = find (λ j. eqb j.line row.line) jobs in
    keeps_rows jobs rows fits (keeps_job job (found_holds (λ (j : Job). AllByRecursion (FitsLayout layout) j.ops)
    (λ j. eqb j.line row.line) jobs fits) h)

-- the balances after any rows have the sum that they were opened with
pub total_stays : (workload : Workload) (rows : List Row) → IsValidWorkload workload →
    sum (store_after workload rows).balances ≡ workload.layout.accounts * workload.layout.opening
total_stays workload rows valid =
    let layout = workload.layout in
    let total = layout.accounts * layout.opening in
    let opened : Holds layout total (opening_store layout) =
    record {
      layout_is = refl;
      accounts = length-replicate layout.accounts layout.opening;
      total_is = sum_by-replicate (λ (x : ℕ). x) layout.accounts layout.opening;
    } in
    let fits : AllByRecursion (λ j. AllByRecursion (FitsLayout layout) j.ops) workload.jobs =
    recursion_from_All (λ (j : Job). AllByRecursion (FitsLayout layout) j.ops) workload.jobs
    (λ k d lt. recursion_from_All (FitsLayout layout) (get_or workload.jobs k d).ops (valid.each k d lt).fits) in
    (keeps_rows workload.jobs rows fits opened).total_is
