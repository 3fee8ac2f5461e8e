-- A transfer keeps the sum of the balances, and no balance exceeds it: so no transfer overflows.
use Rattle.std.proofs.Common.{◌≡◌, ℕ, ◌+◌, ◌-◌, ◌<◌, ◌≤◌, List, length, sum, get_or, arith}
use Rattle.std.proofs.lemmas.List.{length-set}
use Rattle.std.proofs.lemmas.List.Sums.{sum_by-set, get_or-le-sum_by}
use Rattle.dstm_model.specs.Store.{debit, credit}

abbrev itself : ℕ → ℕ
itself n = n

pub sum-debit : (balances : List ℕ) (source amount : ℕ) → source < length balances → amount ≤ get_or balances source 0 →
    sum (debit source amount balances) + amount ≡ sum balances
sum-debit balances source amount s enough =
    let change = sum_by-set itself balances source (get_or balances source 0 - amount) 0 s in
    omega (arith, change)

pub sum-credit : (balances : List ℕ) (target amount : ℕ) → target < length balances →
    sum (credit target amount balances) ≡ sum balances + amount
sum-credit balances target amount t =
    let change = sum_by-set itself balances target (get_or balances target 0 + amount) 0 t in
    omega (arith, change)

-- what the target has once the source has paid, with the amount, is at most the sum before
pub credited_le : (balances : List ℕ) (source target amount : ℕ) → source < length balances → target < length balances →
    amount ≤ get_or balances source 0 → get_or (debit source amount balances) target 0 + amount ≤ sum balances
credited_le balances source target amount s t enough =
    let after = debit source amount balances in
    let within = get_or-le-sum_by itself after target 0 (omega (arith, length-set {A = ℕ})) in
    omega (arith, within, sum-debit balances source amount s enough)

pub sum-moved : (balances : List ℕ) (source target amount : ℕ) → source < length balances → target < length balances →
    amount ≤ get_or balances source 0 → sum (credit target amount (debit source amount balances)) ≡ sum balances
sum-moved balances source target amount s t enough =
    let after = debit source amount balances in
    let given = sum-credit after target amount (omega (arith, length-set {A = ℕ})) in
    omega (arith, given, sum-debit balances source amount s enough)
