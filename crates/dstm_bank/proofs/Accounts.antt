-- What the bank's operations do to maps that stand for a bank, and what an open tells of an account.
use Rattle.std.proofs.Common.{◌≡◌, ◌≢◌, ℕ, ◌+◌, ◌-◌, ◌*◌, ◌^◌, ◌<◌, ◌≤◌, List, length, slice_set, sum, take, arith, refl, sym, ◌∙◌, ap, subst, inl, inr, true, false}
use Rattle.std.specs.Prelude.{slice_index, nat_lt}
use Rattle.std.proofs.lemmas.List.{length-set, get_or-set_same, get_or-set_other, set-set, set-get_or, take_all}
use Rattle.std.proofs.lemmas.Bool.{cases_eq, le-ltb, lt-ltb}
use Rattle.std.proofs.lemmas.List.Sums.{sum_by_more, sum_by_more_le}
use Rattle.std.proofs.Math.Nat.{mul-le-mul_left}
use Rattle.dstm_model.specs.declared.value.Val.{Val}
use Rattle.dstm_model.specs.declared.layout.Layout.{Layout}
use Rattle.dstm_model.specs.declared.op.Op.TheVariants.{Transfer, Total}
use Rattle.dstm_model.specs.declared.reply.Reply.TheVariants.{Moved, Poor, Number}
use Rattle.dstm_model.specs.Layout.{IsValid}
use Rattle.dstm_model.specs.Map.{value_at, no_value}
use Rattle.dstm_model.specs.Store.{Store, balance_of, credit, debit}
use Rattle.dstm_model.specs.Objects.{IsBank, Does, plain}
use Rattle.dstm_model.proofs.Transfers.{credited_le, sum-moved}

-- the account is there, and has this value in the map
pub record HasAccount (layout : Layout) (map : List Val) (account : ℕ) (v : Val) : Type 0 where
  pub within : account < layout.accounts
  pub value : value_at map account ≡ v

-- an account that was opened, and not set since the start, has the value that the open answers
pub has-opened : {layout : Layout} {start now : List Val} {account : ℕ} {v : Val} → account < layout.accounts →
    now ≡ start → value_at now account ≡ v → HasAccount layout start account v
has-opened {account = account} within same found =
    record { within = within; value = ap (λ map. value_at map account) (sym same) ∙ found }

pub balance_is : {layout : Layout} {map : List Val} {store : Store} {a : ℕ} {v : Val} →
    IsBank layout map store → HasAccount layout map a v → balance_of a store ≡ v.low
balance_is {a = a} bank has = ap (λ x. x.low) (sym (bank.values a has.within) ∙ has.value)

-- all balances together fit a word
pub all_fit : (layout : Layout) → IsValid layout → layout.accounts * layout.opening < 2 ^ 64
all_fit layout valid = omega (arith, mul-le-mul_left layout.accounts valid.opening)

-- ---- transfers

-- what the target holds with the amount that the source pays fits a word
pub paid_fits : {layout : Layout} {map : List Val} {store : Store} {s t : ℕ} {from to : Val} (x : ℕ) →
    IsValid layout → IsBank layout map store → HasAccount layout map s from → HasAccount layout map t to →
    s ≢ t → x ≤ from.low → to.low + x < 2 ^ 64
paid_fits {layout} {map} {store} {s} {t} x valid bank source target other enough =
    let balances = store.balances in
    let has_source = source.within in
    let has_target = target.within in
    let in_source : s < length balances = omega (arith, bank.accounts) in
    let in_target : t < length balances = omega (arith, bank.accounts) in
    let pays : x ≤ slice_index balances s = omega (arith, balance_is bank source, enough) in
    let kept = get_or-set_other balances s t (slice_index balances s - x) 0 (λ e. other (sym e)) in
    let below = credited_le balances s t x in_source in_target pays in
    omega (arith, below, kept, balance_is bank target, bank.total, all_fit layout valid)

-- one account set, in the map and in the balances
values-set : (map : List Val) (balances : List ℕ) (n a k : ℕ) → n ≤ length map → length balances ≡ n → a < n →
    ((b : ℕ) → b < n → value_at map b ≡ plain (slice_index balances b)) →
    (b : ℕ) → b < n → value_at (slice_set map a (plain k)) b ≡ plain (slice_index (slice_set balances a k) b)
values-set map balances n a k in_map in_balances within values b hb =
    elim (cases_eq b a) [
      | inl same ↦
          let at_map = get_or-set_same map a (plain k) no_value (omega (arith, within, in_map)) in
          let at_balances = get_or-set_same balances a k 0 (omega (arith, within, in_balances)) in
          ap (value_at (slice_set map a (plain k))) same
          ∙ at_map
          ∙ ap plain (sym (ap (slice_index (slice_set balances a k)) same ∙ at_balances))
      | inr other ↦
          get_or-set_other map a b (plain k) no_value other
          ∙ values b hb
          ∙ ap plain (sym (get_or-set_other balances a b k 0 other))
    ]

pub does-poor : {layout : Layout} {map : List Val} {s : ℕ} {from : Val} (t x : ℕ) →
    HasAccount layout map s from → from.low < x → Does (IsBank layout) (Transfer s t x) map map Poor
does-poor {s = s} t x source less store bank =
    let poor : nat_lt (balance_of s store) x ≡ true = lt-ltb _ _ (omega (arith, less, balance_is bank source)) in
    rw poor (refl, bank)

pub does-self : {layout : Layout} {map : List Val} {s : ℕ} {from : Val} (t x : ℕ) →
    HasAccount layout map s from → x ≤ from.low → s ≡ t → Does (IsBank layout) (Transfer s t x) map map Moved
does-self {layout} {map} {s} t x source enough same store bank =
    let balances = store.balances in
    let pays : x ≤ slice_index balances s = omega (arith, balance_is bank source, enough) in
    let rich : nat_lt (balance_of s store) x ≡ false = le-ltb _ _ pays in
    let less = slice_index balances s - x in
    let in_balances : s < length balances = omega (arith, source.within, bank.accounts) in
    let back : slice_index (debit s x balances) s + x ≡ slice_index balances s =
    omega (arith, get_or-set_same balances s less 0 in_balances, pays) in
    let moved : credit s x (debit s x balances) ≡ balances =
    ap (slice_set (debit s x balances) s) back
    ∙ set-set balances s less (slice_index balances s)
    ∙ set-get_or balances s 0 in
    let still : IsBank layout map (record store { balances = credit s x (debit s x balances) }) =
    subst (λ (bs : List ℕ). IsBank layout map (record store { balances = bs })) (sym moved) bank in
    rw (← same, rich) (refl, still)

pub does-moved : {layout : Layout} {map : List Val} {s t : ℕ} {from to : Val} (x : ℕ) → layout.accounts ≤ length map →
    HasAccount layout map s from → HasAccount layout map t to → s ≢ t → x ≤ from.low →
    Does (IsBank layout) (Transfer s t x) map
    (slice_set (slice_set map s (plain (from.low - x))) t (plain (to.low + x))) Moved
does-moved {layout} {map} {s} {t} {from} {to} x in_map source target other enough store bank =
    let balances = store.balances in
    let from_is : slice_index balances s ≡ from.low = balance_is bank source in
    let less = slice_index balances s - x in
    let paid = debit s x balances in
    let first = slice_set map s (plain less) in
    let to_is : slice_index paid t ≡ to.low =
    get_or-set_other balances s t less 0 (λ e. other (sym e)) ∙ balance_is bank target in
    let pays : x ≤ slice_index balances s = omega (arith, from_is, enough) in
    let rich : nat_lt (balance_of s store) x ≡ false = le-ltb _ _ pays in
    let n = layout.accounts in
    let one = values-set map balances n s less in_map bank.accounts source.within bank.values in
    let in_first : n ≤ length first = omega (arith, in_map, length-set map s (plain less)) in
    let paid_accounts = length-set balances s less ∙ bank.accounts in
    let in_source : s < length balances = omega (arith, source.within, bank.accounts) in
    let in_target : t < length balances = omega (arith, target.within, bank.accounts) in
    let after : IsBank layout (slice_set first t (plain (slice_index paid t + x))) (record store { balances = credit t x paid }) = record {
      accounts = length-set paid t (slice_index paid t + x) ∙ paid_accounts;
      values = values-set first paid n t (slice_index paid t + x) in_first paid_accounts target.within one;
      total = sum-moved balances s t x in_source in_target pays ∙ bank.total;
    } in
    rw (← from_is, ← to_is, rich) (refl, after)

-- ---- a balance, and the sum of all

-- one account more
pub sum_first-more : {layout : Layout} {map : List Val} {store : Store} {a : ℕ} {v : Val} →
    IsBank layout map store → HasAccount layout map a v →
    sum (take (a + 1) store.balances) ≡ sum (take a store.balances) + v.low
sum_first-more {store = store} {a = a} bank has =
    sum_by_more (λ n. n) store.balances a 0 (omega (arith, has.within, bank.accounts))
    ∙ ap (λ n. sum (take a store.balances) + n) (balance_is bank has)

pub sum_first-fits : {layout : Layout} {map : List Val} {store : Store} {a : ℕ} {v : Val} →
    IsValid layout → IsBank layout map store → HasAccount layout map a v →
    sum (take a store.balances) + v.low < 2 ^ 64
sum_first-fits {layout} {store = store} {a = a} valid bank has =
    let below = sum_by_more_le (λ n. n) store.balances a 0 (omega (arith, has.within, bank.accounts)) in
    omega (arith, below, balance_is bank has, bank.total, all_fit layout valid)

pub does-total : (layout : Layout) (map : List Val) (n counted : ℕ) → layout.accounts ≤ n →
    ((store : Store) → IsBank layout map store → counted ≡ sum (take n store.balances)) →
    Does (IsBank layout) Total map map (Number counted)
does-total layout map n counted all sums store bank =
    let whole = take_all n store.balances (omega (arith, all, bank.accounts)) in
    (ap Number (sums store bank ∙ ap sum whole), bank)
