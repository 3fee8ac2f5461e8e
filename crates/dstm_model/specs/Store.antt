-- The plain store: what each operation answers, and the store that it leaves.
use Rattle.std.specs.Prelude.{ℕ, ◌+◌, ◌-◌, ◌==◌, Bool, if◌then◌else◌, nat_lt, List, [], length, sum, map, replicate, slice_index, slice_set, Option, Some, None, is_some}
use Rattle.std.specs.List.{list_any}
use Rattle.std.specs.Ordering.{nat_cmp}
use Rattle.std.specs.Map.{lookup, remove_entry}
use Rattle.std.specs.Set.{remove_key}
use Rattle.std.specs.BTreeMap.{is_at, insert_entry}
use Rattle.std.specs.BTreeSet.{insert_key}
use Rattle.dstm_model.specs.declared.layout.Layout.{Layout}
use Rattle.dstm_model.specs.declared.op.Which.{Which}
use Rattle.dstm_model.specs.declared.op.Which.TheVariants as which
use Rattle.dstm_model.specs.declared.op.Op.{Op}
use Rattle.dstm_model.specs.declared.op.Op.TheVariants.{Transfer, Balance, Total, Insert, Remove, Member, Put, Get, Await, OrElse}
use Rattle.dstm_model.specs.declared.reply.Reply.{Reply}
use Rattle.dstm_model.specs.declared.reply.Reply.TheVariants.{Moved, Poor, Number, Yes, No, Full, Absent}
use Rattle.dstm_model.specs.declared.state.Item.{Item}
use Rattle.dstm_model.specs.declared.state.State.{State}

-- a store: balances in account order, the list's keys, and the tree's keys with their values.
-- Keys stand in rising order. The layout gives the capacities.
pub record Store : Type 0 where
  pub layout : Layout
  pub balances : List ℕ
  pub keys : List ℕ
  pub items : List (ℕ × ℕ)

-- every balance is the opening balance, and both structures are empty
abbrev pub opening_store : Layout → Store
opening_store layout = record { layout = layout; balances = replicate layout.accounts layout.opening; keys = []; items = [] }

-- ---- keys in rising order, and keys with their values

abbrev pub has_key : ℕ → List ℕ → Bool
has_key key keys = list_any (is_at (nat_cmp key)) keys

abbrev pub with_key : ℕ → List ℕ → List ℕ
with_key key keys = insert_key nat_cmp keys key

abbrev pub without_key : ℕ → List ℕ → List ℕ
without_key key keys = remove_key (is_at (nat_cmp key)) keys

abbrev pub value_of : ℕ → List (ℕ × ℕ) → Option ℕ
value_of key items = lookup (is_at (nat_cmp key)) items

-- the key with this value, in the place of an older one
abbrev pub with_item : ℕ → ℕ → List (ℕ × ℕ) → List (ℕ × ℕ)
with_item key value items = insert_entry nat_cmp items key value

abbrev pub without_item : ℕ → List (ℕ × ℕ) → List (ℕ × ℕ)
without_item key items = remove_entry (is_at (nat_cmp key)) items

-- ---- operations

-- a reply, and the store that an operation leaves
pub record Outcome : Type 0 where
  pub reply : Reply
  pub store : Store

-- a reply that leaves this store
abbrev pub answer : Reply → Store → Outcome
answer reply store = record { reply = reply; store = store }

abbrev pub yes_or_no : Bool → Reply
yes_or_no b = if b then Yes else No

abbrev pub balance_of : ℕ → Store → ℕ
balance_of account store = slice_index store.balances account

-- an amount taken from an account, and one added to it
abbrev pub debit : ℕ → ℕ → List ℕ → List ℕ
debit account amount balances = slice_set balances account (slice_index balances account - amount)

abbrev pub credit : ℕ → ℕ → List ℕ → List ℕ
credit account amount balances = slice_set balances account (slice_index balances account + amount)

abbrev pub transfer : ℕ → ℕ → ℕ → Store → Outcome
transfer source target amount store =
    if nat_lt (balance_of source store) amount
    then answer Poor store
    else answer Moved (record store { balances = credit target amount (debit source amount store.balances) })

abbrev pub insert : Which → ℕ → Store → Outcome
insert which.List key store =
    if has_key key store.keys then answer No store
    else if length store.keys == store.layout.list then answer Full store
    else answer Yes (record store { keys = with_key key store.keys })
insert which.Tree key store =
    if is_some (value_of key store.items) then answer No store
    else if length store.items == store.layout.tree then answer Full store
    else answer Yes (record store { items = with_item key 0 store.items })

abbrev pub remove : Which → ℕ → Store → Outcome
remove which.List key store = answer (yes_or_no (has_key key store.keys)) (record store { keys = without_key key store.keys })
remove which.Tree key store = answer (yes_or_no (is_some (value_of key store.items))) (record store { items = without_item key store.items })

-- the key is there
abbrev pub is_member : Which → ℕ → Store → Bool
is_member which.List key store = has_key key store.keys
is_member which.Tree key store = is_some (value_of key store.items)

abbrev pub put : ℕ → ℕ → Store → Outcome
put key value store =
    if is_some (value_of key store.items) then answer No (record store { items = with_item key value store.items })
    else if length store.items == store.layout.tree then answer Full store
    else answer Yes (record store { items = with_item key value store.items })

-- the value of a key, or that it is absent
abbrev pub value_reply : Option ℕ → Reply
value_reply None = Absent
value_reply (Some value) = Number value

-- what an operation answers, and the store after it. A condition that a branch awaits has been seen
-- to hold when it is applied, so it answers yes; the separator of branches is not applied.
abbrev pub apply : Op → Store → Outcome
apply (Transfer source target amount) store = transfer source target amount store
apply (Balance account) store = answer (Number (balance_of account store)) store
apply Total store = answer (Number (sum store.balances)) store
apply (Insert w key) store = insert w key store
apply (Remove w key) store = remove w key store
apply (Member w key) store = answer (yes_or_no (is_member w key store)) store
apply (Put key value) store = put key value store
apply (Get key) store = answer (value_reply (value_of key store.items)) store
apply (Await c) store = answer Yes store
apply OrElse store = answer Yes store

-- an operation that is applied by itself, and not as a part of a job
abbrev pub IsPlain : Op → Type 0
IsPlain (Await c) = ⊥
IsPlain OrElse = ⊥
IsPlain op = Unit {0}

-- ---- what a store holds, as it is reported

abbrev pub item_of : ℕ × ℕ → Item
item_of entry = record { key = entry.0; value = entry.1 }

abbrev pub state_of : Store → State
state_of store = record { bank = store.balances; list = store.keys; tree = map item_of store.items }
