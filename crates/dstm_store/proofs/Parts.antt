-- What is done to one structure is done to the whole store: the objects of the others are unchanged, and so
-- is what they stand for.
use Rattle.std.proofs.Common.{◌≡◌, ℕ, ◌<◌, ◌≤◌, Bool, true, false, List, [], length, arith, refl, sym, ◌∙◌, ap, subst}
use Rattle.std.specs.Prelude.{Option, Result, Ok, Err, IfOk, OnOk, slice_index, sum}
use Rattle.dstm_model.specs.declared.value.Val.{Val}
use Rattle.dstm_model.specs.declared.layout.Layout.{Layout}
use Rattle.dstm_model.specs.declared.op.Op.{Op}
use Rattle.dstm_model.specs.declared.op.Op.TheVariants.{Transfer, Balance, Total, Insert, Remove, Member, Put, Get}
use Rattle.dstm_model.specs.declared.op.Which.TheVariants as which
use Rattle.dstm_model.specs.declared.reply.Reply.{Reply}
use Rattle.dstm_model.specs.Layout.{FitsLayout}
use Rattle.dstm_model.specs.Map.{value_at}
use Rattle.dstm_model.specs.Store.{Store, apply}
use Rattle.dstm_model.specs.Objects.{objects_of, tree_begin, IsBank, Does, plain}
use Rattle.dstm_mem.specs.declared.memory.Mem.{Ghosts}
use Rattle.dstm_mem.specs.Memory.{with_set}
use Rattle.dstm_mem.specs.Operations.{IsReady}
use Rattle.dstm_mem.specs.Operates.{Applies}
use Rattle.dstm_mem.proofs.WithSet.{length-with_set, value_at-same_set}
use Rattle.dstm_list.specs.List.{IsList, IsOfList}
use Rattle.dstm_list.proofs.Layouts.{list-kept}
use Rattle.dstm_tree.specs.Objects.{IsTree}
use Rattle.dstm_tree.proofs.Kept.{HasItems-kept}
use Rattle.dstm_tree.specs.Steps.{IsOfTree}
use Rattle.dstm_store.specs.Whole.{StandsFor, IsLawful}
use Rattle.dstm_store.specs.Concerns.{Concerns}
use Rattle.dstm_store.specs.Keeps.{is_of_list}

-- ---- what an operation on one structure leaves of the store

pub record OfBank (op : Op) : Type 0 where
  pub layout : (store : Store) → (apply op store).store.layout ≡ store.layout
  pub keys : (store : Store) → (apply op store).store.keys ≡ store.keys
  pub items : (store : Store) → (apply op store).store.items ≡ store.items

pub record OfList (op : Op) : Type 0 where
  pub layout : (store : Store) → (apply op store).store.layout ≡ store.layout
  pub balances : (store : Store) → (apply op store).store.balances ≡ store.balances
  pub items : (store : Store) → (apply op store).store.items ≡ store.items

pub record OfTree (op : Op) : Type 0 where
  pub layout : (store : Store) → (apply op store).store.layout ≡ store.layout
  pub balances : (store : Store) → (apply op store).store.balances ≡ store.balances
  pub keys : (store : Store) → (apply op store).store.keys ≡ store.keys

abbrev pub is_of_bank : Op → Bool
is_of_bank (Transfer source target amount) = true
is_of_bank (Balance account) = true
is_of_bank Total = true
is_of_bank op = false

abbrev pub is_of_tree : Op → Bool
is_of_tree (Insert which.Tree key) = true
is_of_tree (Remove which.Tree key) = true
is_of_tree (Member which.Tree key) = true
is_of_tree (Put key value) = true
is_of_tree (Get key) = true
is_of_tree op = false

bank_op : (op : Op) → is_of_bank op ≡ true → OfBank op
bank_op op is = record { layout = λ store. grind arith; keys = λ store. grind arith; items = λ store. grind arith }

list_op : (op : Op) → is_of_list op ≡ true → OfList op
list_op op is = record { layout = λ store. grind arith; balances = λ store. grind arith; items = λ store. grind arith }

tree_op : (op : Op) → is_of_tree op ≡ true → OfTree op
tree_op op is = record { layout = λ store. grind arith; balances = λ store. grind arith; keys = λ store. grind arith }

-- ---- structures whose objects are unchanged

pub bank-kept : (layout : Layout) (map after : List Val) (store other : Store) → IsBank layout map store →
    other.balances ≡ store.balances → ((p : ℕ) → p < layout.accounts → value_at after p ≡ value_at map p) →
    IsBank layout after other
bank-kept layout map after store other bank balances same =
    record {
      accounts = ap length balances ∙ bank.accounts;
      values = λ a within. same a within ∙ bank.values a within
          ∙ ap (λ (bs : List ℕ). plain (slice_index bs a)) (sym balances);
      total = ap sum balances ∙ bank.total;
    }

pub tree-kept : (layout : Layout) (map after : List Val) (store other : Store) → IsTree layout map store →
    other.layout ≡ store.layout → other.items ≡ store.items →
    ((p : ℕ) → tree_begin layout ≤ p → value_at after p ≡ value_at map p) → IsTree layout after other
tree-kept layout map after store other t layouts items same = record {
  holds = rw items (HasItems-kept (λ o inside. same o inside.0) t.holds);
  capacity = ap (λ l. l.tree) layouts ∙ t.capacity;
}

-- ---- an operation on one structure, where nothing else is set

-- the same is set at an object
abbrev pub SameAt : (ℕ → Option Val) → (ℕ → Option Val) → ℕ → Type 0
SameAt old new p = new p ≡ old p

-- a map stands for another store, if each of its parts does
stands-again : (layout : Layout) (map : List Val) (old new : ℕ → Option Val) (store other : Store) →
    StandsFor layout (with_set map old) store → other.layout ≡ store.layout → IsBank layout (with_set map new) other →
    IsList layout (with_set map new) other → (0 < layout.tree → IsTree layout (with_set map new) other) →
    (layout.tree ≡ 0 → other.items ≡ []) → StandsFor layout (with_set map new) other
stands-again layout map old new store other whole layouts bank list tree none = record {
  objects = length-with_set map new ∙ sym (length-with_set map old) ∙ whole.objects;
  laid_out = layouts ∙ whole.laid_out;
  bank = bank;
  list = list;
  tree = tree;
  no_tree = none;
}

module _ (layout : Layout) (op : Op) (map : List Val) (old new : ℕ → Option Val) (reply : Reply) where
  does-bank : OfBank op → ((p : ℕ) → layout.accounts ≤ p → SameAt old new p) →
      Does (IsBank layout) op (with_set map old) (with_set map new) reply →
      Does (StandsFor layout) op (with_set map old) (with_set map new) reply
  does-bank kept same does store whole =
      let after = does store whole.bank in (
        after.0,
        stands-again layout map old new store (apply op store).store whole (kept.layout store) after.1
            (list-kept (with_set map new) (apply op store).store whole.list (kept.layout store) (kept.keys store)
            (λ p of. value_at-same_set map old new p (same p of.0)))
            (λ declared. tree-kept layout (with_set map old) (with_set map new) store (apply op store).store
            (whole.tree declared) (kept.layout store) (kept.items store)
            (λ p of. value_at-same_set map old new p (same p (omega (arith, of)))))
            (λ none. kept.items store ∙ whole.no_tree none),
      )

  does-list : OfList op → ((p : ℕ) → ¬ IsOfList layout p → SameAt old new p) →
      Does (IsList layout) op (with_set map old) (with_set map new) reply →
      Does (StandsFor layout) op (with_set map old) (with_set map new) reply
  does-list kept same does store whole =
      let after = does store whole.list in (
        after.0,
        stands-again layout map old new store (apply op store).store whole (kept.layout store)
            (bank-kept layout (with_set map old) (with_set map new) store (apply op store).store whole.bank
            (kept.balances store) (λ p of. value_at-same_set map old new p (same p (λ h. omega (arith, h.0, of)))))
            after.1
            (λ declared. tree-kept layout (with_set map old) (with_set map new) store (apply op store).store
            (whole.tree declared) (kept.layout store) (kept.items store)
            (λ p of. value_at-same_set map old new p (same p (λ h. omega (arith, h.1, of)))))
            (λ none. kept.items store ∙ whole.no_tree none),
      )

  does-tree : OfTree op → 0 < layout.tree → ((p : ℕ) → p < tree_begin layout → SameAt old new p) →
      Does (IsTree layout) op (with_set map old) (with_set map new) reply →
      Does (StandsFor layout) op (with_set map old) (with_set map new) reply
  does-tree kept declared same does store whole =
      let after = does store (whole.tree declared) in (
        after.0,
        stands-again layout map old new store (apply op store).store whole (kept.layout store)
            (bank-kept layout (with_set map old) (with_set map new) store (apply op store).store whole.bank
            (kept.balances store) (λ p of. value_at-same_set map old new p (same p (omega (arith, of)))))
            (list-kept (with_set map new) (apply op store).store whole.list (kept.layout store) (kept.keys store)
            (λ p of. value_at-same_set map old new p (same p of.1)))
            (λ _. after.1) (λ none. absurd (omega (arith, none, declared))),
      )

-- the store after an operation is one that the map after stands for
pub lawful-after : (layout : Layout) (op : Op) (before after : List Val) (reply : Reply) → IsLawful layout before →
    Does (StandsFor layout) op before after reply → IsLawful layout after
lawful-after layout op before after reply lawful does = ((apply op lawful.0).store, (does lawful.0 lawful.1).1)

-- ---- what is applied to one structure is applied to the whole store

both : {X Y : Type 0} (r : Result X Y) (P R : X → Type 0) (Q : Type 0) → ((x : X) → P x → Q → R x) → IfOk r P →
    OnOk r Q → IfOk r R
both (Ok x) P R Q f p q = f x p q
both (Err e) P R Q f p q = tt

module _ {S E : Type 0} (M : Ghosts S E) (layout : Layout) (op : Op) {In : ℕ → Type 0} {old new : S}
    {r : Result Reply E} where
  -- what is done to one structure, if nothing is set outside
  of-part : {Part : List Val → Store → Type 0} →
      ((map : List Val) (reply : Reply) → ((p : ℕ) → ¬ In p → M.written new p ≡ M.written old p) →
      Does Part op (with_set map (M.written old)) (with_set map (M.written new)) reply →
      Does (StandsFor layout) op (with_set map (M.written old)) (with_set map (M.written new)) reply) →
      Applies M In Part op old new r → Applies M In (StandsFor layout) op old new r
  of-part lift done = record {
    leads = done.leads;
    outside = done.outside;
    marks = done.marks;
    quiet = done.quiet;
    does = both r _ _ _
        (λ reply does same map admitted. lift map reply (λ p out. (same p out).written) (does map admitted)) done.does
        done.outside;
  }

  of-bank : is_of_bank op ≡ true → ((o : ℕ) → In o → o < layout.accounts) → Applies M In (IsBank layout) op old new r →
      Applies M In (StandsFor layout) op old new r
  of-bank is within =
      of-part (λ map reply same. does-bank layout op map (M.written old) (M.written new) reply (bank_op op is)
      (λ p at. same p (λ inside. omega (arith, at, within p inside))))

  of-list : is_of_list op ≡ true → ((o : ℕ) → In o → IsOfList layout o) → Applies M In (IsList layout) op old new r →
      Applies M In (StandsFor layout) op old new r
  of-list is within =
      of-part (λ map reply same. does-list layout op map (M.written old) (M.written new) reply (list_op op is)
      (λ p out. same p (λ inside. out (within p inside))))

  of-tree : is_of_tree op ≡ true → 0 < layout.tree → ((o : ℕ) → In o → IsOfTree layout o) →
      Applies M In (IsTree layout) op old new r → Applies M In (StandsFor layout) op old new r
  of-tree is declared within =
      of-part (λ map reply same. does-tree layout op map (M.written old) (M.written new) reply (tree_op op is) declared
      (λ p at. same p (λ inside. omega (arith, at, within p inside))))

-- and leaves a lawful map
pub leaves-lawful : {S E : Type 0} (M : Ghosts S E) (layout : Layout) (op : Op) {In : ℕ → Type 0} {old new : S}
    (r : Result Reply E) → IsReady M (objects_of layout) (StandsFor layout) old →
    Applies M In (StandsFor layout) op old new r →
    OnOk r ((map : List Val) → M.Admits new map → IsLawful layout (with_set map (M.written new)))
leaves-lawful M layout op (Ok reply) ready done =
    λ map admitted.
    lawful-after layout op _ _ reply (ready.lawful map (done.leads.narrows map admitted)) (done.does map admitted)
leaves-lawful M layout op (Err e) ready done = tt

-- and so is an operation that is known by another name
module _ {S E : Type 0} (M : Ghosts S E) (layout : Layout) {op : Op} {old new : S} {r : Result Reply E} (known : Op)
    (is : op ≡ known) where
  by-other : Applies M (Concerns layout known) (StandsFor layout) known old new r →
      Applies M (Concerns layout op) (StandsFor layout) op old new r
  by-other done = subst (λ (o : Op). Applies M (Concerns layout o) (StandsFor layout) o old new r) (sym is) done

  pub by-bank : is_of_bank known ≡ true → ((o : ℕ) → Concerns layout known o → o < layout.accounts) →
      Applies M (Concerns layout known) (IsBank layout) known old new r →
      Applies M (Concerns layout op) (StandsFor layout) op old new r
  by-bank of within done = by-other (of-bank M layout known of within done)

  pub by-list : is_of_list known ≡ true → ((o : ℕ) → Concerns layout known o → IsOfList layout o) →
      Applies M (Concerns layout known) (IsList layout) known old new r →
      Applies M (Concerns layout op) (StandsFor layout) op old new r
  by-list of within done = by-other (of-list M layout known of within done)

  pub by-tree : is_of_tree known ≡ true → (FitsLayout layout known → 0 < layout.tree) →
      ((o : ℕ) → Concerns layout known o → IsOfTree layout o) → FitsLayout layout op →
      Applies M (Concerns layout known) (IsTree layout) known old new r →
      Applies M (Concerns layout op) (StandsFor layout) op old new r
  by-tree of declared within fits done =
      by-other (of-tree M layout known of (declared (subst (FitsLayout layout) is fits)) within done)
