-- What the calls on a layout's tree have from those on its region.
use Rattle.dstm_tree.proofs.Base.{◌≡◌, ◌<◌, ◌==◌, ℕ, Bool, true, false}
use Rattle.dstm_tree.proofs.Base.{List, length, sym, ◌∙◌, ap, if◌then◌else◌, Option}
use Rattle.dstm_tree.proofs.Base.{Ok, is_some, Val, Region, value_of, with_item, yes_or_no, Ghosts, HasItems}
use Rattle.dstm_tree.proofs.Base.{Placing, Puts, TakesOut, placing, Finds, subst}
use Rattle.dstm_model.specs.declared.layout.Layout.{Layout}
use Rattle.dstm_model.specs.declared.layout.TheConstants.{KEY_LIMIT}
use Rattle.dstm_model.specs.declared.op.Which.TheVariants as which
use Rattle.dstm_model.specs.declared.op.Op.TheVariants.{Insert, Remove, Put, Get, Member}
use Rattle.dstm_model.specs.declared.reply.Reply.{Reply}
use Rattle.dstm_model.specs.declared.reply.Reply.TheVariants.{Yes, No, Full}
use Rattle.dstm_model.specs.Objects.{Does}
use Rattle.dstm_model.specs.Store.{Store, Outcome, answer, value_reply}
use Rattle.dstm_mem.specs.Operates.{Operates}
use Rattle.dstm_mem.proofs.Operating.{operates-as}
use Rattle.dstm_region.specs.Region.{IsInside, tree_region}
use Rattle.dstm_tree.specs.Objects.{IsTree}
use Rattle.dstm_tree.specs.Steps.{IsOfTree}

-- what is done inside the region is done to the layout's tree
pub done-in : {S E : Type 0} {M : Ghosts S E} (layout : Layout) {A B : Type 0} {region : Region} {Q : A → Type 0}
    {Q' T' : B → Type 0} {R : A → List Val → List Val → Type 0} {R' : B → List Val → List Val → Type 0} {old new : S}
    {x : A} {y : B} → region ≡ tree_region layout →
    Operates M (IsInside region) Q (λ a. Unit {0}) R old new (Ok x) → (Q' y → Q x) →
    ((before after : List Val) → R x before after → R' y before after) →
    Operates M (IsOfTree layout) Q' T' R' old new (Ok y)
done-in {M = M} layout {Q = Q} {R = R} {old = old} {new = new} {x = x} is done quiet does =
    let wider : Operates M (IsOfTree layout) Q (λ a. Unit {0}) R old new (Ok x) = record {
      leads = done.leads;
      outside = λ o out. done.outside o (λ inside. out (rw is at inside).0);
      marks = done.marks;
      quiet = done.quiet;
      does = done.does;
    } in
    operates-as wider quiet (λ all. tt) does

-- the choice of a reply with the items after it is that of a reply with the store after it
chosen : (layout : Layout) {after : List Val} {reply : Reply} (store : Store) (there full : Bool)
    (kept more : List (ℕ × ℕ)) → store.layout.tree ≡ layout.tree →
    (let placed : Placing = if there then record { reply = No; items = kept }
    else if full then record { reply = Full; items = store.items } else record { reply = Yes; items = more } in
    (reply ≡ placed.reply) × HasItems KEY_LIMIT (tree_region layout) after placed.items) →
    (let out : Outcome = if there then answer No (record store { items = kept })
    else if full then answer Full store else answer Yes (record store { items = more }) in
    (reply ≡ out.reply) × IsTree layout after out.store)
chosen layout store true full kept more capacity h = (h.0, record { holds = h.1; capacity = capacity })
chosen layout store false true kept more capacity h = (h.0, record { holds = h.1; capacity = capacity })
chosen layout store false false kept more capacity h = (h.0, record { holds = h.1; capacity = capacity })

module _ {layout : Layout} {before after : List Val} where
  -- a key was placed in the tree, which has room for as many keys as the store says
  stored : (replaces : Bool) (key value : ℕ) {reply : Reply} (store : Store) → key < KEY_LIMIT →
      Puts (tree_region layout) replaces key value reply before after → (t : IsTree layout before store) →
      (reply ≡ (placing replaces store.layout.tree key value store.items).reply)
      × HasItems KEY_LIMIT (tree_region layout) after (placing replaces store.layout.tree key value store.items).items
  stored replaces key value {reply} store below puts t =
      subst (λ n. (reply ≡ (placing replaces n key value store.items).reply)
      × HasItems KEY_LIMIT (tree_region layout) after (placing replaces n key value store.items).items)
      (sym t.capacity) (puts KEY_LIMIT store.items below t.holds)

  pub inserted : (key : ℕ) {reply : Reply} → key < KEY_LIMIT →
      Puts (tree_region layout) false key 0 reply before after →
      Does (IsTree layout) (Insert which.Tree key) before after reply
  inserted key below puts store t =
      chosen layout store (is_some (value_of key store.items)) (length store.items == store.layout.tree) store.items
      (with_item key 0 store.items) t.capacity (stored false key 0 store below puts t)

  pub put : (key value : ℕ) {reply : Reply} → key < KEY_LIMIT →
      Puts (tree_region layout) true key value reply before after →
      Does (IsTree layout) (Put key value) before after reply
  put key value below puts store t =
      chosen layout store (is_some (value_of key store.items)) (length store.items == store.layout.tree)
      (with_item key value store.items) (with_item key value store.items) t.capacity
      (stored true key value store below puts t)

  pub removed : (key : ℕ) {reply : Reply} → TakesOut (tree_region layout) key reply before after →
      Does (IsTree layout) (Remove which.Tree key) before after reply
  removed key takes store t =
      let (same, holds) = takes KEY_LIMIT store.items t.holds in
      (same, record { holds = holds; capacity = t.capacity })

  pub found : (key : ℕ) {found : Option ℕ} → Finds (tree_region layout) key found before after →
      Does (IsTree layout) (Get key) before after (value_reply found)
  found key finds store t = (ap value_reply (finds.is KEY_LIMIT store.items t.holds), rw finds.same t)

  pub found-member : (key : ℕ) {found : Option ℕ} (there : Bool) → is_some found ≡ there →
      Finds (tree_region layout) key found before after →
      Does (IsTree layout) (Member which.Tree key) before after (yes_or_no there)
  found-member key there is finds store t =
      (ap yes_or_no (sym is ∙ ap is_some (finds.is KEY_LIMIT store.items t.holds)), rw finds.same t)
