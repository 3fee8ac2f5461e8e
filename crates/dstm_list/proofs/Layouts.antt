-- What the calls on a layout's list have from those on its region.
use Rattle.std.proofs.Common.{◌≡◌, ◌≢◌, ℕ, ◌<◌, ◌==◌, Bool, true, false, List, length, arith, refl, sym, ◌∙◌, ap, subst}
use Rattle.std.specs.Prelude.{Ok, if◌then◌else◌}
use Rattle.dstm_model.specs.declared.value.Val.{Val}
use Rattle.dstm_model.specs.declared.layout.Layout.{Layout}
use Rattle.dstm_model.specs.declared.op.Op.{Op}
use Rattle.dstm_model.specs.declared.op.Which.TheVariants as which
use Rattle.dstm_model.specs.declared.op.Op.TheVariants.{Insert, Remove, Member}
use Rattle.dstm_model.specs.declared.reply.Reply.{Reply}
use Rattle.dstm_model.specs.declared.reply.Reply.TheVariants.{Yes, No, Full}
use Rattle.dstm_model.specs.Layout.{IsValid}
use Rattle.dstm_model.specs.Map.{value_at}
use Rattle.dstm_model.specs.Objects.{objects_of, Does}
use Rattle.dstm_model.specs.Store.{Store, Outcome, answer, has_key, with_key, opening_store}
use Rattle.dstm_mem.specs.declared.memory.Mem.{Ghosts}
use Rattle.dstm_mem.specs.Operations.{IsReady}
use Rattle.dstm_mem.specs.Operates.{Applies, IsLook, Operates}
use Rattle.dstm_mem.proofs.Operating.{operates-as}
use Rattle.dstm_region.specs.declared.region.Region.{Region}
use Rattle.dstm_region.specs.Region.{IsInside, list_region}
use Rattle.dstm_region.proofs.Layouts.{list-within}
use Rattle.dstm_list.specs.List.{FitsList, HasKeys, IsList, IsOfList, SameButThree}
use Rattle.dstm_list.specs.Edits.{Adding, Adds, Calls, TakesOut, Tells, adding}
use Rattle.dstm_list.specs.Place.{IsReadyIn}
use Rattle.dstm_list.proofs.Lists.{IsOpening, HasKeys-kept, HasKeys-opening}

-- a list fits in the region of a layout's list, which is within the layout's objects
fits-list : {layout : Layout} → IsValid layout → 0 < layout.list → FitsList (list_region layout)
fits-list valid declared = record {
  some = declared;
  few = omega (arith, valid.list);
  numbered = omega (arith, valid.accounts);
}

of-list : (layout : Layout) → 0 < layout.list → (o : ℕ) → IsInside (list_region layout) o → IsOfList layout o
of-list layout declared o inside = (inside.0, omega (arith, inside.1, list-within layout declared))

ready-in : {S E : Type 0} {M : Ghosts S E} (layout : Layout) {memory : S} → 0 < layout.list →
    IsReady M (objects_of layout) (IsList layout) memory → IsReadyIn M (list_region layout) memory
ready-in layout declared ready = record {
  objects = omega (arith, ready.objects, list-within layout declared);
  live = ready.live;
  lawful = λ map admitted.
      let (store, list) = ready.lawful map admitted in
      (store.keys, list.holds);
}

-- what is done inside the region is done to the layout's list
done-in : {S E : Type 0} {M : Ghosts S E} (layout : Layout) {A B : Type 0} {region : Region} {Q : A → Type 0}
    {Q' T' : B → Type 0} {R : A → List Val → List Val → Type 0} {R' : B → List Val → List Val → Type 0} {old new : S}
    {x : A} {y : B} → region ≡ list_region layout → 0 < layout.list →
    Operates M (IsInside region) Q (λ a. Unit {0}) R old new (Ok x) → (Q' y → Q x) →
    ((before after : List Val) → R x before after → R' y before after) →
    Operates M (IsOfList layout) Q' T' R' old new (Ok y)
done-in {M = M} layout {Q = Q} {R = R} {old = old} {new = new} {x = x} is declared done quiet does =
    let wider : Operates M (IsOfList layout) Q (λ a. Unit {0}) R old new (Ok x) = record {
      leads = done.leads;
      outside = λ o out. done.outside o (λ inside. out (of-list layout declared o (rw is at inside)));
      marks = done.marks;
      quiet = done.quiet;
      does = done.does;
    } in
    operates-as wider quiet (λ all. tt) does

-- the choice of a reply with the keys after it is that of a reply with the store after it
chosen : (layout : Layout) {after : List Val} {reply : Reply} (store : Store) (there full : Bool) (more : List ℕ) →
    store.layout.list ≡ layout.list →
    (let added : Adding = if there then record { reply = No; keys = store.keys }
    else if full then record { reply = Full; keys = store.keys } else record { reply = Yes; keys = more } in
    (reply ≡ added.reply) × HasKeys (list_region layout) after added.keys) →
    (let out : Outcome = if there then answer No store
    else if full then answer Full store else answer Yes (record store { keys = more }) in
    (reply ≡ out.reply) × IsList layout after out.store)
chosen layout store true full more capacity h = (h.0, record { holds = h.1; capacity = capacity })
chosen layout store false true more capacity h = (h.0, record { holds = h.1; capacity = capacity })
chosen layout store false false more capacity h = (h.0, record { holds = h.1; capacity = capacity })

module _ {layout : Layout} {before after : List Val} where
  inserted : (key : ℕ) {reply : Reply} → Adds (list_region layout) key reply before after →
      Does (IsList layout) (Insert which.List key) before after reply
  inserted key {reply} adds store list =
      chosen layout store (has_key key store.keys) (length store.keys == store.layout.list) (with_key key store.keys)
      list.capacity (subst (λ n. (reply ≡ (adding n key store.keys).reply)
      × HasKeys (list_region layout) after (adding n key store.keys).keys) (sym list.capacity)
      (adds store.keys list.holds))

  -- what is left of the keys is left of the store
  in_store : {A : Type 0} {store : Store} {keys : List ℕ} → IsList layout before store →
      A × HasKeys (list_region layout) after keys → A × IsList layout after (record store { keys = keys })
  in_store list (same, holds) = (same, record { holds = holds; capacity = list.capacity })

  removed : (key : ℕ) {reply : Reply} → TakesOut (list_region layout) key reply before after →
      Does (IsList layout) (Remove which.List key) before after reply
  removed key takes store list = in_store list (takes store.keys list.holds)

  told : (key : ℕ) {reply : Reply} → Tells (list_region layout) key reply before after →
      Does (IsList layout) (Member which.List key) before after reply
  told key tells store list = in_store list (tells store.keys list.holds)

-- ---- a call on the region of a layout's list

-- a change of the region's list is one of the layout's
abbrev pub IsOne : {S E : Type 0} → Ghosts S E → Region → Layout → Op → (Region → Reply → List Val → List Val → Type 0) →
    Reply → S → S → Type 0
IsOne M region layout op R reply old new =
    region ≡ list_region layout → 0 < layout.list → Calls M region (λ r. r ≢ Yes) (R region) old new (Ok reply) →
    SameButThree region (M.written old) (M.written new) →
    Applies M (IsOfList layout) (IsList layout) op old new (Ok reply)
    × SameButThree (list_region layout) (M.written old) (M.written new)

module _ {S E : Type 0} {M : Ghosts S E} {region : Region} where
  -- what it asks
  pub starts : {layout : Layout} {memory : S} → region ≡ list_region layout → IsValid layout → 0 < layout.list →
      IsReady M (objects_of layout) (IsList layout) memory → FitsList region × IsReadyIn M region memory
  starts {layout = layout} is valid declared ready = rw is (fits-list valid declared, ready-in layout declared ready)

  is_one : (layout : Layout) (op : Op) (R : Region → Reply → List Val → List Val → Type 0) (reply : Reply) (old new : S) →
      (IsLook op reply → reply ≢ Yes) → ((before after : List Val) → R (list_region layout) reply before after →
      Does (IsList layout) op before after reply) → IsOne M region layout op R reply old new
  is_one layout op R reply old new look does is declared done few = (
    done-in layout is declared done look (λ before after h. does before after (rw is at h)),
    rw is at few,
  )

  pub adds : (layout : Layout) (key : ℕ) {reply : Reply} {old new : S} →
      IsOne M region layout (Insert which.List key) (λ region. Adds region key) reply old new
  adds layout key {reply = reply} {old = old} {new = new} =
      is_one layout (Insert which.List key) (λ region. Adds region key) reply old new (λ look. look)
      (λ before after. inserted key)

  pub takes : (layout : Layout) (key : ℕ) {reply : Reply} {old new : S} →
      IsOne M region layout (Remove which.List key) (λ region. TakesOut region key) reply old new
  takes layout key {reply = reply} {old = old} {new = new} =
      is_one layout (Remove which.List key) (λ region. TakesOut region key) reply old new (λ look. look)
      (λ before after. removed key)

  pub tells : (layout : Layout) (key : ℕ) {reply : Reply} {old new : S} → region ≡ list_region layout → 0 < layout.list →
      Calls M region (λ r. Unit {0}) (Tells region key) old new (Ok reply) →
      Applies M (IsOfList layout) (IsList layout) (Member which.List key) old new (Ok reply)
  tells layout key is declared done =
      done-in layout is declared done (λ look. tt) (λ before after h. told key (rw is at h))

-- ---- a map in which the list's objects are unchanged, and the opening values

pub list-kept : {layout : Layout} {values : List Val} {store : Store} (after : List Val) (other : Store) →
    IsList layout values store → other.layout ≡ store.layout → other.keys ≡ store.keys →
    ((p : ℕ) → IsOfList layout p → value_at after p ≡ value_at values p) → IsList layout after other
list-kept {layout} after other list layouts keys same = record {
  holds = rw keys (HasKeys-kept after (λ declared p inside. same p (of-list layout declared p inside)) list.holds);
  capacity = ap (λ l. l.list) layouts ∙ list.capacity;
}

pub list-opening : (layout : Layout) (values : List Val) →
    (0 < layout.list → IsOpening (list_region layout) values) → IsList layout values (opening_store layout)
list-opening layout values opening =
    record { holds = HasKeys-opening (list_region layout) values opening; capacity = refl }
