-- A part of the tree whose root was read.
use Rattle.std.proofs.Common.{◌≡◌, ◌≢◌, ℕ, ◌^◌, ◌<◌, List, [], ◌∷◌, ◌++◌, map, arith, refl, sym, ◌∙◌, ap, subst}
use Rattle.std.proofs.Common.{append_assoc}
use Rattle.std.proofs.lemmas.List.{map-append}
use Rattle.dstm_model.specs.declared.value.Val.{Val}
use Rattle.dstm_model.specs.declared.layout.Layout.{Layout}
use Rattle.dstm_model.specs.declared.state.Item.{Item}
use Rattle.dstm_model.specs.Map.{value_at}
use Rattle.dstm_model.specs.Store.{Store, item_of}
use Rattle.dstm_region.specs.Region.{tree_region}
use Rattle.dstm_tree.specs.declared.node.Node.{Node}
use Rattle.dstm_tree.specs.Tree.{number_of}
use Rattle.dstm_tree.specs.Objects.{object_of, root_of, IsTree}
use Rattle.dstm_tree.specs.Node.{HasTree, Subtree, val_of}
use Rattle.dstm_tree.proofs.Search.{Halves, halves, all_of}

-- the whole tree, whose root's number was read
pub whole : (layout : Layout) (map : List Val) (store : Store) (object : ℕ) → object ≡ root_of (tree_region layout) →
    (t : IsTree layout map store) →
    (s : Subtree (tree_region layout) map (value_at map object).low layout.tree) × (s.tree ≡ t.holds.tree)
unfolding all_of
whole layout map store object is t =
    let root : (value_at map object).low ≡ number_of t.holds.tree = ap (λ o. (value_at map o).low) is ∙
    ap (λ v. v.low) t.holds.root in
    subst (λ at. (s : Subtree (tree_region layout) map at layout.tree) × (s.tree ≡ t.holds.tree)) (sym root)
    (all_of t.holds, refl)

-- a subtree whose root was read from its object
pub halves-of_value : {layout : Layout} {map : List Val} {at depth object : ℕ} (x : Node) → HasTree layout → at ≢ 0 →
    x.number ≡ at → x.left < 2 ^ 16 → x.right < 2 ^ 16 → object ≡ object_of (tree_region layout) at →
    val_of x ≡ value_at map object → (s : Subtree (tree_region layout) map at depth) →
    Halves (tree_region layout) map depth s.tree x
halves-of_value {layout} {map} {at} {depth} x h some number left right is value s =
    halves (tree_region layout) map at depth x (omega (arith, h.valid.tree)) number some left right
    (sym (value ∙ ap (value_at map) is)) s

-- the items of both sides, with the root's between them
pub joined : (read one two three : List Item) (item : Item) (left right items : List (ℕ × ℕ)) (entry : ℕ × ℕ) →
    one ≡ read ++ map item_of left → two ≡ one ++ item ∷ [] → item ≡ item_of entry →
    three ≡ two ++ map item_of right →
    items ≡ left ++ entry ∷ right → three ≡ read ++ map item_of items
joined read one two three item left right items entry first second is third split =
    third
    ∙ ap (λ (xs : List Item). xs ++ map item_of right) (second ∙ ap (λ (xs : List Item). xs ++ item ∷ []) first)
    ∙ append_assoc (read ++ map item_of left) (item ∷ []) (map item_of right)
    ∙ append_assoc read (map item_of left) (item ∷ map item_of right)
    ∙ ap (λ (i : Item). read ++ (map item_of left ++ i ∷ map item_of right)) is
    ∙ ap (λ (xs : List Item). read ++ xs) (sym (ap (map item_of) split ∙ map-append item_of left (entry ∷ right)))
