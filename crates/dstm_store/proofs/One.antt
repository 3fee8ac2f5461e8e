-- A map stands for one store only.
use Rattle.std.proofs.Common.{◌≡◌, ℕ, ◌<◌, ◌≤◌, List, length, arith, sym, ◌∙◌, ap, inl, inr}
use Rattle.std.proofs.lemmas.Bool.{cases_eq}
use Rattle.dstm_model.specs.declared.value.Val.{Val}
use Rattle.dstm_model.specs.declared.layout.Layout.{Layout}
use Rattle.dstm_model.specs.Layout.{IsValid}
use Rattle.dstm_model.specs.Store.{Store}
use Rattle.dstm_region.specs.Region.{tree_region}
use Rattle.dstm_list.proofs.Lists.{keys-unique}
use Rattle.dstm_tree.proofs.Nodes.{items-unique}
use Rattle.dstm_store.specs.Whole.{StandsFor}
use Rattle.dstm_store.proofs.Walks.{balances-read}

pub stands-for-one : (layout : Layout) (map : List Val) (one two : Store) → IsValid layout →
    StandsFor layout map one → StandsFor layout map two → one ≡ two
stands-for-one layout map one two valid a b =
    let within : layout.accounts ≤ length map = omega (arith, a.objects) in
    let balances : one.balances ≡ two.balances =
    sym (balances-read layout map one within a.bank) ∙ balances-read layout map two within b.bank in
    let keys : one.keys ≡ two.keys = keys-unique (omega (arith, valid.list)) a.list.holds b.list.holds in
    let items : one.items ≡ two.items = elim (cases_eq layout.tree 0) [
      | inl none ↦ a.no_tree none ∙ sym (b.no_tree none)
      | inr some ↦
          let declared : 0 < layout.tree = omega (arith, some) in
          items-unique (tree_region layout) map one.items two.items (omega (arith, valid.tree)) (a.tree declared).holds
          (b.tree declared).holds
    ] in
    ap (λ (l : Layout). record one { layout = l }) (a.laid_out ∙ sym b.laid_out)
    ∙ ap (λ (bs : List ℕ). record one { layout = two.layout; balances = bs }) balances
    ∙ ap (λ (ks : List ℕ). record one { layout = two.layout; balances = two.balances; keys = ks }) keys
    ∙ ap (λ (es : List (ℕ × ℕ)). record two { items = es }) items
