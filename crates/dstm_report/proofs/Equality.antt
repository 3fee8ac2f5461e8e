-- What `==` says of replies and of items.
use Rattle.std.proofs.Common.{◌≡◌, ℕ, eqb, refl, ap, ◌∙◌}
use Rattle.std.specs.Bool.{Decides}
use Rattle.std.proofs.lemmas.Bool.{false≢true, eqb-true, eq-eqb, and_parts, and_from}
use Rattle.dstm_model.specs.declared.reply.Reply.{Reply}
use Rattle.dstm_model.specs.declared.reply.Reply.TheVariants.{Moved, Poor, Number, Yes, No, Full, Absent, Never}
use Rattle.dstm_model.specs.declared.state.Item.{Item}
use Rattle.dstm_model.specs.Store.{item_of}
use Rattle.dstm_model.specs.contracts.reply.ReplyPartialEq.TheImpl as reply
use Rattle.dstm_model.specs.contracts.state.ItemPartialEq.TheImpl as item

pub same_reply : (a b : Reply) → Decides (reply.eq-value.it a b) (a ≡ b)
same_reply Moved Moved = (λ e. refl, λ e. refl)
same_reply Poor Poor = (λ e. refl, λ e. refl)
same_reply (Number n) (Number m) =
    (λ e. ap (λ (k : ℕ). Number k) (eqb-true n m e), λ e. eq-eqb n m (let same : n ≡ m = cc in same))
same_reply Yes Yes = (λ e. refl, λ e. refl)
same_reply No No = (λ e. refl, λ e. refl)
same_reply Full Full = (λ e. refl, λ e. refl)
same_reply Absent Absent = (λ e. refl, λ e. refl)
same_reply Never Never = (λ e. refl, λ e. refl)
same_reply a b = (λ e. absurd (false≢true e), λ e. absurd (let no : ⊥ = cc in no))

pub same_item : (a b : Item) → Decides (item.eq-value.it a b) (a ≡ b)
same_item a b = (
  λ e.
      let parts = and_parts (eqb a.key b.key) _ e in
      let keys = ap (λ (n : ℕ). item_of (n, a.value)) (eqb-true a.key b.key parts.0) in
      let values = ap (λ (n : ℕ). item_of (b.key, n)) (eqb-true a.value b.value parts.1) in
      keys ∙ values,
  λ e. and_from _ _ (eq-eqb a.key b.key (ap (λ (i : Item). i.key) e))
      (eq-eqb a.value b.value (ap (λ (i : Item). i.value) e)),
)
