-- Operations applied one after the other.
use Rattle.std.proofs.Common.{◌≡◌, ℕ, ◌+◌, ◌<◌, List, [], ◌∷◌, ◌++◌, length, take, get_or, refl, ap, ◌∙◌, arith}
use Rattle.std.proofs.lemmas.List.{take_more}
use Rattle.dstm_model.specs.declared.op.Op.{Op}
use Rattle.dstm_model.specs.declared.reply.Reply.{Reply}
use Rattle.dstm_model.specs.Store.{Store, Outcome, apply}
use Rattle.dstm_model.specs.Job.{JobOutcome, apply_all}

-- one operation more
pub apply_all-push : (ops : List Op) (op : Op) (store : Store) → apply_all (ops ++ op ∷ []) store ≡ record {
  replies = (apply_all ops store).replies ++ (apply op (apply_all ops store).store).reply ∷ [];
  store = (apply op (apply_all ops store).store).store;
}
apply_all-push [] op store = refl
apply_all-push (first ∷ ops) op store =
    ap (λ (rest : JobOutcome). record { replies = (apply first store).reply ∷ rest.replies; store = rest.store })
    (apply_all-push ops op (apply first store).store)

pub length-apply_all : (ops : List Op) (store : Store) → length (apply_all ops store).replies ≡ length ops
length-apply_all [] store = refl
length-apply_all (op ∷ ops) store = omega (arith, length-apply_all ops (apply op store).store)

-- the operations so far and the next one
pub applied_more : (ops : List Op) (i : ℕ) (d : Op) (start before after : Store) (replies : List Reply) (reply : Reply) → i < length ops →
    apply_all (take i ops) start ≡ record { replies = replies; store = before } →
    apply (get_or ops i d) before ≡ record { reply = reply; store = after } →
    apply_all (take (i + 1) ops) start ≡ record { replies = replies ++ reply ∷ []; store = after }
applied_more ops i d start before after replies reply below so_far next =
    let one = get_or ops i d in
    let P : JobOutcome → JobOutcome = λ (o : JobOutcome). record { replies = o.replies ++ (apply one o.store).reply ∷ []; store = (apply one o.store).store } in
    let Q : Outcome → JobOutcome = λ (o : Outcome). record { replies = replies ++ o.reply ∷ []; store = o.store } in
    ap (λ xs. apply_all xs start) (take_more ops i d below) ∙ apply_all-push (take i ops) one start ∙ ap P so_far ∙ ap Q next
