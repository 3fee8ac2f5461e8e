-- No job that is done answers `never`.
use Rattle.std.proofs.Common.{◌≡◌, ℕ, Bool, true, false, cond, List, [], ◌∷◌, Option, None, Some, refl, ◌∙◌, ap, is_some, nat_lt, ◌==◌, length}
use Rattle.std.specs.Prelude.{IsSomeAnd}
use Rattle.dstm_model.specs.declared.op.Op.{Op}
use Rattle.dstm_model.specs.declared.op.Op.TheVariants.{Transfer, Balance, Total, Insert, Remove, Member, Put, Get, Await, OrElse}
use Rattle.dstm_model.specs.declared.op.Which.TheVariants as which
use Rattle.dstm_model.specs.declared.reply.Reply.{Reply}
use Rattle.dstm_model.specs.declared.reply.Reply.TheVariants.{Moved, Poor, Number, Yes, No, Full, Absent, Never}
use Rattle.dstm_records.proofs.Base.{apply_all, apply_job, is_given_up, open_branch, run_branch}
use Rattle.dstm_model.specs.Store.{Outcome, Store, apply, balance_of, has_key, value_of, value_reply, yes_or_no}

abbrev never : Reply → Bool
never Never = true
never reply = false

yes_no : (b : Bool) → never (yes_or_no b) ≡ false
yes_no true = refl
yes_no false = refl

value : (v : Option ℕ) → never (value_reply v) ≡ false
value None = refl
value (Some n) = refl

either : (b : Bool) (x y : Outcome) → never x.reply ≡ false → never y.reply ≡ false → never (cond b x y).reply ≡ false
either true x y one other = one
either false x y one other = other

-- what an operation answers
pub answers : (op : Op) (store : Store) → never (apply op store).reply ≡ false
answers (Transfer source target amount) store = either (nat_lt (balance_of source store) amount) _ _ refl refl
answers (Balance account) store = refl
answers Total store = refl
answers (Insert which.List key) store =
    either (has_key key store.keys) _ _ refl (either (length store.keys == store.layout.list) _ _ refl refl)
answers (Insert which.Tree key) store =
    either (is_some (value_of key store.items)) _ _ refl (either (length store.items == store.layout.tree) _ _ refl refl)
answers (Remove which.List key) store = yes_no (has_key key store.keys)
answers (Remove which.Tree key) store = yes_no (is_some (value_of key store.items))
answers (Member which.List key) store = yes_no (has_key key store.keys)
answers (Member which.Tree key) store = yes_no (is_some (value_of key store.items))
answers (Put key new) store =
    either (is_some (value_of key store.items)) _ _ refl (either (length store.items == store.layout.tree) _ _ refl refl)
answers (Get key) store = value (value_of key store.items)
answers (Await c) store = refl
answers OrElse store = refl

first_kept : (reply : Reply) (replies : List Reply) → never reply ≡ false → is_given_up (reply ∷ replies) ≡ false
first_kept Never replies kept = absurd (cc)
first_kept Moved replies kept = refl
first_kept Poor replies kept = refl
first_kept (Number n) replies kept = refl
first_kept Yes replies kept = refl
first_kept No replies kept = refl
first_kept Full replies kept = refl
first_kept Absent replies kept = refl

all_kept : (ops : List Op) (store : Store) → is_given_up (apply_all ops store).replies ≡ false
all_kept [] store = refl
all_kept (op ∷ ops) store =
    first_kept (apply op store).reply (apply_all ops (apply op store).store).replies (answers op store)

-- a job that is done is not given up
pub not_given_up : (ops : List Op) (store : Store) (replies : List Reply) →
    IsSomeAnd (apply_job ops store) (λ outcome. replies ≡ outcome.replies) → is_given_up replies ≡ false
not_given_up ops store replies = by (open_branch ops store)
  where
    by : (branch : Option (List Op)) → IsSomeAnd (run_branch branch store) (λ outcome. replies ≡ outcome.replies) →
        is_given_up replies ≡ false
    by None done = absurd done
    by (Some branch) done = ap is_given_up done ∙ all_kept branch store
