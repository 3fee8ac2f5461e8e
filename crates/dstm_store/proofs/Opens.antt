-- Which objects a job sets and opens for writing, operation by operation.
use Rattle.std.proofs.Common.{◌≡◌, ◌⊎◌, ◌∙◌, ℕ, ◌+◌, ◌<◌, List, [], ◌∷◌, ◌++◌, length, take, get_or, arith, refl, sym, ap, subst, inl, inr}
use Rattle.std.proofs.lemmas.List.{take_more, length-take-le}
use Rattle.std.proofs.lemmas.List.Elements.{All-pop}
use Rattle.std.specs.Prelude.{Ok, Some, All, zip, IsSome}
use Rattle.dstm_model.specs.declared.value.Val.{Val}
use Rattle.dstm_model.specs.declared.op.Op.{Op}
use Rattle.dstm_model.specs.declared.reply.Reply.{Reply}
use Rattle.dstm_model.specs.Store.{Store}
use Rattle.dstm_mem.specs.declared.memory.Mem.{Ghosts}
use Rattle.dstm_mem.specs.Operations.{Leads, OnlyReads}
use Rattle.dstm_mem.specs.Operates.{Applies, IsLook, IsUntouched, SetsAll}
use Rattle.dstm_store.specs.Opens.{IsOnlyRead, IsOpenedToSet}

zip-push : (ops : List Op) (op : Op) (replies : List Reply) (reply : Reply) → length replies ≡ length ops →
    zip (ops ++ op ∷ []) (replies ++ reply ∷ []) ≡ zip ops replies ++ (op, reply) ∷ []
zip-push [] op [] reply even = refl
zip-push [] op (r ∷ rs) reply even = absurd (let no : ⊥ = omega (arith, even) in no)
zip-push (p ∷ ps) op [] reply even = absurd (let no : ⊥ = omega (arith, even) in no)
zip-push (p ∷ ps) op (r ∷ rs) reply even =
    let fewer : length rs ≡ length ps = omega (arith, even) in
    ap (λ (ran : List (Op × Reply)). (p, r) ∷ ran) (zip-push ps op rs reply fewer)

-- what holds of each of the first operations with its reply, one more among them, holds of those before it, and of it
pub of-more : (P : Op × Reply → Type 0) (ops : List Op) (i : ℕ) (d : Op) (replies : List Reply) (reply : Reply)
    (more : List Reply) →
    i < length ops → length replies ≡ i → more ≡ replies ++ reply ∷ [] → All P (zip (take (i + 1) ops) more) →
    All P (zip (take i ops) replies) × P (get_or ops i d, reply)
of-more P ops i d replies reply more below count pushed all =
    let op = get_or ops i d in
    let even : length replies ≡ length (take i ops) = count ∙ sym (length-take-le i ops (omega (arith, below))) in
    let split = ap (λ (l : List Op). zip l more) (take_more ops i d below)
    ∙ ap (λ (rs : List Reply). zip (take i ops ++ op ∷ []) rs) pushed
    ∙ zip-push (take i ops) op replies reply even in
    All-pop P (zip (take (i + 1) ops) more) (zip (take i ops) replies) (Some (op, reply)) split all

module _ {S E : Type 0} (M : Ghosts S E) where
  -- ---- one operation

  -- one that only reads
  pub only_read-of_reads : {old new : S} → OnlyReads M old new → (o : ℕ) → IsOnlyRead M o old new
  only_read-of_reads reads o = record { sets = reads.sets o; opens = λ off. reads.opens off o }

  pub opened_to_set-of_read : {old new : S} {o : ℕ} → IsOnlyRead M o old new → IsOpenedToSet M o old new
  opened_to_set-of_read read = record {
    stays = λ some. subst IsSome (sym read.sets) some;
    opens = λ off. inl (read.opens off);
  }

  only_read-of_untouched : {old new : S} {o : ℕ} → IsUntouched M o old new → IsOnlyRead M o old new
  only_read-of_untouched same = record { sets = same.written; opens = λ off. same.opened }

  -- one that is a look, or is not about the object
  pub only_read-one : {old new : S} {In : ℕ → Type 0} {Is : List Val → Store → Type 0} (op : Op) (reply : Reply) →
      Applies M In Is op old new (Ok reply) → (o : ℕ) → IsLook op reply ⊎ ¬ (In o) → IsOnlyRead M o old new
  only_read-one op reply done o (inl look) = only_read-of_reads (done.quiet look) o
  only_read-one op reply done o (inr apart) = only_read-of_untouched (done.outside o apart)

  -- one that sets whatever it newly opens for writing, or is not about the object
  pub opened_to_set-one : {old new : S} {In : ℕ → Type 0} {Is : List Val → Store → Type 0} (op : Op) (reply : Reply) →
      Applies M In Is op old new (Ok reply) → (o : ℕ) → SetsAll op reply ⊎ ¬ (In o) → IsOpenedToSet M o old new
  opened_to_set-one op reply done o (inl all) =
      let marks = done.marks all in record { stays = marks.stays o; opens = λ off. marks.opens off o }
  opened_to_set-one op reply done o (inr apart) =
      opened_to_set-of_read (only_read-of_untouched (done.outside o apart))

  -- ---- operations one after the other

  pub only_read-then : {A : Type 0} {old mid new : S} {x : A} {o : ℕ} → Leads M old mid (Ok x) →
      IsOnlyRead M o old mid → IsOnlyRead M o mid new → IsOnlyRead M o old new
  only_read-then leads first second = record {
    sets = second.sets ∙ first.sets;
    opens = λ off. second.opens (ap M.all_write leads.place ∙ off) ∙ first.opens off;
  }

  pub opened_to_set-then : {A : Type 0} {old mid new : S} {x : A} {o : ℕ} → Leads M old mid (Ok x) →
      IsOpenedToSet M o old mid → IsOpenedToSet M o mid new → IsOpenedToSet M o old new
  opened_to_set-then leads first second = record {
    stays = λ some. second.stays (first.stays some);
    opens = λ off.
        elim (second.opens (ap M.all_write leads.place ∙ off)) [
          | inr set ↦ inr set
          | inl same ↦
              elim (first.opens off) [
                | inl before ↦ inl (same ∙ before)
                | inr set ↦ inr (second.stays set)
              ]
        ];
  }
