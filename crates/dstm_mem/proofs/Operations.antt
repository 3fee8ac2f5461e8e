-- Operations one after the other on the same memory.
use Rattle.std.proofs.Common.{ℕ, refl, ◌∙◌, ap, subst, inl, inr, sym, IsTrue}
use Rattle.std.specs.Prelude.{List, Result, Ok, Err, OnOk, IfOk, IsSome}
use Rattle.std.proofs.lemmas.Result.{IfOk-weaker}
use Rattle.dstm_model.specs.declared.value.Val.{Val}
use Rattle.dstm_model.specs.declared.op.Op.{Op}
use Rattle.dstm_model.specs.declared.reply.Reply.{Reply}
use Rattle.dstm_model.specs.Store.{Store}
use Rattle.dstm_model.specs.Objects.{Does}
use Rattle.dstm_mem.specs.declared.memory.Mem.{Ghosts}
use Rattle.dstm_mem.specs.Memory.{with_set}
use Rattle.dstm_mem.specs.Operations.{IsReady, Leads, OnlyReads, OpensToSet}
use Rattle.dstm_mem.proofs.WithSet.{with_set-same}

module _ {S E : Type 0} (M : Ghosts S E) where
  -- what a live memory with a map is without any call
  pub leads-none : {A : Type 0} (old : S) (x : A) → ((map : List Val) × M.Admits old map) → IsTrue (M.is_live old) →
      Leads M old old (Ok x)
  leads-none old x admits live = record {
    place = refl;
    objects = refl;
    narrows = λ map admitted. admitted;
    admits = admits;
    live = live;
    holds = λ o some. refl;
    ended = tt;
  }

  -- one operation after the other
  pub leads-then : {A B : Type 0} {old mid new : S} {x : A} {y : B} → Leads M old mid (Ok x) → Leads M mid new (Ok y) →
      Leads M old new (Ok y)
  leads-then first second = record {
    place = second.place ∙ first.place;
    objects = second.objects ∙ first.objects;
    narrows = λ map admitted. first.narrows map (second.narrows map admitted);
    admits = second.admits;
    live = second.live;
    holds = λ o some.
        let same = first.holds o some in
        second.holds o (subst IsSome (sym same) some) ∙ same;
    ended = tt;
  }

  -- the same with another answer
  pub leads-answers : {A B : Type 0} {old new : S} {x : A} {y : B} → Leads M old new (Ok x) → Leads M old new (Ok y)
  leads-answers {new = new} {y = y} leads = leads-then leads (leads-none new y leads.admits leads.live)

  -- the second gives up
  pub leads-ended : {A B C : Type 0} {old mid new : S} {x : A} {e : E} → Leads M old mid (Ok x) →
      Leads {A = B} M mid new (Err e) → Leads {A = C} M old new (Err e)
  leads-ended first second = record {
    place = second.place ∙ first.place;
    objects = second.objects ∙ first.objects;
    narrows = λ map admitted. first.narrows map (second.narrows map admitted);
    admits = tt;
    live = tt;
    holds = tt;
    ended = second.ended;
  }

  -- ---- reads

  pub only_reads-none : (old : S) → OnlyReads M old old
  only_reads-none old = record { sets = λ o. refl; opens = λ off o. refl }

  pub only_reads-then : {A : Type 0} {old mid new : S} {x : A} → Leads M old mid (Ok x) → OnlyReads M old mid →
      OnlyReads M mid new → OnlyReads M old new
  only_reads-then leads first second = record {
    sets = λ o. second.sets o ∙ first.sets o;
    opens = λ off o. second.opens (ap M.all_write leads.place ∙ off) o ∙ first.opens off o;
  }

  -- ---- writes

  pub opens_to_set-none : (old : S) → OpensToSet M old old
  opens_to_set-none old = record { stays = λ o some. some; opens = λ off o. inl refl }

  pub opens_to_set-of_reads : {old new : S} → OnlyReads M old new → OpensToSet M old new
  opens_to_set-of_reads reads = record {
    stays = λ o some. subst IsSome (sym (reads.sets o)) some;
    opens = λ off o. inl (reads.opens off o);
  }

  pub opens_to_set-then : {A : Type 0} {old mid new : S} {x : A} → Leads M old mid (Ok x) → OpensToSet M old mid →
      OpensToSet M mid new → OpensToSet M old new
  opens_to_set-then {new = new} leads first second = record {
    stays = λ o some. second.stays o (first.stays o some);
    opens = λ off o.
        elim (second.opens (ap M.all_write leads.place ∙ off) o) [
          | inr set ↦ inr set
          | inl same ↦
              elim (first.opens off o) [
                | inl before ↦ inl (same ∙ before)
                | inr set ↦ inr (second.stays o set)
              ]
        ];
  }

  -- an operation after which each map stands for something again leaves the memory ready for the next
  pub ready-after : {A B : Type 0} (n : ℕ) (P : List Val → A → Type 0) (old new : S) (r : Result B E) →
      IsReady M n P old → Leads M old new r →
      IfOk r (λ x. (map : List Val) → M.Admits new map → (a : A) → P (with_set map (M.written old)) a →
      (b : A) × P (with_set map (M.written new)) b) →
      OnOk r (IsReady M n P new)
  ready-after n P old new (Ok x) ready leads stands = record {
    objects = leads.objects ∙ ready.objects;
    live = leads.live;
    lawful = λ map admitted.
        let (a, is) = ready.lawful map (leads.narrows map admitted) in
        stands map admitted a is;
  }
  ready-after n P old new (Err e) ready leads stands = tt

  -- so after an operation that sets nothing
  pub ready-reads : {A B : Type 0} {n : ℕ} {P : List Val → A → Type 0} {old new : S} (r : Result B E) →
      IsReady M n P old → Leads M old new r → OnOk r (OnlyReads M old new) → OnOk r (IsReady M n P new)
  ready-reads {P = P} {old} {new} (Ok x) ready leads reads =
      ready-after _ P old new (Ok x) ready leads
      (λ map admitted a is.
      (a, subst (λ now. P now a) (sym (with_set-same map (M.written old) (M.written new) reads.sets)) is))
  ready-reads (Err e) ready leads reads = tt

  -- so after an operation that does what the plain store does
  pub ready-does : {n : ℕ} {Is : List Val → Store → Type 0} {old new : S} (op : Op) (r : Result Reply E) →
      IsReady M n Is old → Leads M old new r →
      IfOk r (λ reply. (map : List Val) → M.Admits new map →
      Does Is op (with_set map (M.written old)) (with_set map (M.written new)) reply) →
      OnOk r (IsReady M n Is new)
  ready-does {n} {Is} {old} {new} op r ready leads does =
      ready-after n Is old new r ready leads
      (IfOk-weaker r _ _ (λ reply done map admitted store is. (_, (done map admitted store is).1)) does)
