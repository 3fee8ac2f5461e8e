-- What the list's operations touch, where reads are let go.
use Rattle.std.proofs.Common.{◌≡◌, ◌≢◌, ◌⊎◌, ◌∙◌, ℕ, ◌+◌, ◌≤◌, List, ◌∷◌, ◌++◌, false, refl, sym, subst, inl, inr}
use Rattle.std.proofs.Common.{arith, length-append}
use Rattle.std.specs.Prelude.{IsTrue, Result, Ok, Err, IfOk, OnOk, IsSome, Contains}
use Rattle.std.proofs.lemmas.Bool.{cases_eq, cases_Bool}
use Rattle.std.proofs.lemmas.List.Elements.{Contains-append_left, Contains-append_right}
use Rattle.dstm_model.specs.declared.layout.Layout.{Layout}
use Rattle.dstm_model.specs.declared.op.Op.TheVariants.{Member}
use Rattle.dstm_model.specs.declared.op.Which.TheVariants as which
use Rattle.dstm_model.specs.declared.reply.Reply.{Reply}
use Rattle.dstm_model.specs.declared.reply.Reply.TheVariants.{Yes}
use Rattle.dstm_model.specs.Objects.{list_begin, free_object, node_object}
use Rattle.dstm_mem.specs.declared.memory.Mem.{Ghosts}
use Rattle.dstm_mem.specs.Memory.{HoldsAtMost}
use Rattle.dstm_mem.specs.Operations.{IsFresh, OnlyReads, OpensToSet}
use Rattle.dstm_mem.specs.Operates.{Applies}
use Rattle.dstm_region.specs.Region.{list_region}
use Rattle.dstm_list.specs.List.{IsList, IsOfList, SameButThree}
use Rattle.dstm_list.specs.Reads.{IsRead}
use Rattle.dstm_release_list.specs.Walk.{AddsAtMost, most_of_insert, most_of_remove}
use Rattle.dstm_release_list.proofs.Adding.{then_first, then_other}
use Rattle.dstm_store.specs.Keeps.{IsTouched, TouchesAtMost}

cases_Yes : (reply : Reply) → (reply ≡ Yes) ⊎ (reply ≢ Yes)
cases_Yes Yes = inl refl
cases_Yes reply = inr (λ e. cc)

pub inserts_few : (reply : Reply) → reply ≢ Yes → most_of_insert reply ≤ 5
inserts_few Yes other = absurd (other refl)
inserts_few reply other = omega arith

pub removes_few : (reply : Reply) → reply ≢ Yes → most_of_remove reply ≤ 4
removes_few Yes other = absurd (other refl)
removes_few reply other = omega arith

module _ {S E : Type 0} (M : Ghosts S E) where
  -- ---- of one operation

  is_read : (memory : S) (o : ℕ) → IsSome (M.held memory o) → M.is_opened memory o ≡ false → IsRead M memory o
  is_read memory o held unopened = rw (held, unopened) refl

  -- one that only reads touches what it reads
  pub touches-reads : {old new : S} (most k : ℕ) → k ≤ most → M.all_write (M.place old) ≡ false → OnlyReads M old new →
      AddsAtMost k M old new → TouchesAtMost most M old new
  touches-reads {old} {new} most k fits off only adds = record {
    objects = adds.objects;
    few = omega (arith, adds.few, fits);
    each = λ o touched. elim touched [
      | inl held ↦ elim (cases_Bool (M.is_opened new o)) [
        | inl opened ↦ inl (inr (inr (sym (only.opens off o) ∙ opened)))
        | inr unopened ↦ elim (adds.each o (is_read new o held unopened)) [
          | inl before ↦ inl (inl before)
          | inr has ↦ inr has
        ]
      ]
      | inr (inl set) ↦ inl (inr (inl (subst IsSome (only.sets o) set)))
      | inr (inr opened) ↦ inl (inr (inr (sym (only.opens off o) ∙ opened)))
    ];
  }

  -- one that sets three objects touches these, too
  pub touches-sets : {old new : S} (layout : Layout) (most k : ℕ) → k + 3 ≤ most → M.all_write (M.place old) ≡ false →
      OpensToSet M old new → SameButThree (list_region layout) (M.written old) (M.written new) →
      AddsAtMost k M old new → TouchesAtMost most M old new
  touches-sets {old} {new} layout most k fits off marks same adds =
      let link = same.0 in
      let node = node_object (list_begin layout) same.1.0 in
      let free = free_object (list_begin layout) in
      let all : List ℕ = link ∷ (node ∷ (free ∷ adds.objects)) in
      let set : (o : ℕ) → IsSome (M.written new o) → IsTouched M old o ⊎ Contains all o =
      λ o is. elim (cases_eq o link) [
        | inl one ↦ inr (then_first link (node ∷ (free ∷ adds.objects)) o one)
        | inr not_link ↦ elim (cases_eq o node) [
          | inl two ↦
              inr (then_other link (node ∷ (free ∷ adds.objects)) o (then_first node (free ∷ adds.objects) o two))
          | inr not_node ↦ elim (cases_eq o free) [
            | inl three ↦
                inr (then_other link (node ∷ (free ∷ adds.objects)) o
                (then_other node (free ∷ adds.objects) o (then_first free adds.objects o three)))
            | inr not_free ↦ inl (inr (inl (subst IsSome (same.1.1 o not_link not_node not_free) is)))
          ]
        ]
      ] in
      let marked : (o : ℕ) → IsTrue (M.is_opened new o) → IsTouched M old o ⊎ Contains all o =
      λ o is. elim (marks.opens off o) [
        | inl before ↦ inl (inr (inr (sym before ∙ is)))
        | inr is_set ↦ set o is_set
      ] in
      record {
        objects = all;
        few = omega (arith, adds.few, fits);
        each = λ o touched. elim touched [
          | inl held ↦ elim (cases_Bool (M.is_opened new o)) [
            | inl opened ↦ marked o opened
            | inr unopened ↦ elim (adds.each o (is_read new o held unopened)) [
              | inl before ↦ inl (inl before)
              | inr has ↦
                  inr (then_other link (node ∷ (free ∷ adds.objects)) o
                  (then_other node (free ∷ adds.objects) o (then_other free adds.objects o has)))
            ]
          ]
          | inr (inl is) ↦ set o is
          | inr (inr opened) ↦ marked o opened
        ];
      }

  -- a change, whose answer says how many reads it adds at most: it sets three objects where it says Yes, and else none
  pub touches-change : (old new : S) (layout : Layout) (most : ℕ) (most_of : Reply → ℕ) (r : Result Reply E) →
      most_of Yes + 3 ≤ most → ((reply : Reply) → reply ≢ Yes → most_of reply ≤ most) →
      IfOk r (λ reply. AddsAtMost (most_of reply) M old new) → IfOk r (λ reply. Unit {0} → OpensToSet M old new) →
      IfOk r (λ reply. reply ≢ Yes → OnlyReads M old new) →
      OnOk r (SameButThree (list_region layout) (M.written old) (M.written new)) → M.all_write (M.place old) ≡ false →
      OnOk r (TouchesAtMost most M old new)
  touches-change old new layout most most_of (Ok reply) fits_yes fits adds marks quiet same off =
      elim (cases_Yes reply) [
        | inl is_yes ↦
            touches-sets layout most (most_of Yes) fits_yes off (marks tt) same
            (subst (λ (r : Reply). AddsAtMost (most_of r) M old new) is_yes adds)
        | inr other ↦ touches-reads most (most_of reply) (fits reply other) off (quiet other) adds
      ]
  touches-change old new layout most most_of (Err e) fits_yes fits adds marks quiet same off = tt

  pub touches-member : (old new : S) (layout : Layout) (key : ℕ) (r : Result Reply E) →
      OnOk r (AddsAtMost 3 M old new) →
      Applies M (IsOfList layout) (IsList layout) (Member which.List key) old new r →
      M.all_write (M.place old) ≡ false → OnOk r (TouchesAtMost 3 M old new)
  touches-member old new layout key (Ok reply) adds done off =
      touches-reads 3 3 (omega arith) off (done.quiet tt) adds
  touches-member old new layout key (Err e) adds done off = tt

  -- ---- of operations one after the other

  pub touches-then : {old mid new : S} (a b : ℕ) → TouchesAtMost a M old mid → TouchesAtMost b M mid new →
      TouchesAtMost (a + b) M old new
  touches-then a b first second = record {
    objects = first.objects ++ second.objects;
    few = omega (arith, length-append first.objects second.objects, first.few, second.few);
    each = λ o touched. elim (second.each o touched) [
      | inr has ↦ inr (Contains-append_right first.objects second.objects o has)
      | inl before ↦ elim (first.each o before) [
        | inl in_old ↦ inl in_old
        | inr has ↦ inr (Contains-append_left first.objects second.objects o has)
      ]
    ];
  }

  untouched : (old : S) (o : ℕ) → IsFresh M old → ¬ IsTouched M old o
  untouched old o fresh (inl held) = absurd (let none = fresh.unread o in let no : ⊥ = cc in no)
  untouched old o fresh (inr (inl set)) = absurd (let none = fresh.unwritten o in let no : ⊥ = cc in no)
  untouched old o fresh (inr (inr opened)) = absurd (let none = fresh.unopened o in let no : ⊥ = cc in no)

  -- where nothing was touched before, what is held is among what is touched
  pub holds-touched : {old new : S} (n most : ℕ) → IsFresh M old → n ≤ most → TouchesAtMost n M old new →
      HoldsAtMost most (M.held new)
  holds-touched {old} n most fresh fits touches = record {
    objects = touches.objects;
    few = omega (arith, touches.few, fits);
    each = λ o held. elim (touches.each o (inl held)) [
      | inl before ↦ absurd (untouched old o fresh before)
      | inr has ↦ has
    ];
  }
