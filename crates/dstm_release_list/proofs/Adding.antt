-- How many reads an operation adds that walked to a place.
use Rattle.std.proofs.Common.{◌≡◌, ◌≢◌, ◌⊎◌, ◌∙◌, ℕ, ◌+◌, ◌≤◌, List, [], ◌∷◌, length, IsTrue, arith, refl, sym, subst}
use Rattle.std.proofs.Common.{inl, inr}
use Rattle.std.specs.Prelude.{Option, Some, None, Contains, IsSome, is_some}
use Rattle.std.proofs.lemmas.Bool.{cases_eq}
use Rattle.std.proofs.lemmas.List.Elements.{Contains-append_right}
use Rattle.dstm_model.specs.declared.reply.Reply.{Reply}
use Rattle.dstm_model.specs.declared.reply.Reply.TheVariants.{Yes, Full}
use Rattle.dstm_model.specs.Store.{yes_or_no}
use Rattle.dstm_model.specs.Objects.{free_object, node_object}
use Rattle.dstm_mem.specs.declared.memory.Mem.{Ghosts}
use Rattle.dstm_mem.proofs.Few.{first_or_other}
use Rattle.dstm_region.specs.declared.region.Region.{Region}
use Rattle.dstm_list.specs.declared.node.Node.{Node}
use Rattle.dstm_list.specs.declared.walk.Place.{Place}
use Rattle.dstm_list.specs.Reads.{IsRead, AddsNoRead, AddsReadOf}
use Rattle.dstm_list.proofs.Reading.{unread-opened}
use Rattle.dstm_release_list.specs.Walk.{AddsToPlace, AddsAtMost, most_of_insert, most_of_remove}

-- ---- elements

pub then_first : (x : ℕ) (xs : List ℕ) (y : ℕ) → y ≡ x → Contains (x ∷ xs) y
then_first x xs y same = (0, omega arith, sym same)

pub then_other : (x : ℕ) (xs : List ℕ) (y : ℕ) → Contains xs y → Contains (x ∷ xs) y
then_other x xs y has = Contains-append_right (x ∷ []) xs y has

cases_Contains : (xs : List ℕ) (y : ℕ) → Contains xs y ⊎ ¬ Contains xs y
cases_Contains [] y = inr (λ has. let k = has.1 in omega arith)
cases_Contains (x ∷ xs) y =
    elim (cases_eq y x) [
      | inl same ↦ inl (then_first x xs y same)
      | inr other ↦
          elim (cases_Contains xs y) [
            | inl has ↦ inl (then_other x xs y has)
            | inr none ↦
                inr (λ has. elim (first_or_other x xs y has) [
                  | inl same ↦ other (sym same)
                  | inr later ↦ none later
                ])
          ]
    ]

module _ {S E : Type 0} (M : Ghosts S E) where
  adds-listed : {old new : S} (most : ℕ) (objects : List ℕ) → length objects ≤ most →
      ((p : ℕ) → ¬ Contains objects p → IsRead M new p → IsSome (M.held old p)) → AddsAtMost most M old new
  adds-listed {old} most objects few others = record {
    objects = objects;
    few = few;
    each = λ p read. elim (cases_Contains objects p) [
      | inl has ↦ inr has
      | inr none ↦ inl (others p none read)
    ];
  }

  -- ---- after a walk

  -- what stays a read of the walk is one of the three
  pub three-walked : {old mid : S} {region : Region} {place : Place} → AddsToPlace M region old mid place →
      AddsAtMost 3 M old mid
  three-walked {region = region} {place = place} walked =
      let begin = region.first in
      let link = place.link in
      let other = walked.other in
      adds-listed 3 (link ∷ (begin ∷ (other ∷ []))) (omega arith) (λ p none read.
      walked.each p (λ e. none (then_first link (begin ∷ (other ∷ [])) p e))
      (λ e. none (then_other link (begin ∷ (other ∷ [])) p (then_first begin (other ∷ []) p e)))
      (λ e. none (then_other link (begin ∷ (other ∷ [])) p (then_other begin (other ∷ []) p (then_first other [] p e))))
      read)

  adds-kept : {old mid new : S} {most : ℕ} → AddsAtMost most M old mid → AddsNoRead M mid new →
      AddsAtMost most M old new
  adds-kept adds none = record { objects = adds.objects; few = adds.few; each = λ p read. adds.each p (none p read) }

  adds-also : {old mid new : S} {most : ℕ} (o : ℕ) → AddsAtMost most M old mid → AddsReadOf M o mid new →
      AddsAtMost (most + 1) M old new
  adds-also o adds also = record {
    objects = o ∷ adds.objects;
    few = omega (arith, adds.few);
    each = λ p read. elim (cases_eq p o) [
      | inl same ↦ inr (then_first o adds.objects p same)
      | inr other ↦ elim (adds.each p (also p other read)) [
        | inl held ↦ inl held
        | inr has ↦ inr (then_other o adds.objects p has)
      ]
    ];
  }

  -- where the object that links to the place is opened for writing it is no read
  two : {old mid new : S} {region : Region} {place : Place} → AddsToPlace M region old mid place →
      AddsNoRead M mid new → IsTrue (M.is_opened new place.link) → AddsAtMost 2 M old new
  two {new = new} {region = region} {place = place} walked none opened =
      let begin = region.first in
      let other = walked.other in
      adds-listed 2 (begin ∷ (other ∷ [])) (omega arith) (λ p out read.
      walked.each p (λ e. unread-opened M place.link opened (subst (IsRead M new) e read))
      (λ e. out (then_first begin (other ∷ []) p e))
      (λ e. out (then_other begin (other ∷ []) p (then_first other [] p e))) (none p read))

  -- so is the node that comes next where it is opened, too
  one : {old mid new : S} {region : Region} {place : Place} → AddsToPlace M region old mid place →
      AddsNoRead M mid new → IsSome place.node → IsTrue (M.is_opened new place.link) →
      IsTrue (M.is_opened new (node_object region.first place.before.next)) → AddsAtMost 1 M old new
  one {new = new} {region = region} {place = place} walked none some opened node_opened =
      let begin = region.first in
      adds-listed 1 (begin ∷ []) (omega arith) (λ p out read.
      walked.each p (λ e. unread-opened M place.link opened (subst (IsRead M new) e read))
      (λ e. out (then_first begin [] p e)) (λ e. unread-opened M (node_object begin place.before.next) node_opened
      (subst (IsRead M new) (e ∙ walked.node some) read)) (none p read))

  pub adds-insert : {old mid new : S} {region : Region} {place : Place} (reply : Reply) →
      AddsToPlace M region old mid place → AddsReadOf M (free_object region.first) mid new →
      (reply ≢ Full → AddsNoRead M mid new) → (reply ≡ Yes → IsTrue (M.is_opened new place.link)) →
      AddsAtMost (most_of_insert reply) M old new
  adds-insert {region = region} {place = place} Full walked looked reads opened =
      adds-also (free_object region.first) (three-walked walked) looked
  adds-insert {region = region} {place = place} Yes walked looked reads opened =
      two walked (reads (λ e. cc)) (opened refl)
  adds-insert {region = region} {place = place} reply walked looked reads opened =
      adds-kept (three-walked walked) (reads (λ e. cc))

  node_some : (node : Option Node) → Yes ≡ yes_or_no (is_some node) → IsSome node
  node_some None is = absurd (let no : ⊥ = cc in no)
  node_some (Some n) is = refl

  pub adds-remove : {old mid new : S} (region : Region) (place : Place) (reply : Reply) →
      AddsToPlace M region old mid place → AddsNoRead M mid new → reply ≡ yes_or_no (is_some place.node) →
      (reply ≡ Yes → IsTrue (M.is_opened new place.link)) →
      (reply ≡ Yes → IsTrue (M.is_opened new (node_object region.first place.before.next))) →
      AddsAtMost (most_of_remove reply) M old new
  adds-remove region place Yes walked reads there opened node_opened =
      one walked reads (node_some place.node there) (opened refl) (node_opened refl)
  adds-remove region place reply walked reads there opened node_opened = adds-kept (three-walked walked) reads
