-- What an attempt has read, as its caller's own events tell.
use Rattle.std.proofs.Common.{◌≡◌, ◌==◌, ◌<◌, ◌⊎◌, ◌∷◌, ◌∙◌, ℕ, inl, inr, List, [], refl, ap, arith, sym, subst, true, false, Bool, ◌&&◌, if◌then◌else◌}
use Rattle.dstm_tl2.proofs.Base.{Event, LocalState, Table, Val, and_from, and_left, cases_Bool, cond-false, cond-true, eq-eqb, events_of, local, read_values, tl2}
use Rattle.dstm_machines.proofs.Own.{local_others, own_first, own_other}
use Rattle.dstm_machines.proofs.Runs.{local-events_of}
use Rattle.dstm_tl2_order.specs.Ended.{reads_of}

reads_skip : (t : Table) (e : Event) (es : List Event) (c i : ℕ) → (e.caller == c) ≡ false →
    reads_of t (e ∷ es) c i ≡ reads_of t es c i
reads_skip t e es c i q =
    cond-false ((e.caller == c) && ((local t (e ∷ es) c).begun == i)) (read_values (local t (e ∷ es) c).reads)
    (reads_of t es c i) (and_left (e.caller == c) ((local t (e ∷ es) c).begun == i) q)

abbrev reads_head : Bool → LocalState → ℕ → List (ℕ × Val) → List (ℕ × Val)
reads_head own l i more = if own && (l.begun == i) then read_values l.reads else more

reads_own : (t : Table) (es : List Event) (c i : ℕ) → reads_of t (events_of c es) c i ≡ reads_of t es c i
reads_own t [] c i = refl
reads_own t (e ∷ es) c i = elim (cases_Bool (e.caller == c)) [
  | inl q ↦
      ap (λ xs. reads_of t xs c i) (own_first e es c q)
      ∙ ap (λ l. reads_head (e.caller == c) l i (reads_of t (events_of c es) c i))
      (ap (λ xs. local t xs c) (sym (own_first e es c q)) ∙ local-events_of tl2 t (e ∷ es) c)
      ∙ ap (reads_head (e.caller == c) (local t (e ∷ es) c) i) (reads_own t es c i)
  | inr q ↦ ap (λ xs. reads_of t xs c i) (own_other e es c q) ∙ (reads_own t es c i) ∙ sym (reads_skip t e es c i q)
]

pub same_reads : (t : Table) (one other : List Event) (c i : ℕ) → events_of c one ≡ events_of c other →
    reads_of t one c i ≡ reads_of t other c i
same_reads t one other c i same =
    sym (reads_own t one c i) ∙ ap (λ xs. reads_of t xs c i) same ∙ reads_own t other c i

pub reads_so_far : (t : Table) (es : List Event) (c : ℕ) → 0 < (local t es c).begun →
    reads_of t es c (local t es c).begun ≡ read_values (local t es c).reads
reads_so_far t [] c some = absurd (omega (arith, some))
reads_so_far t (e ∷ es) c some = elim (cases_Bool (e.caller == c)) [
  | inl q ↦
      let n = (local t (e ∷ es) c).begun in
      cond-true ((e.caller == c) && (n == n)) (read_values (local t (e ∷ es) c).reads) (reads_of t es c n)
      (and_from (e.caller == c) (n == n) q (eq-eqb n n refl))
  | inr q ↦
      let other = local_others tl2 t es e c q in
      reads_skip t e es c (local t (e ∷ es) c).begun q
      ∙ ap (λ (l : LocalState). reads_of t es c l.begun) other
      ∙ reads_so_far t es c (subst (λ (l : LocalState). 0 < l.begun) other some)
      ∙ ap (λ (l : LocalState). read_values l.reads) (sym other)
]
