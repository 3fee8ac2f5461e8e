-- What a call on an attempt says, from what its caller's call says.
use Rattle.std.proofs.Common.{◌∙◌, ◌∷◌, ◌<◌, ◌≡◌, List, [], ap, arith, false, inl, inr, length, subst, sym, true, ℕ, refl}
use Rattle.std.specs.Prelude.{Err, IfOk, IsSome, Ok, OnOk, Result, Some, is_some}
use Rattle.std.proofs.lemmas.Bool.{cases_Bool, cases_eq}
use Rattle.dstm_tl2_engine.proofs.Base.{MarksAtMost, TlAgain, Val, value_in, with_value}
use Rattle.dstm_mem.proofs.WithSet.{found_by}
use Rattle.dstm_model.specs.Map.{value_at}
use Rattle.dstm_mem.specs.Memory.{with_set}
use Rattle.dstm_tl2_steps.proofs.Slots.{value_in-with_other, value_in-with_value}
use Rattle.dstm_tl2_engine.proofs.Opens.{not_some, value_in-last, value_in-more, value_in-stays}
use Rattle.dstm_tl2_engine.specs.Attempts.{Admits}
use Rattle.dstm_tl2_engine.specs.Callers.{TlCalled, handed, held, is_opened, objects_of, written}
use Rattle.dstm_tl2_engine.specs.Transactions.{Marks}

-- ---- what it hands out

-- an open finds the object's value in each map that is admitted
pub finds : {L : Type 0} (holds : L → List Val → Type 0) (n : TlCalled L) (r : Result Val TlAgain) (o objects : ℕ) →
    objects_of n ≡ objects → o < objects → IfOk r (λ v. Some v ≡ handed n o) →
    IfOk r (λ v. (map : List Val) → Admits holds n map → value_at (with_set map (written n)) o ≡ v)
finds holds n r o objects same exists value =
    found_by r (Admits holds n) (held n) (written n) o (λ map admitted.
    let size = admitted.length in
    let within : o < length map = omega arith in (within, admitted.agrees)) value

-- ---- what is open for writing

marks_at_most : {L : Type 0} {o : ℕ} {k n : TlCalled L} {value : Val} → Marks o k n value →
    MarksAtMost o (is_opened k) (is_opened n)
marks_at_most {o = o} {k = k} {value = value} m = record {
  kept = λ p some.
      ap (λ ws. is_some (value_in ws p)) m.writes
      ∙ ap is_some (value_in-stays k.writes ((o, value) ∷ []) p some) ∙ some;
  others = λ p other.
      ap (λ ws. is_some (value_in ws p)) m.writes ∙ ap is_some (value_in-more k.writes o value p other);
}

marks_now : {L : Type 0} {o : ℕ} {k n : TlCalled L} {value : Val} → is_opened k o ≡ false → Marks o k n value →
    is_opened n o ≡ true
marks_now {o = o} {k = k} {value = value} unopened m =
    rw (m.writes, value_in-last k.writes o value (not_some (value_in k.writes o) unopened)) refl

-- an open for writing marks the object, and no other
pub opens_marked : {L : Type 0} (o : ℕ) (k n : TlCalled L) (r : Result Val TlAgain) →
    (is_opened k o ≡ true → n ≡ k) → (is_opened k o ≡ false → IfOk r (λ v. Marks o k n v)) →
    OnOk r (MarksAtMost o (is_opened k) (is_opened n)) × OnOk r (is_opened n o ≡ true)
opens_marked o k n (Err e) again marks = (tt, tt)
opens_marked o k n (Ok v) again marks = elim (cases_Bool (is_opened k o)) [
  | inl open_now ↦
      let same : n ≡ k = again open_now in (
        record {
          kept = λ p some. ap (λ (k : TlCalled _). is_opened k p) same ∙ some;
          others = λ p other. ap (λ (k : TlCalled _). is_opened k p) same;
        },
        ap (λ (k : TlCalled _). is_opened k o) same ∙ open_now,
      )
  | inr not_yet ↦ (marks_at_most (marks not_yet), marks_now not_yet (marks not_yet))
]

-- a set leaves what is open for writing
pub set_opened : (o : ℕ) (v : Val) (writes : List (ℕ × Val)) (p : ℕ) → IsSome (value_in writes o) →
    is_some (value_in (with_value o v writes) p) ≡ is_some (value_in writes p)
set_opened o v writes p some = elim (cases_eq p o) [
  | inl same ↦
      subst (λ n. is_some (value_in (with_value o v writes) n) ≡ is_some (value_in writes n)) (sym same)
      (ap is_some (value_in-with_value o v writes some) ∙ sym some)
  | inr other ↦ ap is_some (value_in-with_other o v writes p other)
]
