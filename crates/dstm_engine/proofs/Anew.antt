-- Whether the next attempt is of a new transaction, after an attempt that was made.
use Rattle.std.proofs.Common.{◌≡◌, ◌≢◌, ◌∙◌, ◌==◌, ◌||◌, ◌+◌, ◌-◌, ◌<◌, ◌≤◌, Bool, true, false, List, [], arith, inl, inr, refl, subst, sym, ℕ}
use Rattle.std.specs.Prelude.{Option, None, Some, IfSome, is_none}
use Rattle.std.proofs.lemmas.Bool.{ne_eqb}
use Rattle.dstm_engine.proofs.Base.{Again, Core, Event, Outside, Phase, Shape, StatusWord, StaysAt, Val, ended_as, given, is_new, local, own_attempt, word}
use Rattle.dstm_core.proofs.Statuses.{own_status}
use Rattle.dstm_core.proofs.Underway.{is_outside_now}
use Rattle.dstm_progress.proofs.Ends.{callers_in_range, end_stays}
use Rattle.dstm_progress.proofs.Sound.{sound}
use Rattle.dstm_engine.specs.Callers.{Called, shape_of, state}
use Rattle.dstm_engine.specs.Endings.{Attempts}
use Rattle.dstm_engine.specs.Outcomes.{IsLeft, Promises}

not_new : (n m : ℕ) (b : Bool) → n ≡ m + 1 → (n == 0 || b) ≡ b
not_new n m b q = let z : n == 0 ≡ false = ne_eqb n 0 (λ h. absurd (omega (arith, q, h))) in rw z refl

below_4 : (p : Phase) → given p < 4
below_4 Outside = omega arith
below_4 p = omega arith

one_end : (b d : Bool) → ended_as b ≡ ended_as d → b ≡ d
one_end true true q = refl
one_end false false q = refl
one_end true false q = absurd (omega (arith, q))
one_end false true q = absurd (omega (arith, q))

-- the status of an attempt that has ended tells whether it has committed
told_there : (s : Shape) (log : List Event) (c : ℕ) → Core s log → 1 ≤ (local s log c).begun → (b : Bool) →
    word s log (StatusWord (own_attempt s (local s log c))) ≡ ended_as b → (local s log c).committed ≡ b
told_there s log c core some b is = elim (is_outside_now (local s log c).phase) [
  | inl out ↦ one_end (local s log c).committed b (sym (end_stays s log c out some [] core) ∙ is)
  | inr live ↦ inside b is live
]
  where
    inside : (b : Bool) → word s log (StatusWord (own_attempt s (local s log c))) ≡ ended_as b →
        (local s log c).phase ≢ Outside → (local s log c).committed ≡ b
    inside false is live = (sound s log core c).goes live
    inside true is live =
        absurd (elim (own_status s log core c ((callers_in_range s log c core).1 ((sound s log core c).number some)).0
        live) [
          | inl g ↦ let less = below_4 (local s log c).phase in omega (arith, is, g, less)
          | inr g ↦ omega (arith, is, g)
        ])

-- the next attempt is of a new transaction once one has committed, and of the same one once it was aborted
pub new_committed : {L : Type 0} (n : Called L) → Core (shape_of n) n.log → StaysAt (shape_of n) n.log n.number 4 →
    1 ≤ (state n).begun → is_new (state n) ≡ true
new_committed n core stays some =
    not_new (state n).begun ((state n).begun - 1) (state n).committed (omega (arith, some))
    ∙ told_there (shape_of n) n.log n.number core some true (stays [] core)

pub same_aborted : {L : Type 0} (n : Called L) → Core (shape_of n) n.log → StaysAt (shape_of n) n.log n.number 5 →
    1 ≤ (state n).begun → is_new (state n) ≡ false
same_aborted n core stays some =
    not_new (state n).begun ((state n).begun - 1) (state n).committed (omega (arith, some))
    ∙ told_there (shape_of n) n.log n.number core some false (stays [] core)

pub new_after : {L : Type 0} (holds : L → List Val → Type 0) (k n : Called L) (again : Option Again) →
    Attempts holds k n again → is_new (state n) ≡ is_none again
new_after holds k n again a = not_new (state n).begun (state k).begun (state n).committed a.begun ∙ by again a.answers a.status
  where
    core : Core (shape_of n) n.log
    core = subst (λ h. Core h.terms.shape n.log) (sym a.same.0) a.run.run.core

    some : 1 ≤ (state n).begun
    some = let b = a.begun in omega (arith, b)

    by : (o : Option Again) → o ≡ n.left → (o ≡ None → StaysAt (shape_of n) n.log n.number 4) →
        (state n).committed ≡ is_none o
    by None left stays = told_there (shape_of n) n.log n.number core some true (stays refl [] core)
    by (Some x) left stays =
        let was : IsLeft n x × Promises n x =
        subst (λ o. IfSome o (λ (y : Again). IsLeft n y × Promises n y)) (sym left) a.ended.left in
        told_there (shape_of n) n.log n.number core some false (was.0.aborted [] core)
