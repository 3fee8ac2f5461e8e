-- Calls that let no read go.
use Rattle.std.proofs.Common.{◌≡◌, ◌∙◌, ◌++◌, ◌∷◌, Bool, List, [], None, Ok, Err, true, false, ap, refl, ℕ}
use Rattle.std.specs.Prelude.{IfErr, IsSome, IsTrue, OnOk, Option, Some, Result, is_some}
use Rattle.std.proofs.lemmas.Bool.{cond_both}
use Rattle.dstm_engine.proofs.Base.{Again, Doing, Event, KeepsReads, Kind, Reading, Release, Task, Val, Work, Writing, events_of}
use Rattle.dstm_progress.specs.Lives.{lets_go}
use Rattle.dstm_progress.proofs.Releases.{NoneIn, call_none}
use Rattle.dstm_engine.proofs.Opens.{none_of}
use Rattle.dstm_engine.specs.Callers.{Called, held, is_opened, shape_of, state}
use Rattle.dstm_engine.specs.Calls.{Performs, reading}
use Rattle.dstm_engine.specs.Makes.{count_let_go, let_go}
use Rattle.dstm_engine.specs.Transactions.{Leaves, Stays}

release_is : (k : Kind) → lets_go k ≡ true → k ≡ Release
release_is Release h = refl
release_is k h = absurd (cc)

none_added : (es before : List Event) → NoneIn es → count_let_go (es ++ before) ≡ count_let_go before
none_added [] before h = refl
none_added (e ∷ es) before h =
    cond_both (lets_go e.kind) _ _ (λ n. n ≡ count_let_go before) (λ q. absurd (h.1 (release_is e.kind q)))
    (λ _. none_added es before h.0)

module _ {L : Type 0} (holds : L → List Val → Type 0) (k n : Called L) where
  -- a call that is not to let a read go lets none go
  pub lets_none_go : (t : Task) (a : Option Again) → KeepsReads (state k) t → Performs holds t k n a →
      let_go n ≡ let_go k
  lets_none_go t a keeps p =
      ap (λ c. count_let_go (events_of c n.log)) p.same.1 ∙ ap count_let_go p.own
      ∙ none_added p.events (events_of k.number k.log)
      (call_none t (shape_of k) (state k) k.generator p.events keeps p.call.obeys)

  -- an open of an object that is open already makes no event, and another one those of its work
  pub by_open : (w : Work) (r : Result Val Again) (is : Bool) → (is ≡ true → n ≡ k) →
      (is ≡ false → OnOk r (Stays holds w k n)) → IfErr r (Leaves holds w k n) → (P : Type 0) → (n ≡ k → P) →
      ((a : Option Again) → Performs holds (Doing w) k n a → P) → P
  by_open w (Err e) is again stays leaves P none one = one (Some e) leaves.steps
  by_open w (Ok v) true again stays leaves P none one = none (again refl)
  by_open w (Ok v) false again stays leaves P none one = one None (stays refl).steps

  -- so it lets none go either
  pub read_keeps : (o : ℕ) (r : Result Val Again) → (IsSome (held k o) → n ≡ k) →
      (held k o ≡ None → OnOk r (Stays holds (reading (shape_of k) o) k n)) →
      IfErr r (Leaves holds (reading (shape_of k) o) k n) → let_go n ≡ let_go k
  read_keeps o r again stays leaves =
      by_open (reading (shape_of k) o) r (is_some (held k o)) again (λ no. stays (none_of (held k o) no)) leaves
      (let_go n ≡ let_go k) (λ same. ap let_go same) (λ a. lets_none_go (Doing (reading (shape_of k) o)) a
      (cond_both (shape_of k).all_write (Writing o) (Reading o) (λ (w : Work). KeepsReads (state k) (Doing w)) (λ _. tt)
      (λ _. tt)))

  pub write_keeps : (o : ℕ) (r : Result Val Again) → (IsTrue (is_opened k o) → n ≡ k) →
      (is_opened k o ≡ false → OnOk r (Stays holds (Writing o) k n)) → IfErr r (Leaves holds (Writing o) k n) →
      let_go n ≡ let_go k
  write_keeps o r again stays leaves =
      by_open (Writing o) r (is_opened k o) again stays leaves (let_go n ≡ let_go k) (λ same. ap let_go same)
      (λ a. lets_none_go (Doing (Writing o)) a tt)

-- a memory that tells it too is the same
pub same_both : {A : Type 0} {a b : A} (m n : ℕ) → a ≡ b → m ≡ n → ◌≡◌ {A = A × ℕ} (a, m) (b, n)
same_both {A = A} {b = b} m n p q = ap (λ (x : A). (x, m)) p ∙ ap (λ (i : ℕ). (b, i)) q
