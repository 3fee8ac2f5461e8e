-- What holds of a call under way since its log is a run: of the objects that it has locked, and of its new versions.
use Rattle.std.proofs.lemmas.List.Elements.{All-head, All-tail}
use Rattle.std.proofs.Common.{◌≡◌, ◌==◌, ◌<◌, ◌+◌, ◌*◌, ◌⊎◌, ◌∷◌, ℕ, inl, inr, List, [], refl, arith, true, false, Option, Some, None, is_some}
use Rattle.std.proofs.lemmas.Bool.{cases_eq, ne_eqb}
use Rattle.dstm_model.specs.declared.value.Val.{Val}
use Rattle.dstm_tl2.specs.Rules.{IsHeld}
use Rattle.dstm_tl2.specs.Sharing.{table_of}
use Rattle.dstm_tl2.specs.State.{Hold, Read, hold_of, read_of}
use Rattle.dstm_tl2.specs.Words.{Table, objects}
use Rattle.dstm_tl2.proofs.Clock.{clock_ok}
use Rattle.dstm_tl2.proofs.Static.{ReadOk, ReadsOk}
use Rattle.dstm_tl2_words.specs.Seats.{Home, view_of}
use Rattle.dstm_tl2_order.specs.declared.again.TlAgain.{TlAgain}
use Rattle.dstm_tl2_steps.specs.declared.steps.Steps.{Steps}
use Rattle.dstm_tl2_order.specs.Order.{Due}
use Rattle.dstm_tl2_steps.specs.Under.{Began, Under, now}
use Rattle.dstm_tl2_steps.proofs.Bounds.{now_is, static_now}

-- a read that was recorded is of an object of the table
pub read_below : (t : Table) (sample : ℕ) (rs : List Read) (o : ℕ) → ReadsOk t sample rs →
    is_some (read_of o rs) ≡ true → o < objects t
read_below t sample [] o h i = absurd (cc)
read_below t sample (r ∷ rs) o h i =
    go (cases_eq r.object o) (λ j. read_below t sample rs o (All-tail (ReadOk t sample) r rs h) j)
  where
    go : (r.object ≡ o) ⊎ (r.object ≡ o → ⊥) → (is_some (read_of o rs) ≡ true → o < objects t) → o < objects t
    go (inl q) ih = let b = (All-head (ReadOk t sample) r rs h).0 in omega arith
    go (inr q) ih = ih (rw (ne_eqb r.object o q) at i)

module _ {L : Type 0} {holds : L → List Val → Type 0} {home : Home L} {b : Began} {steps : Steps L} {d : Due}
    {a : Option TlAgain} (u : Under holds home b steps d a) where
  -- an object that is locked is one of the table
  pub held_below : (o : ℕ) → IsHeld (now home steps) o → o < objects (table_of home.terms)
  held_below o h = go (hold_of o (now home steps).holds) refl h
    where
      go : (x : Option Hold) → hold_of o (now home steps).holds ≡ x → is_some x ≡ true →
          o < objects (table_of home.terms)
      go None q i = absurd (cc)
      go (Some k) q i =
          read_below (table_of home.terms) (now home steps).sample (now home steps).reads o (static_now u).read
          ((static_now u).locks o k q).read

  -- the new version of a commit is another than the recorded one
  pub new_word : (n o : ℕ) (k : Hold) → (now home steps).drawn ≡ Some n →
      hold_of o (now home steps).holds ≡ Some k → (2 * n + 2 == k.word) ≡ false
  new_word n o k q h =
      let clock = rw (now_is u) at (clock_ok (table_of home.terms) (view_of steps.seat).log u.run.run.run b.number) in
      ne_eqb (2 * n + 2) k.word (λ same.
      let r = ((static_now u).locks o k h).readable in
      let v = r.0 in let w = r.1 in let l = r.2 in
      let s = (clock.drawn n q).1 in omega arith)
