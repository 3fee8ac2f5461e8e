-- A read that was found stale: the event that found it so.
use Rattle.std.proofs.Common.{◌||◌, ◌∙◌, ◌∷◌, ◌≡◌, ◌≢◌, ◌⊎◌, List, None, [], ap, arith, false, inl, inr, is_some, refl, true, ℕ, slice_get}
use Rattle.dstm_core.proofs.Base.{AllowedAs, Event, LocalState, after, nat_tests, or_read, or_right}
use Rattle.dstm_order.proofs.Base.{Check, Doing, Drawn, Kind, Lcg, LookObj, Obeys, Outside, Quit, Running, Shape, Step, Work, due_after, effort_of, newest_of, stale_object, state_after}
use Rattle.dstm_order.proofs.Validations.{GoesOn, due_kind, goes, goes_on}
use Rattle.dstm_progress.proofs.Own.{AreAllowed}
use Rattle.dstm_progress.specs.Causes.{Has, finds_stale}
use Rattle.dstm_progress.proofs.Sound.{Sound, drawn_in, sound_after}

-- an event that finds a read stale is at the object of this read
stale_how : (s : Shape) (l : LocalState) (e : Event) (k : Kind) → AllowedAs k s l e → Sound l →
    l.stale ≡ false → (after k s l e).stale ≡ true → e.place ≡ stale_object (after k s l e)
stale_how s l e LookObj a h was now = let none : l.drawn ≡ None = drawn_in l h a.2.0 in rw none refl
stale_how s l e Check a h was now =
    rw (some a.2.0) (a.0 ∙ ap (λ n. (or_read (slice_get l.reads n)).object) (omega arith))
  where
    some : ((l.phase ≡ Running) × (is_some l.pass ≡ true)) ⊎ (l.phase ≡ Drawn) →
        (is_some l.pass || is_some l.drawn) ≡ true
    some (inl x) = rw x.1 refl
    some (inr q) = or_right (is_some l.pass) (is_some l.drawn) (drawn_in l h q)
stale_how s l e k a h was now = absurd (grind (arith, nat_tests))

pub quit_object : (s : Shape) (l : LocalState) (e : Event) {k : Kind} → k ≡ Quit →
    stale_object (after k s l e) ≡ stale_object l
quit_object s l e {k = Quit} q = refl
quit_object s l e q = absurd (cc)

pub not_quit : (s : Shape) (l : LocalState) (e : Event) (k : Kind) → (after k s l e).phase ≢ Outside → k ≢ Quit
not_quit s l e Quit i q = i refl
not_quit s l e k i q = absurd (cc)

goes_unless : (k : Kind) (n : ℕ) → k ≢ Quit → goes (Step k n) ≡ true
goes_unless Quit n h = absurd (h refl)
goes_unless k n h = refl

-- where an event comes after which the attempt is under way, no read was stale, and the table says that it was due
abbrev pub Went : Work → Shape → LocalState → Lcg → Event → List Event → Type 0
Went w s l g e es = (n : ℕ) × GoesOn w s (newest_of es) (state_after s l es) (effort_of s l g es) (Step e.kind n)

pub went : (w : Work) (s : Shape) (l : LocalState) (g : Lcg) (e : Event) (es : List Event) →
    Obeys (Doing w) s l g (e ∷ es) → (state_after s l (e ∷ es)).phase ≢ Outside → Went w s l g e es
went w s l g e es o i =
    let due = due_kind (due_after (Doing w) s l g es) e o.1 refl in (
      due.0,
      goes_on w s (newest_of es) (state_after s l es) (effort_of s l g es) due.1
          (goes_unless e.kind due.0 (not_quit s (state_after s l es) e e.kind i)),
    )

-- a call that began with no read stale, and now has one
pub stale_now : (w : Work) (s : Shape) (l : LocalState) (g : Lcg) (quit : Event) (es : List Event) →
    Obeys (Doing w) s l g es → AreAllowed s l es → Sound l → l.stale ≡ false → (state_after s l es).phase ≢ Outside →
    (state_after s l es).stale ≡ true → Has finds_stale (stale_object (state_after s l es)) s l (quit ∷ es)
stale_now w s l g quit [] o a h was i now = absurd (cc)
stale_now w s l g quit (e ∷ es) o a h was i now =
    let agreed = (went w s l g e es o i).1.agreed in record {
      later = quit ∷ [];
      event = e;
      before = es;
      whole = refl;
      passes = rw (now, agreed) refl;
      at = stale_how s (state_after s l es) e e.kind a.1 (sound_after s l es a.0 h) agreed now;
    }
