-- What a call on an attempt leaves of its caller's state.
use Rattle.std.proofs.Common.{◌==◌, ◌∙◌, ◌∷◌, ◌≡◌, ◌≢◌, ◌⊎◌, List, [], false, inl, inr, refl}
use Rattle.std.proofs.lemmas.Bool.{cond_both}
use Rattle.dstm_engine.proofs.Base.{AllowedAs, Begin, Commit, Doing, Event, Install, Kind, Lcg, LocalState, LookSelf, Obeys, Outside, Pause, Rank, Resume, Shape, Stamp, Work, after, effort_of, given, newest_of, state_after}
use Rattle.dstm_core.specs.declared.event.Kind.TheVariants.{Validating as ToValidating}
use Rattle.dstm_progress.proofs.Calls.{inside_phase, nothing_due}
use Rattle.dstm_progress.proofs.Own.{AreAllowed}

-- no stamp was drawn and no rank put for the next attempt, and a stamp stands as before unless the attempt commits
pub record Lasts (old new : LocalState) : Type 0 where
  pub stamped : new.stamped ≡ false
  pub ranked : new.ranked ≡ false
  pub stands : (new.phase ≢ Outside) ⊎ (new.committed ≡ false) → new.stands ≡ old.stands

as_before : (old new : LocalState) → new.stamped ≡ old.stamped → new.ranked ≡ old.ranked → new.stands ≡ old.stands →
    old.stamped ≡ false → old.ranked ≡ false → Lasts old new
as_before old new st rk sd x y = record { stamped = st ∙ x; ranked = rk ∙ y; stands = λ _. sd }

event_lasts : (s : Shape) (l : LocalState) (e : Event) (k : Kind) → AllowedAs k s l e → l.phase ≢ Outside →
    l.stamped ≡ false → l.ranked ≡ false → Lasts l (after k s l e)
event_lasts s l e Stamp a i x y = absurd (i a.2.0)
event_lasts s l e Begin a i x y = absurd (i a.2.0)
event_lasts s l e Rank a i x y = record { stamped = x; ranked = inside_phase l.phase i; stands = λ _. refl }
event_lasts s l e Commit a i x y = record { stamped = x; ranked = y; stands = stands }
  where
    stands : ((after Commit s l e).phase ≢ Outside) ⊎ ((after Commit s l e).committed ≡ false) →
        (after Commit s l e).stands ≡ l.stands
    stands (inl z) = absurd (z refl)
    stands (inr z) = rw z refl
event_lasts s l e LookSelf a i x y =
    cond_both (e.found == given l.phase) _ _ (Lasts l) (λ _. as_before l _ refl refl refl x y)
    (λ _. as_before l _ refl refl refl x y)
event_lasts s l e Install a i x y =
    cond_both (e.found == e.expected) _ _ (Lasts l) (λ _. as_before l _ refl refl refl x y)
    (λ _. as_before l _ refl refl refl x y)
event_lasts s l e ToValidating a i x y =
    cond_both (e.found == 1) _ _ (Lasts l) (λ _. as_before l _ refl refl refl x y)
    (λ _. as_before l _ refl refl refl x y)
event_lasts s l e Pause a i x y =
    cond_both (e.found == 1) _ _ (Lasts l) (λ _. as_before l _ refl refl refl x y)
    (λ _. as_before l _ refl refl refl x y)
event_lasts s l e Resume a i x y =
    cond_both (e.found == 2) _ _ (Lasts l) (λ _. as_before l _ refl refl refl x y)
    (λ _. as_before l _ refl refl refl x y)
event_lasts s l e k a i x y = as_before l _ refl refl refl x y

pub call_lasts : (w : Work) (s : Shape) (l : LocalState) (g : Lcg) (es : List Event) → AreAllowed s l es →
    Obeys (Doing w) s l g es → l.stamped ≡ false → l.ranked ≡ false → Lasts l (state_after s l es)
call_lasts w s l g [] a h x y = as_before l l refl refl refl x y
call_lasts w s l g (e ∷ es) a h x y =
    let m = state_after s l es in
    let inside : m.phase ≢ Outside = λ z. nothing_due w s (newest_of es) m (effort_of s l g es) e z h.1 in
    let ih = call_lasts w s l g es a.0 h.0 x y in
    let one = event_lasts s m e e.kind a.1 inside ih.stamped ih.ranked in record {
      stamped = one.stamped;
      ranked = one.ranked;
      stands = λ z. one.stands z ∙ ih.stands (inl inside);
    }
